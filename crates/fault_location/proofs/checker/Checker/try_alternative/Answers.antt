use Rattle.std.proofs.Common.{refl, sym, ◌∙◌, arith}
use Rattle.std.proofs.lemmas.Result.{err_from_is_err_and}
use Rattle.bit_space.specs.Bits.{bits_of}
use Rattle.bit_space.specs.SpaceView.{HasRisen}
use Rattle.fault_location.specs.Ways.{fault_of}
use Rattle.fault_location.proofs.Located.{alternative_fits, refused_misses, refused_beside, faulty_misses, faulty_inside}
use Rattle.fault_location.proofs.Searching.{attempt_steps, alternatives_from, attempt_least, refused_after, faulty_after, inside_after, search_ends}
use Rattle.fault_location.specs.Frames.{frames_after, frames_of}
use Rattle.fault_location.proofs.checker.Checker.try_alternative.Goals as goal

pub returns-in-Passed-clause-is : goal.returns-in-Passed-clause-is
returns-in-Passed-clause-is g c =
    λ bytes known.
    let h = rw (c.alternative_part.ensures.inner_is, c.alternative_part.ensures.clause_is, c.in-Passed.is)
    at (c.in_ok-try_part.ensures.is bytes known) in
    alternative_fits (bits_of bytes) c.args.self.now.nodes.now c.args.alternative.now c.args.whole.order
    (frames_of c.args.self.now) (frames_after c.args.self.now c.try_part.new.self) c.args.whole.start _ h

pub returns-then-misses-clause-is : goal.returns-then-misses-clause-is
returns-then-misses-clause-is g c =
    λ bytes known.
    let h = rw (c.alternative_part.ensures.inner_is, c.alternative_part.ensures.clause_is, c.in-Beside.is)
    at (c.in_ok-try_part.ensures.is bytes known) in
    refused_misses (bits_of bytes) c.args.self.now.nodes.now c.args.alternative.now c.args.whole.order
    (frames_of c.args.self.now) (frames_after c.args.self.now c.try_part.new.self) c.args.whole.start
    (fault_of c.in-Beside.fault) h (sym (rw c.stop_of.ensures at c.misses.ensures) ∙ c.if-misses.true)

pub returns-else-misses-clause-is : goal.returns-else-misses-clause-is
returns-else-misses-clause-is g c =
    λ bytes known.
    let h = rw (c.alternative_part.ensures.inner_is, c.alternative_part.ensures.clause_is, c.in-Beside.is)
    at (c.in_ok-try_part.ensures.is bytes known) in
    refused_beside (bits_of bytes) c.args.self.now.nodes.now c.args.alternative.now c.args.whole.order
    (frames_of c.args.self.now) (frames_after c.args.self.now c.try_part.new.self) c.args.whole.start
    (fault_of c.in-Beside.fault) h (sym (rw c.stop_of.ensures at c.misses.ensures) ∙ c.if-misses.false)

pub returns-then-misses-2-clause-is : goal.returns-then-misses-2-clause-is
returns-then-misses-2-clause-is g c =
    λ bytes known.
    let h = rw (c.alternative_part.ensures.inner_is, c.alternative_part.ensures.clause_is, c.in-Inside.is)
    at (c.in_ok-try_part.ensures.is bytes known) in
    faulty_misses (bits_of bytes) c.args.self.now.nodes.now c.args.alternative.now c.args.whole.order
    (frames_of c.args.self.now) (frames_after c.args.self.now c.try_part.new.self) c.args.whole.start
    (fault_of c.in-Inside.fault) c.in-Inside.field-0 h
    (sym (rw c.stop_of-in-Inside.ensures at c.misses-in-Inside.ensures) ∙ c.if-misses-2.true)

pub returns-else-misses-2-clause-is : goal.returns-else-misses-2-clause-is
returns-else-misses-2-clause-is g c =
    λ bytes known.
    let h = rw (c.alternative_part.ensures.inner_is, c.alternative_part.ensures.clause_is, c.in-Inside.is)
    at (c.in_ok-try_part.ensures.is bytes known) in
    faulty_inside (bits_of bytes) c.args.self.now.nodes.now c.args.alternative.now c.args.whole.order
    (frames_of c.args.self.now) (frames_after c.args.self.now c.try_part.new.self) c.args.whole.start
    (fault_of c.in-Inside.fault) c.in-Inside.field-0 h
    (sym (rw c.stop_of-in-Inside.ensures at c.misses-in-Inside.ensures) ∙ c.if-misses-2.false)

pub returns-in-Passed-clause-spends : goal.returns-in-Passed-clause-spends
returns-in-Passed-clause-spends g c =
    λ bytes known rest.
    let one = rw (c.alternative_part.ensures.inner_is, c.alternative_part.ensures.clause_is)
    at (c.in_ok-try_part.ensures.spends bytes known) in
    let least = attempt_least (bits_of bytes) c.args.self.now.nodes.now c.args.alternative.now c.args.whole.order
    (frames_of c.args.self.now) (frames_after c.args.self.now c.try_part.new.self) c.args.whole.start rest in
    omega (arith, one, least)

pub returns-then-misses-clause-spends : goal.returns-then-misses-clause-spends
returns-then-misses-clause-spends g c =
    λ bytes known rest.
    let h = rw (c.alternative_part.ensures.inner_is, c.alternative_part.ensures.clause_is, c.in-Beside.is)
    at (c.in_ok-try_part.ensures.is bytes known) in
    let one = rw (c.alternative_part.ensures.inner_is, c.alternative_part.ensures.clause_is)
    at (c.in_ok-try_part.ensures.spends bytes known) in
    let least = refused_after (bits_of bytes) c.args.self.now.nodes.now c.args.alternative.now c.args.whole.order
    (frames_of c.args.self.now) (frames_after c.args.self.now c.try_part.new.self) c.args.whole.start rest
    (fault_of c.in-Beside.fault) h (sym (rw c.stop_of.ensures at c.misses.ensures) ∙ c.if-misses.true) in
    omega (arith, one, least)

pub returns-else-misses-clause-spends : goal.returns-else-misses-clause-spends
returns-else-misses-clause-spends g c =
    λ bytes known rest.
    let h = rw (c.alternative_part.ensures.inner_is, c.alternative_part.ensures.clause_is, c.in-Beside.is)
    at (c.in_ok-try_part.ensures.is bytes known) in
    let one = rw (c.alternative_part.ensures.inner_is, c.alternative_part.ensures.clause_is)
    at (c.in_ok-try_part.ensures.spends bytes known) in
    let least = attempt_least (bits_of bytes) c.args.self.now.nodes.now c.args.alternative.now c.args.whole.order
    (frames_of c.args.self.now) (frames_after c.args.self.now c.try_part.new.self) c.args.whole.start rest in
    omega (arith, one, least)

pub returns-then-misses-2-clause-spends : goal.returns-then-misses-2-clause-spends
returns-then-misses-2-clause-spends g c =
    λ bytes known rest.
    let h = rw (c.alternative_part.ensures.inner_is, c.alternative_part.ensures.clause_is, c.in-Inside.is)
    at (c.in_ok-try_part.ensures.is bytes known) in
    let one = rw (c.alternative_part.ensures.inner_is, c.alternative_part.ensures.clause_is)
    at (c.in_ok-try_part.ensures.spends bytes known) in
    let least = faulty_after (bits_of bytes) c.args.self.now.nodes.now c.args.alternative.now c.args.whole.order
    (frames_of c.args.self.now) (frames_after c.args.self.now c.try_part.new.self) c.args.whole.start rest
    (fault_of c.in-Inside.fault) c.in-Inside.field-0 h
    (sym (rw c.stop_of-in-Inside.ensures at c.misses-in-Inside.ensures) ∙ c.if-misses-2.true) in
    omega (arith, one, least)

pub returns-else-misses-2-clause-spends : goal.returns-else-misses-2-clause-spends
returns-else-misses-2-clause-spends g c =
    λ bytes known rest.
    let h = rw (c.alternative_part.ensures.inner_is, c.alternative_part.ensures.clause_is, c.in-Inside.is)
    at (c.in_ok-try_part.ensures.is bytes known) in
    let one = rw (c.alternative_part.ensures.inner_is, c.alternative_part.ensures.clause_is)
    at (c.in_ok-try_part.ensures.spends bytes known) in
    let least = inside_after (bits_of bytes) c.args.self.now.nodes.now c.args.alternative.now c.args.whole.order
    (frames_of c.args.self.now) (frames_after c.args.self.now c.try_part.new.self) c.args.whole.start rest
    (fault_of c.in-Inside.fault) c.in-Inside.field-0 h
    (sym (rw c.stop_of-in-Inside.ensures at c.misses-in-Inside.ensures) ∙ c.if-misses-2.false) in
    omega (arith, one, least)

pub returns-in_err-try_part-clause-spends : goal.returns-in_err-try_part-clause-spends
returns-in_err-try_part-clause-spends g c =
    let p = err_from_is_err_and c.from_residual.result c.from_residual.ensures.1 in
    λ bytes known rest.
    let one = rw (c.alternative_part.ensures.inner_is, c.alternative_part.ensures.clause_is)
    at (c.in_err-try_part.ensures.spends bytes known) in
    let least = attempt_least (bits_of bytes) c.args.self.now.nodes.now c.args.alternative.now c.args.whole.order
    (frames_of c.args.self.now) (frames_after c.args.self.now c.try_part.new.self) c.args.whole.start rest in
    rw (p.1, p.2)
    (search_ends
    {D = HasRisen (g.S.Space.view c.args.space.now).failures (g.S.Space.view c.try_part.new.space).failures}
    {D' = HasRisen (g.S.Space.view c.args.space.now).failures (g.S.Space.view c.try_part.new.space).failures}
    c.args.self.now.meter.now.limit c.args.self.now.meter.now.limit c.args.self.now.meter.now.steps
    c.args.self.now.meter.now.steps
    (attempt_steps (bits_of bytes) c.args.self.now.nodes.now c.args.alternative.now c.args.whole.order
    (frames_of c.args.self.now) (frames_after c.args.self.now c.try_part.new.self) c.args.whole.start rest)
    (alternatives_from (bits_of bytes) c.args.self.now.nodes.now c.args.alternative.now c.args.whole.order
    (frames_of c.args.self.now) (frames_after c.args.self.now c.try_part.new.self) c.args.whole.start rest)
    _ (λ d. d) refl
    (omega (arith, least)) one)
