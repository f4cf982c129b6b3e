use Rattle.std.proofs.Common.{pos, if◌then◌else◌, refl, ◌∙◌, arith}
use Rattle.std.proofs.lemmas.Result.{err_from_is_err_and}
use Rattle.pickle_types.specs.Table.{term_of}
use Rattle.pickle_meaning.specs.Arithmetic.{signed_type}
use Rattle.pickle_meaning.specs.Values.{IntegerLabel}
use Rattle.pickle_meaning.specs.Evaluation.{evaluation}
use Rattle.pickle_map.proofs.Settling.{known_truth, known_stops}
use Rattle.value_store.specs.Slots.{levels}
use Rattle.pickle_map.proofs.mapper.clauses.find_truth.Goals as goal

pub returns-in_err-tick-in-Some-clause-is : goal.returns-in_err-tick-in-Some-clause-is
returns-in_err-tick-in-Some-clause-is c nodes =
    let p = err_from_is_err_and c.from_residual.result c.from_residual.ensures.1 in
    let same = c.in_err-tick-in-Some.ensures.err in
    let last = same ∙ c.in_err-tick-in-Some.ensures.refused.0 refl in
    rw (p.1, p.2) (known_stops c.args.meter.now.limit c.args.meter.now.steps c.tick.new.self.steps c.args.place
    (IntegerLabel (if c.in-Some.holds then pos 1 else pos 0) (signed_type 32)) 3
    (evaluation (term_of c.args.e.now) (levels nodes c.args.store.now)) (c.in-Some.ensures nodes)
    last (omega (arith, same, last)))

pub returns-in_err-tick-in-Some-2-clause-is : goal.returns-in_err-tick-in-Some-2-clause-is
returns-in_err-tick-in-Some-2-clause-is c nodes =
    let p =
    err_from_is_err_and c.from_residual-in_err-tick-in-Some-2.result c.from_residual-in_err-tick-in-Some-2.ensures.1 in
    let one = c.in_ok-tick-in-Some.ensures.ok in
    let same = c.in_err-tick-in-Some-2.ensures.err in
    let last = same ∙ c.in_err-tick-in-Some-2.ensures.refused.0 refl ∙ c.in_ok-tick-in-Some.ensures.limit in
    rw (p.1, p.2) (known_stops c.args.meter.now.limit c.args.meter.now.steps c.tick-in-Some.new.self.steps c.args.place
    (IntegerLabel (if c.in-Some.holds then pos 1 else pos 0) (signed_type 32)) 3
    (evaluation (term_of c.args.e.now) (levels nodes c.args.store.now)) (c.in-Some.ensures nodes)
    last (omega (arith, one, same, last)))

pub returns-in_err-tick-in-Some-3-clause-is : goal.returns-in_err-tick-in-Some-3-clause-is
returns-in_err-tick-in-Some-3-clause-is c nodes =
    let p =
    err_from_is_err_and c.from_residual-in_err-tick-in-Some-3.result c.from_residual-in_err-tick-in-Some-3.ensures.1 in
    let one = c.in_ok-tick-in-Some.ensures.ok in
    let two = c.in_ok-tick-in-Some-2.ensures.ok in
    let same = c.in_err-tick-in-Some-3.ensures.err in
    let last = same ∙ c.in_err-tick-in-Some-3.ensures.refused.0 refl ∙ c.in_ok-tick-in-Some-2.ensures.limit
    ∙ c.in_ok-tick-in-Some.ensures.limit in
    rw (p.1, p.2) (known_stops c.args.meter.now.limit c.args.meter.now.steps c.tick-in-Some-2.new.self.steps
    c.args.place (IntegerLabel (if c.in-Some.holds then pos 1 else pos 0) (signed_type 32)) 3
    (evaluation (term_of c.args.e.now) (levels nodes c.args.store.now)) (c.in-Some.ensures nodes)
    last (omega (arith, one, two, same, last)))

pub returns-in_ok-tick-in-Some-3-clause-is : goal.returns-in_ok-tick-in-Some-3-clause-is
returns-in_ok-tick-in-Some-3-clause-is c nodes =
    let one = c.in_ok-tick-in-Some.ensures.ok in
    let two = c.in_ok-tick-in-Some-2.ensures.ok in
    let three = c.in_ok-tick-in-Some-3.ensures.ok in
    known_truth c.args.meter.now.limit c.args.meter.now.steps c.tick-in-Some-2.new.self.steps c.args.place
    c.in-Some.holds 3 (evaluation (term_of c.args.e.now) (levels nodes c.args.store.now)) (c.in-Some.ensures nodes)
    (omega (arith, one, two, three))
