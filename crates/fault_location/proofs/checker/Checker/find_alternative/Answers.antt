use Rattle.std.proofs.Common.{rules, [], ◌+◌, drop, refl, ◌∙◌, arith}
use Rattle.std.proofs.lemmas.List.{drop_more, drop_all}
use Rattle.std.proofs.lemmas.Result.{err_from_is_err_and}
use Rattle.pickle_types.specs.Table.{type_of, open_parts}
use Rattle.fault_parts.specs.Arises.{no_miss_before}
use Rattle.fault_location.proofs.Located.{alternative_found, alternatives_end}
use Rattle.fault_location.proofs.Searching.{later_ends}
use Rattle.fault_location.proofs.checker.Checker.find_alternative.Goals as goal

pub loop-place-init : goal.loop-place-init
loop-place-init g c = record {
  frame = search rules;
  depth = search rules;
  same = refl;
  so_far = λ bytes known. no_miss_before;
  spent = λ bytes known. omega arith;
}

pub returns-in-Fits-clause-is : goal.returns-in-Fits-clause-is
returns-in-Fits-clause-is g c =
    λ bytes known.
    let i = c.loop-place.invariant in
    let next = drop_more c.args.alternatives.now c.loop-place.place c.index-alternatives-place.result (omega arith) in
    let next = rw (← c.index-alternatives-place.is) at next in
    let before = rw next at (i.so_far bytes known) in
    let fits = rw (i.frame.lent.nodes, c.in-Fits.is, i.same)
    at (c.in_ok-try_alternative.ensures.is bytes (i.frame.left.bytes ∙ known)) in
    alternatives_end before
    (fits (open_parts (type_of c.args.self.now.nodes.now) (drop (c.loop-place.place + 1) c.args.alternatives.now)))

pub returns-in-Beside-clause-is : goal.returns-in-Beside-clause-is
returns-in-Beside-clause-is g c =
    λ bytes known.
    let i = c.loop-place.invariant in
    let next = drop_more c.args.alternatives.now c.loop-place.place c.index-alternatives-place.result (omega arith) in
    let next = rw (← c.index-alternatives-place.is) at next in
    let before = rw next at (i.so_far bytes known) in
    let beside = rw (i.frame.lent.nodes, c.in-Beside.is, i.same)
    at (c.in_ok-try_alternative.ensures.is bytes (i.frame.left.bytes ∙ known)) in
    alternative_found [] before
    (beside (open_parts (type_of c.args.self.now.nodes.now) (drop (c.loop-place.place + 1) c.args.alternatives.now)))

pub returns-in-Inside-clause-is : goal.returns-in-Inside-clause-is
returns-in-Inside-clause-is g c =
    λ bytes known.
    let i = c.loop-place.invariant in
    let next = drop_more c.args.alternatives.now c.loop-place.place c.index-alternatives-place.result (omega arith) in
    let next = rw (← c.index-alternatives-place.is) at next in
    let before = rw next at (i.so_far bytes known) in
    let inside = rw (i.frame.lent.nodes, c.in-Inside.is, i.same)
    at (c.in_ok-try_alternative.ensures.is bytes (i.frame.left.bytes ∙ known)) in
    rw c.alternative_part-part.ensures.inner_is (alternative_found _ before
    (inside (open_parts (type_of c.args.self.now.nodes.now) (drop (c.loop-place.place + 1) c.args.alternatives.now))))

pub returns-clause-is : goal.returns-clause-is
returns-clause-is g c =
    λ bytes known.
    let i = c.loop-place.invariant in
    alternatives_end (rw (drop_all c.loop-place.place c.args.alternatives.now (omega arith)) at (i.so_far bytes known))
    refl

pub returns-in-Fits-clause-spends : goal.returns-in-Fits-clause-spends
returns-in-Fits-clause-spends g c =
    λ bytes known.
    let i = c.loop-place.invariant in
    let next = drop_more c.args.alternatives.now c.loop-place.place c.index-alternatives-place.result (omega arith) in
    let next = rw (← c.index-alternatives-place.is) at next in
    let spent = rw next at (i.spent bytes known) in
    let one = rw (i.frame.lent.nodes, c.in-Fits.is, i.same)
    at (c.in_ok-try_alternative.ensures.spends bytes (i.frame.left.bytes ∙ known)
    (open_parts (type_of c.args.self.now.nodes.now) (drop (c.loop-place.place + 1) c.args.alternatives.now))) in
    omega (arith, spent, one)

pub returns-in-Beside-clause-spends : goal.returns-in-Beside-clause-spends
returns-in-Beside-clause-spends g c =
    λ bytes known.
    let i = c.loop-place.invariant in
    let next = drop_more c.args.alternatives.now c.loop-place.place c.index-alternatives-place.result (omega arith) in
    let next = rw (← c.index-alternatives-place.is) at next in
    let spent = rw next at (i.spent bytes known) in
    let one = rw (i.frame.lent.nodes, c.in-Beside.is, i.same)
    at (c.in_ok-try_alternative.ensures.spends bytes (i.frame.left.bytes ∙ known)
    (open_parts (type_of c.args.self.now.nodes.now) (drop (c.loop-place.place + 1) c.args.alternatives.now))) in
    omega (arith, spent, one)

pub returns-in-Inside-clause-spends : goal.returns-in-Inside-clause-spends
returns-in-Inside-clause-spends g c =
    λ bytes known.
    let i = c.loop-place.invariant in
    let next = drop_more c.args.alternatives.now c.loop-place.place c.index-alternatives-place.result (omega arith) in
    let next = rw (← c.index-alternatives-place.is) at next in
    let spent = rw next at (i.spent bytes known) in
    let one = rw (i.frame.lent.nodes, c.in-Inside.is, i.same)
    at (c.in_ok-try_alternative.ensures.spends bytes (i.frame.left.bytes ∙ known)
    (open_parts (type_of c.args.self.now.nodes.now) (drop (c.loop-place.place + 1) c.args.alternatives.now))) in
    rw c.alternative_part-part.ensures.inner_is (omega (arith, spent, one))

pub loop-place-preserved : goal.loop-place-preserved
loop-place-preserved g c =
    let i = c.loop-place.invariant in
    let next = drop_more c.args.alternatives.now c.loop-place.place c.index-alternatives-place.result (omega arith) in
    let next = rw (← c.index-alternatives-place.is) at next in
    let rest = open_parts (type_of c.args.self.now.nodes.now) (drop (c.loop-place.place + 1) c.args.alternatives.now) in
    record {
      frame = search rules;
      depth = search rules;
      same = search rules;
      so_far = λ bytes known.
          let before = rw next at (i.so_far bytes known) in
          let missed = rw (i.frame.lent.nodes, c.in-Misses.is, i.same)
          at (c.in_ok-try_alternative.ensures.is bytes (i.frame.left.bytes ∙ known)) in
          missed _ _ _ before;
      spent = λ bytes known.
          let spent = rw next at (i.spent bytes known) in
          let one = rw (i.frame.lent.nodes, c.in-Misses.is, i.same)
          at (c.in_ok-try_alternative.ensures.spends bytes (i.frame.left.bytes ∙ known) rest) in
          omega (arith, spent, one);
    }

pub returns-clause-spends : goal.returns-clause-spends
returns-clause-spends g c =
    λ bytes known.
    let i = c.loop-place.invariant in
    let spent = rw (drop_all c.loop-place.place c.args.alternatives.now (omega arith)) at (i.spent bytes known) in
    omega (arith, spent)

pub returns-in_err-try_alternative-clause-spends : goal.returns-in_err-try_alternative-clause-spends
returns-in_err-try_alternative-clause-spends g c =
    let i = c.loop-place.invariant in
    let p = err_from_is_err_and c.from_residual.result c.from_residual.ensures.1 in
    let next = drop_more c.args.alternatives.now c.loop-place.place c.index-alternatives-place.result (omega arith) in
    let next = rw (← c.index-alternatives-place.is) at next in
    let rest = open_parts (type_of c.args.self.now.nodes.now) (drop (c.loop-place.place + 1) c.args.alternatives.now) in
    λ bytes known.
    let spent = rw next at (i.spent bytes known) in
    let one = rw (i.frame.lent.nodes, i.same)
    at (c.in_err-try_alternative.ensures.spends bytes (i.frame.left.bytes ∙ known) rest) in
    rw (p.1, p.2)
    (later_ends (g.S.Space.view c.args.space.now) (g.S.Space.view c.loop-place.space)
    (g.S.Space.view c.try_alternative.new.space) c.args.self.now.meter.now c.loop-place.self.meter.now _ _ _
    i.frame.left.failures c.in_err-try_alternative.ensures.frame.left.failures i.frame.left.limit
    (omega (arith, spent)) one)
