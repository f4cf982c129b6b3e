use Rattle.std.proofs.Common.{arith, ◌≡◌, ◌-◌, drop, length, sym, subst}
use Rattle.std.proofs.lemmas.List.{drop_more, drop_all}
use Rattle.type_parts.specs.CanHave.{AreKnown, any_type, can_have}
use Rattle.type_parts.specs.Twice.{can_match_twice}
use Rattle.type_parts.proofs.Known.{known_count, pattern_before, twice_before}
use Rattle.type_parts.proofs.can_have.Finder.twice.Goals as goal

pub loop-at-init : goal.loop-at-init
loop-at-init c =
    let none = drop_all (length c.args.steps.now) c.args.steps.now (omega arith) in
    record {
      within = omega arith;
      count = known_count c.args.self.now.nodes.now c.in_ok-known.known.items any_type c.in_ok-known.ensures;
      can = subst (λ ss. AreKnown c.args.self.now.nodes.now c.in_ok-known.known.items (can_have ss)) (sym none)
          c.in_ok-known.ensures;
      twice = subst (λ ss. AreKnown c.args.self.now.nodes.now c.in_ok-twice.twice.items (can_match_twice ss)) (sym none)
          c.in_ok-twice.ensures;
    }

pub loop-at-preserved : goal.loop-at-preserved
loop-at-preserved c =
    let i = c.loop-at.invariant in
    let left = drop c.loop-at.at c.args.steps.now in
    let next = drop_more c.args.steps.now (c.loop-at.at - 1) c.index-steps-at.result (omega arith) in
    let next = rw (← c.index-steps-at.is) at next in
    let before = rw (c.as_slice.ensures.value, c.as_slice-in-loop-at.ensures.value) at c.in_ok-twice-2.ensures in
    record {
      within = omega arith;
      count = c.in_ok-known-2.ensures.count;
      can = pattern_before c.args.self.now.nodes.now c.args.steps.now c.loop-at.at c.index-steps-at.result
          c.in_ok-known-2.known.items any_type (omega arith) next
          (rw (← c.of.ensures) (c.in_ok-known-2.ensures.each (can_have left) i.can));
      twice = twice_before c.args.self.now.nodes.now c.args.steps.now c.loop-at.at c.index-steps-at.result
          c.in_ok-twice-2.twice.items (omega arith) next (before (can_have left) (can_match_twice left) i.can i.twice);
    }

pub returns : goal.returns
returns c =
    let none : c.loop-at.at ≡ 0 = omega (arith, c.loop-at-test.false) in
    subst (λ k. AreKnown c.args.self.now.nodes.now c.loop-at.twice.items (can_match_twice (drop k c.args.steps.now)))
    none
    c.loop-at.invariant.twice
