use Rattle.std.proofs.Common.{arith, ◌≡◌, ◌-◌, drop, length, sym, subst}
use Rattle.std.proofs.lemmas.List.{drop_more, drop_all}
use Rattle.type_parts.specs.CanHave.{AreKnown, any_type, can_have, can_have_each}
use Rattle.type_parts.proofs.Known.{each_before}
use Rattle.type_parts.proofs.can_have.Finder.each.Goals as goal

pub loop-at-init : goal.loop-at-init
loop-at-init c = (
  omega arith,
  subst (λ cs. AreKnown c.args.self.now.nodes.now c.in_ok-all.all.items (can_have_each cs))
      (sym (drop_all (length c.args.patterns.now) c.args.patterns.now (omega arith))) c.in_ok-all.ensures,
)

pub loop-at-preserved : goal.loop-at-preserved
loop-at-preserved c =
    let i = c.loop-at.invariant in
    let next = drop_more c.args.patterns.now (c.loop-at.at - 1) c.index-patterns-at.result (omega arith) in
    let next = rw (← c.index-patterns-at.is) at next in (
      omega arith,
      each_before c.args.self.now.nodes.now c.args.patterns.now c.loop-at.at c.index-patterns-at.result
          c.in_ok-all-2.all.items (omega arith) next
          (c.in_ok-all-2.ensures (can_have c.index-patterns-at.result.steps.items)
          (can_have_each (drop c.loop-at.at c.args.patterns.now))
          (rw (c.as_slice.ensures.value, ← c.index-patterns-at.is)
          at (c.in_ok-own.ensures.each any_type c.in_ok-any.ensures)) i.1),
    )

pub returns : goal.returns
returns c =
    let i = c.loop-at.invariant in
    let none : c.loop-at.at ≡ 0 = omega (arith, c.loop-at-test.false) in
    subst (λ k. AreKnown c.args.self.now.nodes.now c.loop-at.all.items (can_have_each (drop k c.args.patterns.now)))
    none i.1
