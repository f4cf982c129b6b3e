use Rattle.std.proofs.Common.{arith, ◌≡◌, ◌-◌, drop, length, sym, subst}
use Rattle.std.proofs.lemmas.List.{drop_more, drop_all}
use Rattle.type_parts.specs.CanHave.{AreKnown, any_type, by_path, by_pattern, can_have_columns}
use Rattle.type_parts.proofs.Known.{columns_before}
use Rattle.type_parts.proofs.can_have.Finder.columns.Goals as goal

pub loop-at-init : goal.loop-at-init
loop-at-init c = (
  omega arith,
  subst (λ cs. AreKnown c.args.self.now.nodes.now c.in_ok-all.all.items (can_have_columns c.args.row.now cs))
      (sym (drop_all (length c.args.columns.now) c.args.columns.now (omega arith))) c.in_ok-all.ensures,
)

pub loop-at-preserved : goal.loop-at-preserved
loop-at-preserved c =
    let i = c.loop-at.invariant in
    let next = drop_more c.args.columns.now (c.loop-at.at - 1) c.index-columns-at.result (omega arith) in
    let next = rw (← c.index-columns-at.is) at next in (
      omega arith,
      columns_before c.args.self.now.nodes.now c.args.row.now c.args.columns.now c.loop-at.at c.index-columns-at.result
          c.in_ok-all-2.all.items (omega arith) next
          (c.in_ok-all-2.ensures
          (by_pattern c.args.row.now (by_path c.index-columns-at.result.path.steps.items any_type))
          (can_have_columns c.args.row.now (drop c.loop-at.at c.args.columns.now))
          (c.in_ok-own.ensures.each (by_path c.index-columns-at.result.path.steps.items any_type)
          (rw (c.as_slice.ensures.value, ← c.index-columns-at.is)
          at (c.in_ok-column.ensures.each any_type c.in_ok-any.ensures))) i.1),
    )

pub returns : goal.returns
returns c =
    let i = c.loop-at.invariant in
    let none : c.loop-at.at ≡ 0 = omega (arith, c.loop-at-test.false) in
    subst (λ k. AreKnown c.args.self.now.nodes.now c.loop-at.all.items
    (can_have_columns c.args.row.now (drop k c.args.columns.now))) none i.1
