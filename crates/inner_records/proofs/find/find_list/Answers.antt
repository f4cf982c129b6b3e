-- `find_list`: where the steps lead so far, the whole path goes on.
use Rattle.std.proofs.Common.{◌≡◌, ◌∙◌, [], ap, arith, drop, length, sym}
use Rattle.std.proofs.lemmas.List.{drop_all}
use Rattle.inner_records.proofs.Lists.{ends_at_list, leads_to_list}
use Rattle.inner_records.proofs.find.find_list.Goals as goal

pub returns-then-is_array-clause-list : goal.returns-then-is_array-clause-list
returns-then-is_array-clause-list c =
    let past = c.loop-step-test.false in
    let count = ap length c.deref-step-items.ensures.value in
    let done : drop c.loop-step.step-index c.args.path.now.steps.items ≡ [] =
    drop_all c.loop-step.step-index c.args.path.now.steps.items (omega (arith, past, count)) in
    leads_to_list _ _ _ (ends_at_list _ _ _ _ c.loop-step.invariant.found done
    (sym c.is_array.ensures ∙ c.if-is_array.true))
