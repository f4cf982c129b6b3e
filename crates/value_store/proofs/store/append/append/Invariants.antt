use Rattle.std.proofs.Common.{◌≡◌, ◌++◌, take}
use Rattle.std.specs.Prelude.{vec_capacity}
use Rattle.value_store.proofs.store.append.append.Given as goal

abbrev pub invariant-loop-item : goal.invariant-loop-item
invariant-loop-item g l =
    (l.to.items ≡ l.initial.to.items ++ take l.item-index l.items) × (vec_capacity l.to ≡ vec_capacity l.initial.to)
