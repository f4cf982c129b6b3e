use Rattle.std.proofs.Common.{◌≡◌, ℕ, ◌<◌}
use Rattle.pickle_types.specs.Types.{IntegerOf}
use Rattle.pickle_types.specs.Table.{type_of}
use Rattle.pickle_types.proofs.check.sorts.predeclared_node.Given as goal

abbrev pub invariant-loop-i : goal.invariant-loop-i
invariant-loop-i l = record { first : (j : ℕ) → j < l.i → type_of l.nodes j ≡ IntegerOf l.ty → ⊥ }
