-- What a fault of the definitions means for the rules.
use Rattle.std.proofs.Common.{List, refl}
use Rattle.std.specs.Prelude.{◌≢◌}
use Rattle.pickle_tree.specs.Tree.{DeclarationTree}
use Rattle.pickle_types.specs.declared.fault.FaultKind.{FaultKind}
use Rattle.pickle_types.specs.declared.fault.FaultKind.TheVariants.{Memory}
use Rattle.pickle_types.specs.Names.{predeclared}
use Rattle.pickle_types.specs.Meaning.{declared}
use Rattle.pickle_types.specs.Built.{Fails}
use Rattle.pickle_types.specs.TypeTable.{IsWellTyped}
use Rattle.pickle_types.proofs.Meanings.{declared_whole}

pub ill_typed : (kind : FaultKind) (ds : List DeclarationTree) → Fails kind (declared predeclared ds) →
    kind ≢ Memory → ¬ IsWellTyped ds
ill_typed Memory ds h other = absurd (other refl)
ill_typed _ ds h other = λ well. let e = declared_whole ds predeclared well.0 well.1 in cc
