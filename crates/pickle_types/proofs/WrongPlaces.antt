-- The first wrong declaration, found as the declarations are gone through.
use Rattle.std.proofs.Common.{◌≡◌, ℕ, ◌+◌, List, [], ◌∷◌, ◌++◌, Option, Some, Ok, refl}
use Rattle.pickle_tree.specs.Tree.{DeclarationTree}
use Rattle.pickle_types.specs.declared.fault.FaultKind.{FaultKind}
use Rattle.pickle_types.specs.declared.fault.FaultKind.TheVariants.{Memory}
use Rattle.pickle_types.specs.Types.{PokeType}
use Rattle.pickle_types.specs.Names.{Names}
use Rattle.pickle_types.specs.Meaning.{declared_type}
use Rattle.pickle_types.specs.Built.{Fails}
use Rattle.pickle_types.specs.Wrong.{first_wrong, TellsPlace}

pub wrong_next : (place : ℕ) (names : Names) (d : DeclarationTree) (ds : List DeclarationTree) (t : PokeType) →
    declared_type names d ≡ Ok t →
    first_wrong place names (d ∷ ds) ≡ first_wrong (place + 1) (names ++ (d.name, t) ∷ []) ds
unfolding first_wrong
wrong_next place names d ds t e = rw e refl

pub wrong_here : (kind : FaultKind) (place : ℕ) (names : Names) (d : DeclarationTree)
    (ds : List DeclarationTree) (told : ℕ) →
    Fails kind (declared_type names d) → TellsPlace kind told (Some place) →
    TellsPlace kind told (first_wrong place names (d ∷ ds))
unfolding first_wrong
wrong_here Memory place names d ds told fails tells = tells
wrong_here kind place names d ds told fails tells = rw fails tells

pub tells_along : (kind : FaultKind) (told : ℕ) (a b : Option ℕ) → a ≡ b → TellsPlace kind told b →
    TellsPlace kind told a
tells_along kind told a b e tells = rw e tells
