-- Which declaration of a pickle is wrong first, counted from 1.
use Rattle.std.specs.Prelude.{◌≡◌, ℕ, ◌+◌, List, [], ◌∷◌, ◌++◌, Option, Some, None, Result, Ok, Err}
use Rattle.pickle_tree.specs.Tree.{DeclarationTree}
use Rattle.pickle_types.specs.declared.fault.FaultKind.{FaultKind}
use Rattle.pickle_types.specs.declared.fault.FaultKind.TheVariants.{Memory}
use Rattle.pickle_types.specs.Types.{PokeType}
use Rattle.pickle_types.specs.Names.{Names}
use Rattle.pickle_types.specs.Meaning.{declared_type}

-- this place, where a declaration has no type; else what `later` gives for its type
abbrev pub or_later : (place : ℕ) → (PokeType → Option ℕ) → Result PokeType FaultKind → Option ℕ
or_later place later (Err kind) = Some place
or_later place later (Ok type) = later type

-- the place of the first wrong declaration; the first of these has the given place
unfoldable pub first_wrong : (place : ℕ) → Names → List DeclarationTree → Option ℕ
first_wrong place names [] = None
first_wrong place names (d ∷ ds) =
    or_later place (λ type. first_wrong (place + 1) (names ++ (d.name, type) ∷ []) ds) (declared_type names d)

-- the number in a fault: 0 for an allocation failure, else that of the first wrong declaration
abbrev pub TellsPlace : FaultKind → (told : ℕ) → (wrong : Option ℕ) → Type 0
TellsPlace Memory told wrong = told ≡ 0
TellsPlace kind told wrong = wrong ≡ Some told
