-- The types that have names.
use Rattle.std.specs.Prelude.{ℕ, List, [], ◌∷◌, codes, Option, Some, None, Bool, true, false, if◌then◌else◌}
use Rattle.std.specs.Str.{bytes_eq}
use Rattle.pickle_types.specs.Types.{PokeType, IntegerOf}

-- the types that may be named, each with its name
abbrev pub Names : Type 0
Names = List (List ℕ × PokeType)

abbrev pub find_type : List ℕ → Names → Option PokeType
find_type word [] = None
find_type word (d ∷ ds) = if bytes_eq word d.0 then Some d.1 else find_type word ds

abbrev pub integer : ℕ → Bool → PokeType
integer width signed = IntegerOf (record { width = width; signed = signed })

-- the types that need no declaration
abbrev pub predeclared : Names
predeclared =
    (codes "bit", integer 1 false) ∷ (codes "nibble", integer 4 false) ∷ (codes "byte", integer 8 false)
    ∷ (codes "char", integer 8 false)
    ∷ (codes "short", integer 16 true) ∷ (codes "ushort", integer 16 false) ∷ (codes "int", integer 32 true)
    ∷ (codes "uint", integer 32 false)
    ∷ (codes "long", integer 64 true) ∷ (codes "ulong", integer 64 false)
    ∷ (codes "int8", integer 8 true) ∷ (codes "int16", integer 16 true) ∷ (codes "int32", integer 32 true)
    ∷ (codes "int64", integer 64 true)
    ∷ (codes "uint8", integer 8 false) ∷ (codes "uint16", integer 16 false) ∷ (codes "uint32", integer 32 false)
    ∷ (codes "uint64", integer 64 false)
    ∷ []
