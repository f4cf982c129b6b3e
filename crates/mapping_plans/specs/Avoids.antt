-- Expressions that name nothing of a frame.
use Rattle.std.specs.Prelude.{◌≡◌, ℕ, Option, Some, None}
use Rattle.pickle_types.specs.Types.{PokeType, IntegerOf, OffsetOf, StringOf, ArrayOf, StructOf, IntegralOf, UnionOf, Fields, NoFields, FieldThen, Term, Number, Text, Name, Bracket, Before, Between, Choice, Index, Select, AttributeOf, ToInteger, ToOffset, InUnit}

-- an expression names nothing of the frame at that level, counted from the innermost
abbrev pub Avoids : (level : ℕ) → Term → Type 0
Avoids level (Number type value) = Unit {0}
Avoids level (Text bytes) = Unit {0}
Avoids level (Name named place) = named ≡ level → ⊥
Avoids level (Bracket e) = Avoids level e
Avoids level (Before op e) = Avoids level e
Avoids level (Between op a b) = Avoids level a × Avoids level b
Avoids level (Choice common c x y) = Avoids level c × Avoids level x × Avoids level y
Avoids level (Index e i) = Avoids level e × Avoids level i
Avoids level (Select e place) = Avoids level e
Avoids level (AttributeOf attribute e) = Avoids level e
Avoids level (ToInteger type e) = Avoids level e
Avoids level (ToOffset type unit e) = Avoids level e
Avoids level (InUnit unit e) = Avoids level e

-- a clause that is left out avoids each frame
abbrev pub ClauseAvoids : (level : ℕ) → Option Term → Type 0
ClauseAvoids level None = Unit {0}
ClauseAvoids level (Some e) = Avoids level e

-- a type that is read as one number, without parts
abbrev pub IsScalar : PokeType → Type 0
IsScalar (IntegerOf type) = Unit {0}
IsScalar (OffsetOf type unit) = Unit {0}
IsScalar StringOf = ⊥
IsScalar (ArrayOf element bound) = ⊥
IsScalar (StructOf name pinned _) = ⊥
IsScalar (IntegralOf name type fields) = ⊥
IsScalar (UnionOf name alternatives) = ⊥

-- Fields that are numbers, one after the other: each is there, and none has a label. Their constraints name nothing of
-- the frame around the struct.
abbrev pub AreColumns : Fields → Type 0
AreColumns NoFields = Unit {0}
AreColumns (FieldThen name order type constraint label condition rest) =
    IsScalar type × ClauseAvoids 1 constraint × (label ≡ None) × (condition ≡ None) × AreColumns rest
