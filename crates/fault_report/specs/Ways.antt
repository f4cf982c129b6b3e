-- Steps from a type to its parts, with the paths that the mode `lines` prints.
use Rattle.std.specs.Prelude.{◌≡◌, ℕ, zero, suc, List, [], ◌∷◌, ◌++◌, Option, Some, None}
use Rattle.pickle_types.specs.Types.{PokeType, IntegerOf, OffsetOf, StringOf, ArrayOf, StructOf, IntegralOf, UnionOf, Fields, NoFields, FieldThen, Parts, NoParts, PartThen}
use Rattle.value_text.specs.PathText.{field_step, path_text}
use Rattle.text_output.specs.Brackets.{in_brackets}

-- a part of a type: its type, and the name of a field or an alternative, if it has one
pub record TypePart : Type 0 where
  pub name : Option (List ℕ)
  pub type : PokeType

-- the field at a place, from 0
abbrev pub field_at : Fields → (place : ℕ) → Option TypePart
field_at NoFields place = None
field_at (FieldThen name order type constraint label condition rest) zero = Some (record { name = name; type = type })
field_at (FieldThen name order type constraint label condition rest) (suc place) = field_at rest place

-- the alternative, or the field of an integral struct, at a place, from 0
abbrev pub alternative_at : Parts → (place : ℕ) → Option TypePart
alternative_at NoParts place = None
alternative_at (PartThen name order type constraint rest) zero = Some (record { name = name; type = type })
alternative_at (PartThen name order type constraint rest) (suc place) = alternative_at rest place

-- the part at a place: an array has an element at every place, scalars and strings have no parts
abbrev pub part_at : PokeType → (place : ℕ) → Option TypePart
part_at (IntegerOf type) place = None
part_at (OffsetOf type unit) place = None
part_at StringOf place = None
part_at (ArrayOf element bound) place = Some (record { name = None; type = element })
part_at (StructOf name pinned fields) place = field_at fields place
part_at (IntegralOf name type fields) place = alternative_at fields place
part_at (UnionOf name alternatives) place = alternative_at alternatives place

-- the step from a type to its part at a place
abbrev pub step_text : PokeType → Option (List ℕ) → (place : ℕ) → List ℕ
step_text (IntegerOf _) name place = field_step name place
step_text (OffsetOf _ _) name place = field_step name place
step_text StringOf name place = field_step name place
step_text (ArrayOf _ _) name place = in_brackets place
step_text (StructOf _ _ _) name place = field_step name place
step_text (IntegralOf _ _ _) name place = field_step name place
step_text (UnionOf _ _) name place = field_step name place

-- these places, one for each step, lead from a type to a part of it; and the text of the steps
pub data LeadsTo : PokeType → (places : List ℕ) → (steps : List ℕ) → PokeType → Type 0 where
  here : {type : PokeType} → LeadsTo type [] [] type
  further : {type found : PokeType} {part : TypePart} {places steps : List ℕ} (place : ℕ)
      → part_at type place ≡ Some part → LeadsTo part.type places steps found
      → LeadsTo type (place ∷ places) (step_text type part.name place ++ steps) found

-- they lead from the type to some part of it
pub record HasPart (type : PokeType) (places : List ℕ) : Type 0 where
  pub steps : List ℕ
  pub part : PokeType
  pub leads : LeadsTo type places steps part

-- they lead to none
abbrev pub LacksPart : PokeType → (places : List ℕ) → Type 0
LacksPart type places = HasPart type places → ⊥

-- places lead from a type to a part of it, by this path
pub record IsWayTo (type : PokeType) (places path : List ℕ) (part : PokeType) : Type 0 where
  pub steps : List ℕ
  pub leads : LeadsTo type places steps part
  pub is : path ≡ path_text steps
