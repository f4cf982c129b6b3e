-- The members of structs and unions: their fields and alternatives, each by its name and its type.
use Rattle.std.specs.Prelude.{ℕ, List, [], ◌∷◌}
use Rattle.pickle_types.specs.declared.node.Field.{Field}
use Rattle.pickle_types.specs.declared.node.Part.{Part}
use Rattle.pickle_types.specs.Table.{name_of}
use Rattle.pickle_types.specs.Types.{PokeType, Fields, NoFields, FieldThen, Parts, NoParts, PartThen}
use Rattle.pickle_meaning.specs.Values.{Naming}
use Rattle.type_parts.specs.declared.member.Standing.{Standing}
use Rattle.type_parts.specs.declared.member.Standing.TheVariants.{Apart, Together}

-- a field or an alternative; its type is known as a type, or as a node of a table
pub record Member (A : Type 0) : Type 0 where
  pub name : Naming
  pub type : A

abbrev pub fields_in : Fields → List (Member PokeType)
fields_in NoFields = []
fields_in (FieldThen name order type constraint label condition rest) =
    record { name = name; type = type } ∷ fields_in rest

abbrev pub parts_in : Parts → List (Member PokeType)
parts_in NoParts = []
parts_in (PartThen name order type constraint rest) = record { name = name; type = type } ∷ parts_in rest

-- the same in a table
abbrev pub field_member : Field → Member ℕ
field_member field = record { name = name_of field.name; type = field.node }

abbrev pub part_member : Part → Member ℕ
part_member part = record { name = name_of part.name; type = part.node }

-- the place in values of the member of a number; a union has one member, at the first place
abbrev pub place_of : Standing → (number : ℕ) → ℕ
place_of Apart number = number
place_of Together number = 0
