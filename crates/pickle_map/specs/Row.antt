-- Arrays of numbers that a store packs, while they are mapped.
use Rattle.std.specs.Prelude.{◌≡◌, ℕ, ◌+◌, ◌*◌, ◌≤◌, length, map, All, List, ◌∷◌, Result, Ok, true, false}
use Rattle.pickle_types.specs.Types.{PokeType, IntegerOf, OffsetOf, StructOf}
use Rattle.pickle_types.specs.declared.node.Node.{Node}
use Rattle.bit_space.specs.declared.meter.Meter.{Meter}
use Rattle.bit_space.specs.SpaceView.{SpaceView}
use Rattle.value_store.specs.declared.store.room.Room.{Room}
use Rattle.value_store.specs.declared.store.slots.Shape.{Shape}
use Rattle.value_store.specs.declared.store.slots.Shape.TheVariants.{Integer, Offset, Text, Integers, Offsets, Records as RecordsShape, Array, Struct, Union}
use Rattle.pickle_meaning.specs.Clauses.{FaultAt}
use Rattle.pickle_map.specs.Framed.{Runs}
use Rattle.pickle_map.specs.Follows.{Done}
use Rattle.pickle_meaning.specs.Means.{Opened}
use Rattle.mapping_plans.specs.Plan.{Plan}
use Rattle.mapping_plans.specs.Avoids.{AreColumns}
use Rattle.mapping_plans.specs.Rows.{Apart, Records, Values, row_of, stride_of}
use Rattle.value_store.specs.Names.{title_at, names_at, field_name}
use Rattle.value_store.specs.PackedStructs.{struct_bytes}
use Rattle.pickle_types.specs.declared.node.Field.{Field}
use Rattle.pickle_types.specs.Table.{type_of, open_fields, FieldsBelow, IsSoundField}
use Rattle.pickle_map.specs.Columns.{shapes_of}
use Rattle.pickle_map.specs.declared.mapper.packed_numbers.Packing.{Packing}
use Rattle.pickle_map.specs.declared.mapper.packed_numbers.Packing.TheVariants as packing
use Rattle.value_store.specs.Slots.{Held, IsPacked, IsPacking, elements, element_width, packs}
use Rattle.pickle_meaning.specs.Values.{Levels}

-- the packed shape of an array whose elements have a type
abbrev pub IsArrayOf : Shape → PokeType → Type 0
IsArrayOf (Integer w g) ty = ⊥
IsArrayOf (Offset w g u) ty = ⊥
IsArrayOf Text ty = ⊥
IsArrayOf (Integers w g) ty = ty ≡ IntegerOf (record { width = w; signed = g })
IsArrayOf (Offsets w g u) ty = ty ≡ OffsetOf (record { width = w; signed = g }) u
IsArrayOf (RecordsShape stride size) ty = ⊥
IsArrayOf Array ty = ⊥
IsArrayOf (Struct t) ty = ⊥
IsArrayOf (Union t i) ty = ⊥

-- a store packs the elements of an array of that type in this shape
pub record PacksAs (shape : Shape) (ty : PokeType) (room : Room) : Type 0 where
  pub packed : IsPacked shape
  pub is : IsArrayOf shape ty
  pub packs : packs room ≡ true

-- elements of that type aren't packed: the store packs none, or they are of no fixed layout
abbrev pub StandApart : PokeType → Room → Type 0
StandApart ty room = packs room ≡ true → row_of ty ≡ Apart

-- The type at a place of the table is a struct of numbers, with these fields, and an array of such structs is packed.
pub record IsRecordType (nodes : List Node) (at : ℕ) (fields : List Field) : Type 0 where
  pub is : type_of nodes at ≡ StructOf (title_at nodes at) false (open_fields (type_of nodes) fields)
  pub named : names_at nodes at ≡ map field_name fields
  pub below : FieldsBelow at fields
  pub sound : All IsSoundField fields
  pub columns : AreColumns (open_fields (type_of nodes) fields)
  pub widths : List ℕ
  pub row : row_of (type_of nodes at) ≡ Records widths
  pub stride : stride_of widths ≡ struct_bytes (shapes_of (type_of nodes) fields)
  pub some : 1 ≤ stride_of widths
  pub few : stride_of widths ≤ 512

-- A store keeps the elements of an array of that type as values of fixed layout, whose numbers take so many bytes.
pub record PacksValues (ty : PokeType) (room : Room) : Type 0 where
  pub stride : ℕ
  pub row : row_of ty ≡ Values stride
  pub packs : packs room ≡ true

-- how a store keeps the elements of an array of the type at a place of the table
abbrev pub PacksOrNot : List Node → (element : ℕ) → Packing → Room → Type 0
PacksOrNot nodes element packing.Apart room = StandApart (type_of nodes element) room
PacksOrNot nodes element (packing.Numbers shape) room = PacksAs shape (type_of nodes element) room
PacksOrNot nodes element (packing.Records fields) room = IsRecordType nodes element fields.now × (packs room ≡ true)
PacksOrNot nodes element packing.Values room = PacksValues (type_of nodes element) room

-- the frames that hold these elements, from the bit `start` on, inside others
abbrev pub row_levels : Shape → List ℕ → (start : ℕ) → Levels → Levels
row_levels shape numbers start outer = elements shape start numbers ∷ outer

-- an array of packed numbers whose elements are mapped, by the plan of its elements
pub record Packs (nodes : List Node) (space : SpaceView) (meter meter' : Meter) (store store' : Held) (shape : Shape)
    (start : ℕ) (outer : Levels) (p : Plan (Result Opened FaultAt)) (end : ℕ) : Type 0 where
  pub numbers : List ℕ
  pub packing : IsPacking nodes store' shape numbers start outer
  pub ends : end ≡ start + element_width shape * length numbers
  pub runs : Runs space meter meter' store store' p (Done (Ok (row_levels shape numbers start outer, end)))
