-- The numbers of a struct, as a mapper places them.
use Rattle.std.specs.Prelude.{◌≤◌, ◌≡◌, ℕ, ◌+◌, ◌<◌, ◌^◌, ◌∷◌, ◌++◌, List, map, length, Option, Some, None}
use Rattle.pickle_types.specs.Types.{PokeType}
use Rattle.pickle_types.specs.declared.node.Field.{Field}
use Rattle.pickle_types.specs.declared.node.Node.{Node}
use Rattle.pickle_types.specs.Table.{type_of, optional_term}
use Rattle.pickle_meaning.specs.Values.{Value, Levels}
use Rattle.value_store.specs.declared.store.slots.Marks.{Marks}
use Rattle.value_store.specs.declared.store.slots.Node.{Node as SlotNode}
use Rattle.value_store.specs.declared.store.slots.Shape.{Shape}
use Rattle.value_store.specs.Columns.{with_numbers}
use Rattle.value_store.specs.Keeping.{IsPushed}
use Rattle.value_store.specs.Lent.{numbered}
use Rattle.value_store.specs.Moves.{Moves, Places, State, state_of}
use Rattle.value_store.specs.Names.{Names}
use Rattle.value_store.specs.Packed.{bytes_for, number_bytes}
use Rattle.value_store.specs.PackedStructs.{AreDigits, fields, struct_bits, struct_row}
use Rattle.value_store.specs.Slots.{Held, HoldsInRoom, levels, number_bits}
use Rattle.mapping_plans.specs.Rows.{column_width, stride_of, scalar_shape}

-- a field's type is in the table
abbrev pub HasNode : List Node → Field → Type 0
HasNode nodes f = f.node < length nodes

-- how many bytes numbers of these widths take side by side, unless one of them has no width or they are more than 512
abbrev pub IsStride : Option ℕ → Option (List ℕ) → Type 0
IsStride None None = Unit {0}
IsStride None (Some widths) = 512 < stride_of widths
IsStride (Some stride) None = ⊥
IsStride (Some stride) (Some widths) = (stride ≡ stride_of widths) × (stride ≤ 512)

-- the width of a field that is a column
abbrev pub field_width : List Node → Field → Option ℕ
field_width nodes f =
    column_width (type_of nodes f.node) (optional_term f.constraint) (optional_term f.label) (optional_term f.condition)

-- the shapes of fields that are numbers
abbrev pub shapes_of : (ℕ → PokeType) → List Field → List Shape
shapes_of types fs = map (λ (f : Field). scalar_shape (types f.node)) fs

-- whatever a call did, it placed numbers in the innermost frame and nothing else
pub record PlacesMore (before after : Held) : Type 0 where
  pub numbers : List SlotNode
  pub slots : after.slots ≡ with_numbers numbers before.slots
  pub frames : after.frames ≡ before.frames

-- so many numbers more
abbrev pub with_columns : (count : ℕ) → Marks → Marks
with_columns count n = record n { nodes = n.nodes + count; pending = n.pending + count }

abbrev pub after_columns : (count : ℕ) → State → State
after_columns count s = record { now = with_columns count s.now; frames = s.frames }

-- a number of that shape is one more member of the innermost frame, and its bytes are at the end of a row
pub record AddsDigits (before after : Held) (shape : Shape) (start end : ℕ) (row row' : List ℕ) : Type 0 where
  pub digits : ℕ
  pub below : digits < 2 ^ number_bits shape
  pub more : IsPushed before after (Some (numbered shape start digits))
  pub moves : Moves before after Places
  pub within : HoldsInRoom after
  pub bytes : row' ≡ row ++ number_bytes (bytes_for (number_bits shape)) digits
  pub ends : end ≡ start + number_bits shape

-- the same for numbers of these shapes, one after the other
pub record AddsColumns (before after : Held) (shapes : List Shape) (start end : ℕ) (row row' : List ℕ) : Type 0 where
  pub digits : List ℕ
  pub are : AreDigits shapes digits
  pub more : (names : Names) (top : List (Option Value)) (outer : Levels) → levels names before ≡ top ∷ outer →
      levels names after ≡ (top ++ fields shapes start digits) ∷ outer
  pub within : HoldsInRoom after
  pub state : state_of after ≡ after_columns (length shapes) (state_of before)
  pub bytes : row' ≡ row ++ struct_row shapes digits
  pub ends : end ≡ start + struct_bits shapes
