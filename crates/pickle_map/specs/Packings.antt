-- How the elements of arrays of structs are kept, as far as it was found for the types of a table.
use Rattle.std.specs.Prelude.{◌≡◌, ℕ, Bool, true, false, List, Option, Some, None, Vec, get_or, length, IsTrue}
use Rattle.std.specs.declared.alloc.Global.{Global}
use Rattle.pickle_types.specs.declared.node.Node.{Node}
use Rattle.pickle_types.specs.Types.{PokeType}
use Rattle.pickle_types.specs.Table.{type_of}
use Rattle.mapping_plans.specs.Rows.{Row, Apart, Numbers, Records, Values, Layout, element_layout, row_of, stride_of}
use Rattle.pickle_map.specs.declared.mapper.packings.Kept.{Kept}
use Rattle.pickle_map.specs.declared.mapper.packings.Kept.TheVariants as kept
use Rattle.pickle_map.specs.declared.mapper.packings.KindAt.{KindAt}
use Rattle.pickle_map.specs.declared.mapper.packings.Packing.{Packing}
use Rattle.pickle_map.specs.declared.mapper.packings.Packing.TheVariants as packing
use Rattle.pickle_map.specs.declared.mapper.packings.Packings.{Packings}

-- elements that have a layout are kept as values, others apart
abbrev pub IsLaidPacking : Packing → Option Layout → Type 0
IsLaidPacking packing.Apart own = own ≡ None
IsLaidPacking (packing.Numbers width) own = ⊥
IsLaidPacking (packing.Records columns stride) own = ⊥
IsLaidPacking (packing.Values bits bytes) own = own ≡ Some (record { bits = bits; bytes = bytes })

-- a row is that of structs of so many numbers, which take so many bytes
pub record AreColumnsOf (row : Row) (columns stride : ℕ) : Type 0 where
  pub widths : List ℕ
  pub is : row ≡ Records widths
  pub count : length widths ≡ columns
  pub bytes : stride_of widths ≡ stride

-- how many bytes a packed struct of so many fields takes, or none if such structs are kept in another way
abbrev pub IsStructStride : Option ℕ → (fields : ℕ) → Row → Type 0
IsStructStride None fields row = row ≡ Apart
IsStructStride (Some stride) fields row = AreColumnsOf row fields stride

-- how the elements of a type are kept
abbrev pub IsPackingOf : Packing → PokeType → Type 0
IsPackingOf packing.Apart type = row_of type ≡ Apart
IsPackingOf (packing.Numbers width) type = row_of type ≡ Numbers width
IsPackingOf (packing.Records columns stride) type = AreColumnsOf (row_of type) columns stride
IsPackingOf (packing.Values bits bytes) type =
    (row_of type ≡ Values bytes) × (element_layout type ≡ Some (record { bits = bits; bytes = bytes }))

-- whether the kind that is known of a type, if any, is that of its row; numbers are kept apart
abbrev pub is_right : Row → Option Kept → Bool
is_right row None = true
is_right Apart (Some kept.Apart) = true
is_right Apart (Some kept.Records) = false
is_right Apart (Some kept.Values) = false
is_right (Numbers width) (Some kept.Apart) = true
is_right (Numbers width) (Some kept.Records) = false
is_right (Numbers width) (Some kept.Values) = false
is_right (Records widths) (Some kept.Apart) = false
is_right (Records widths) (Some kept.Records) = true
is_right (Records widths) (Some kept.Values) = false
is_right (Values stride) (Some kept.Apart) = false
is_right (Values stride) (Some kept.Records) = false
is_right (Values stride) (Some kept.Values) = true

abbrev pub kind_in : Option (Vec (Option Kept) Global) → (at : ℕ) → Option Kept
kind_in None at = None
kind_in (Some kinds) at = get_or kinds.items at None

abbrev is_first_right : List Node → Option KindAt → Bool
is_first_right nodes None = true
is_first_right nodes (Some first) = is_right (row_of (type_of nodes first.at)) (Some first.kind)

-- whether what is known is right: the kind that is kept in place, or that of the type at a place
abbrev pub is_known_right : List Node → Packings → Option ℕ → Bool
is_known_right nodes packings None = is_first_right nodes packings.first
is_known_right nodes packings (Some at) = is_right (row_of (type_of nodes at)) (kind_in packings.others at)

-- each kind that is known is right
abbrev pub AreKept : List Node → Packings → Type 0
AreKept nodes packings = (place : Option ℕ) → IsTrue (is_known_right nodes packings place)
