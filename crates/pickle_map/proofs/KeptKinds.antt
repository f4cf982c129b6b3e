-- The kinds of types that are kept, by the rows of the types.
use Rattle.std.proofs.Common.{◌≡◌, ℕ, ◌<◌, Bool, true, false, zero, suc, List, [], ◌∷◌, ◌++◌, Option, Some, None, arith, get_or, length, replicate, set, take, refl, ap, ◌∙◌}
use Rattle.std.specs.Prelude.{if◌then◌else◌, IsTrue}
use Rattle.std.specs.declared.alloc.Global.{Global}
use Rattle.std.specs.Prelude.{Vec}
use Rattle.pickle_types.specs.declared.integer.IntegerType.{IntegerType}
use Rattle.pickle_types.specs.declared.name.Name.{Name}
use Rattle.pickle_types.specs.declared.node.Field.{Field}
use Rattle.pickle_types.specs.declared.node.Node.{Node}
use Rattle.pickle_types.specs.declared.node.Part.{Part}
use Rattle.pickle_types.specs.declared.node.Shape.{Shape}
use Rattle.pickle_types.specs.declared.node.Shape.TheVariants as shape
use Rattle.pickle_types.specs.Table.{open_shape}
use Rattle.pickle_types.specs.Types.{Fields, PokeType, StructOf}
use Rattle.pickle_meaning.specs.Values.{Naming}
use Rattle.mapping_plans.specs.Rows.{Row, Apart, Numbers, Records, Values, Layout, column_widths, element_layout, or_values, records_of, row_of, struct_row}
use Rattle.pickle_map.specs.declared.mapper.packings.Kept.{Kept}
use Rattle.pickle_map.specs.declared.mapper.packings.Kept.TheVariants as kept
use Rattle.pickle_map.specs.declared.mapper.packings.Packing.{Packing}
use Rattle.pickle_map.specs.declared.mapper.packings.Packing.TheVariants as packing
use Rattle.pickle_map.specs.declared.mapper.packings.Packings.{Packings}
use Rattle.pickle_map.specs.Packings.{AreColumnsOf, AreKept, IsLaidPacking, IsPackingOf, is_known_right, is_right}
use Rattle.pickle_map.proofs.Sizes.{kept_as}

-- how elements of a layout are kept
pub laid_packing_is : (p : Packing) (type : PokeType) → row_of type ≡ kept_as (element_layout type) →
    IsLaidPacking p (element_layout type) → IsPackingOf p type
laid_packing_is packing.Apart type keeps none = keeps ∙ ap kept_as none
laid_packing_is (packing.Numbers width) type keeps laid = absurd laid
laid_packing_is (packing.Records columns stride) type keeps laid = absurd laid
laid_packing_is (packing.Values bits bytes) type keeps laid = (keeps ∙ ap kept_as laid, laid)

pub struct_columns : (name : Naming) (pinned : Bool) (fields : Fields) (columns stride : ℕ) →
    AreColumnsOf (struct_row pinned fields) columns stride →
    AreColumnsOf (row_of (StructOf name pinned fields)) columns stride
struct_columns name pinned fields columns stride h = record {
  widths = h.widths;
  is = ap (λ r. or_values r (element_layout (StructOf name pinned fields))) h.is;
  count = h.count;
  bytes = h.bytes;
}

pub values_right : (row : Row) (stride : ℕ) → row ≡ Values stride → IsTrue (is_right row (Some kept.Values))
values_right row stride e = rw e refl

pub apart_right : (row : Row) → row ≡ Apart → IsTrue (is_right row (Some kept.Apart))
apart_right row e = rw e refl

pub numbers_right : (row : Row) (width : ℕ) → row ≡ Numbers width → IsTrue (is_right row (Some kept.Apart))
numbers_right row width e = rw e refl

pub records_right : (row : Row) (widths : List ℕ) → row ≡ Records widths → IsTrue (is_right row (Some kept.Records))
records_right row widths e = rw e refl

-- and where a kind is right, the row is known
pub are_records : (row : Row) → IsTrue (is_right row (Some kept.Records)) → (widths : List ℕ) × (row ≡ Records widths)
are_records Apart h = absurd cc
are_records (Numbers width) h = absurd cc
are_records (Records widths) h = (widths, refl)
are_records (Values stride) h = absurd cc

pub are_values : (row : Row) → IsTrue (is_right row (Some kept.Values)) → (stride : ℕ) × (row ≡ Values stride)
are_values Apart h = absurd cc
are_values (Numbers width) h = absurd cc
are_values (Records widths) h = absurd cc
are_values (Values stride) h = (stride, refl)

are_apart : (row : Row) → ((width : ℕ) → row ≡ Numbers width → ⊥) → IsTrue (is_right row (Some kept.Apart)) →
    row ≡ Apart
are_apart Apart other h = refl
are_apart (Numbers width) other h = absurd (other width refl)
are_apart (Records widths) other h = absurd cc
are_apart (Values stride) other h = absurd cc

-- structs are kept as no numbers
if_numbers : (b c : Bool) (widths : List ℕ) (width : ℕ) →
    (if b then (if c then Records widths else Apart) else Apart) ≡ Numbers width → ⊥
if_numbers true true widths width h = cc
if_numbers true false widths width h = cc
if_numbers false c widths width h = cc

records_numbers : (o : Option (List ℕ)) (width : ℕ) → records_of o ≡ Numbers width → ⊥
records_numbers None width h = cc
records_numbers (Some widths) width h = if_numbers _ _ widths width h

struct_numbers : (pinned : Bool) (fields : Fields) (width : ℕ) → struct_row pinned fields ≡ Numbers width → ⊥
struct_numbers true _ width h = cc
struct_numbers false fields width h = records_numbers (column_widths fields) width h

or_numbers : (row : Row) (own : Option Layout) (width : ℕ) → or_values row own ≡ Numbers width → row ≡ Numbers width
or_numbers Apart None width h = h
or_numbers Apart (Some own) width h = absurd cc
or_numbers (Numbers w) own width h = h
or_numbers (Records widths) own width h = h
or_numbers (Values stride) own width h = h

pub structs_apart : (pinned : Bool) (fields : Fields) (own : Option Layout) →
    IsTrue (is_right (or_values (struct_row pinned fields) own) (Some kept.Apart)) →
    or_values (struct_row pinned fields) own ≡ Apart
structs_apart pinned fields own =
    are_apart _ (λ width e. struct_numbers pinned fields width (or_numbers (struct_row pinned fields) own width e))

-- an integral struct that isn't kept as values is kept apart
pub wholes_apart : (own : Option Layout) (kind : Kept) → (kind ≡ kept.Values → ⊥) →
    IsTrue (is_right (or_values Apart own) (Some kind)) → or_values Apart own ≡ Apart
wholes_apart None kind other right = refl
wholes_apart (Some own) kept.Apart other right = absurd cc
wholes_apart (Some own) kept.Records other right = absurd cc
wholes_apart (Some own) kept.Values other right = absurd (other refl)

-- a shape that is no struct's is kept apart
pub shape_right : (types : ℕ → PokeType) (s : Shape) →
    ((name : Option Name) (pinned : Bool) (fields : Vec Field Global) → s ≡ shape.Struct name pinned fields → ⊥) →
    ((name : Option Name) (number : IntegerType) (fields : Vec Part Global) → s ≡ shape.Integral name number fields →
    ⊥) → IsTrue (is_right (row_of (open_shape types s)) (Some kept.Apart))
shape_right types (shape.Integer number) no_struct no_integral = refl
shape_right types (shape.Offset number unit) no_struct no_integral = refl
shape_right types shape.String no_struct no_integral = refl
shape_right types (shape.Array element bound) no_struct no_integral = refl
shape_right types (shape.Struct name pinned fields) no_struct no_integral = absurd (no_struct name pinned fields refl)
shape_right types (shape.Integral name number fields) no_struct no_integral =
    absurd (no_integral name number fields refl)
shape_right types (shape.Union name alternatives) no_struct no_integral = refl

-- ---- one more kind is kept

pub set_right : (row : ℕ → Row) (kinds : List (Option Kept)) (at : ℕ) (kind : Kept) →
    IsTrue (is_right (row at) (Some kind)) → ((i : ℕ) → IsTrue (is_right (row i) (get_or kinds i None))) →
    (i : ℕ) → IsTrue (is_right (row i) (get_or (set kinds at (Some kind)) i None))
set_right row [] at kind right so_far i = so_far i
set_right row (k ∷ ks) zero kind right so_far zero = right
set_right row (k ∷ ks) zero kind right so_far (suc i) = so_far (suc i)
set_right row (k ∷ ks) (suc at) kind right so_far zero = so_far zero
set_right row (k ∷ ks) (suc at) kind right so_far (suc i) =
    set_right (λ n. row (suc n)) ks at kind right (λ n. so_far (suc n)) i

none_right : (row : Row) → IsTrue (is_right row None)
none_right Apart = refl
none_right (Numbers width) = refl
none_right (Records widths) = refl
none_right (Values stride) = refl

-- where none is kept, each is right
all_right : (row : ℕ → Row) (count i : ℕ) → IsTrue (is_right (row i) (get_or (replicate count None) i None))
all_right row zero i = none_right (row i)
all_right row (suc count) zero = none_right (row zero)
all_right row (suc count) (suc i) = all_right (λ n. row (suc n)) count i

pub made_right : (row : ℕ → Row) (count more i : ℕ) →
    IsTrue (is_right (row i) (get_or (take count [] ++ replicate more None) i None))
made_right row zero more i = all_right row more i
made_right row (suc count) more i = all_right row more i

-- ---- an entry that is there is the same, whatever else were given

pub any_default : {A : Type 0} (xs : List A) (at : ℕ) (d e : A) → at < length xs → get_or xs at d ≡ get_or xs at e
any_default [] at d e lt = absurd (omega (arith, lt))
any_default (x ∷ xs) zero d e lt = refl
any_default (x ∷ xs) (suc at) d e lt = any_default xs at d e (omega (arith, lt))

-- ---- all that is known is right

pub are_kept : (nodes : List Node) (packings : Packings) → IsTrue (is_known_right nodes packings None) →
    ((at : ℕ) → IsTrue (is_known_right nodes packings (Some at))) → AreKept nodes packings
are_kept nodes packings first others None = first
are_kept nodes packings first others (Some at) = others at
