-- The capacity bound of a type is at most what `room` slots take.
use Rattle.std.proofs.Common.{◌≡◌, ℕ, zero, suc, ◌+◌, ◌-◌, ◌*◌, ◌/◌, ◌≤◌, min, max, length, Bool, true, false, List, [], Some, refl, sym, ap, subst, ◌∙◌, arith}
use Rattle.std.specs.Prelude.{nat_le, if◌then◌else◌}
use Rattle.std.proofs.Math.Nat.{mul-le-mul_left, mul-le-mul_right}
use Rattle.std.proofs.lemmas.Bool.{leb-true}
use Rattle.pickle_types.specs.Types.{PokeType, IntegerOf, OffsetOf, StringOf, ArrayOf, StructOf, IntegralOf, UnionOf, Fields, NoFields, FieldThen, Parts, NoParts, PartThen}
use Rattle.pickle_types.specs.Bounds.{least_width, count_of, room, fields_room, parts_room, greatest_room}
use Rattle.pickle_types.specs.Table.{type_of}
use Rattle.value_store.specs.Packed.{bytes_for}
use Rattle.value_store.specs.Takes.{Vector, NodesOf, FamiliesOf, LinksOf, PendingOf, TextsOf, BytesOf}
use Rattle.mapping_plans.specs.Rows.{Row, Apart, Numbers, Records, Values, scalar_width, column_width, column_widths, stride_of, layout_of, row_of}
use Rattle.mapping_plans.specs.Widths.{HasWidths, HaveWidths, PartsHaveWidths}
use Rattle.mapping_plans.proofs.Layouts.{element_laid}
use Rattle.mapping_plans.proofs.TableWidths.{table_widths}
use Rattle.mapping_plans.proofs.StructRows.{both_are, column_is, packed_struct_is}
use Rattle.type_soundness.specs.Capacity.{number_bound, string_bound, family_bound, link_bound, row_bound, records_bound, array_bytes, fit_bytes, values_bound, array_bound, where_rows, capacity_bound, fields_bound, parts_bound, greatest_bound, slot_takes}
use Rattle.type_soundness.specs.CapacityLaws.{BoundsAreSlots}
use Rattle.type_soundness.proofs.LaidSlots.{FitSlots, laid_slots}
use Rattle.type_soundness.proofs.Packing.{packed_number_is, is_packed}

-- ---- in slots that take k each

pub record IsSlot (packs : Bool) (vector : Vector) (k m : ℕ) : Type 0 where
  pub number : number_bound vector ≤ k
  pub string : string_bound vector m ≤ k * (m / 8 + 2)
  pub family : family_bound vector ≤ k
  pub link : link_bound vector ≤ k
  pub row : packs ≡ true → (width count : ℕ) → width ≤ 64 → row_bound vector width count ≤ k * (1 + count * (1 + 1))
  pub records : packs ≡ true → (widths : List ℕ) (count : ℕ) → 1 ≤ count → stride_of widths ≤ 8 * length widths →
      records_bound vector widths count ≤ k * (1 + count * (2 + 2 * length widths))
  pub values : packs ≡ true → (apart : Vector → ℕ) (each bits bytes r count : ℕ) → 1 ≤ count →
      FitSlots apart bits bytes m r → each ≤ k * r →
      values_bound vector count (apart vector) each (if nat_le bits m then bytes else 0) ≤ k * (1 + count * (1 + r))

members_few : (k count family link each r : ℕ) → family ≤ k → link ≤ k → each ≤ k * r →
    family + count * (link + each) ≤ k * (1 + count * (1 + r))
members_few k count family link each r f l e =
    let one : link + each ≤ k * (1 + r) = omega arith in
    let all = mul-le-mul_left count one in
    omega arith

greatest_few : (k a b c d : ℕ) → a ≤ k * c → b ≤ k * d → max a b ≤ k * max c d
greatest_few k a b c d le ge =
    let up : c ≤ max c d = omega arith in
    let on : d ≤ max c d = omega arith in
    let x = mul-le-mul_left k up in
    let y = mul-le-mul_left k on in
    omega arith

-- a packed number
scalar_narrow : (m : ℕ) (type : PokeType) (width : ℕ) → scalar_width type ≡ Some width → HasWidths type →
    (width ≤ 64) × (room type m ≡ 1)
unfolding HasWidths room
scalar_narrow m (IntegerOf type) width e h =
    let same : type.width ≡ width = cc in let few = h.most in (omega (arith, same, few), refl)
scalar_narrow m (OffsetOf type unit) width e h =
    let same : type.width ≡ width = cc in let few = h.0.most in (omega (arith, same, few), refl)
scalar_narrow m StringOf width e h = absurd cc
scalar_narrow m (ArrayOf element bound) width e h = absurd cc
scalar_narrow m (StructOf name pinned _) width e h = absurd cc
scalar_narrow m (IntegralOf name type _) width e h = absurd cc
scalar_narrow m (UnionOf name alternatives) width e h = absurd cc

-- the fields of a packed struct
columns_narrow : (m : ℕ) (fields : Fields) (widths : List ℕ) → column_widths fields ≡ Some widths →
    HaveWidths fields → (stride_of widths ≤ 8 * length widths) × (fields_room fields m ≡ 2 * length widths)
unfolding HasWidths room
columns_narrow m NoFields widths e h =
    let is : [] ≡ widths = cc in
    subst (λ (ws : List ℕ). (stride_of ws ≤ 8 * length ws) × (0 ≡ 2 * length ws)) is (omega arith, omega arith)
columns_narrow m (FieldThen name order type constraint label condition rest) widths e h =
    let both = both_are (column_width type constraint label condition) (column_widths rest) widths e in
    let column = column_is type constraint label condition both.width both.first in
    let one = scalar_narrow m type both.width column.width h.0 in
    let more = columns_narrow m rest both.rest both.others h.1 in
    let few : bytes_for both.width ≤ 8 = let le = one.0 in omega arith in
    let low = more.0 in
    let here = one.1 in
    let others = more.1 in
    subst (λ (ws : List ℕ). (stride_of ws ≤ 8 * length ws) × ((1 + room type m) + fields_room rest m ≡ 2 * length ws))
    (sym both.are) (omega (arith, few, low), omega (arith, here, others))

struct_narrow : (m : ℕ) (type : PokeType) (widths : List ℕ) → row_of type ≡ Records widths → HasWidths type →
    (stride_of widths ≤ 8 * length widths) × (room type m ≡ 1 + 2 * length widths)
unfolding HasWidths room
struct_narrow m type widths e h =
    let r = packed_struct_is type widths e in
    let fields = columns_narrow m r.fields widths r.wide (subst HasWidths r.is h) in
    (fields.0, ap (λ (t : PokeType). room t m) r.is ∙ ap (λ n. 1 + n) fields.1)

module _ (packs : Bool) (vector : Vector) (k m : ℕ) (slot : IsSlot packs vector k m) where
  array_slots : (element : PokeType) → (packs ≡ true → HasWidths element) → (row : Row) →
      where_rows packs (row_of element) ≡ row → capacity_bound packs vector element m ≤ k * room element m →
      array_bound row vector (count_of m (least_width element)) (capacity_bound false vector element m)
      (capacity_bound packs vector element m) (fit_bytes (layout_of 0 element) (array_bytes element) m)
      ≤ k * (1 + count_of m (least_width element) * (1 + room element m))
  array_slots element narrow Apart e le = members_few k (count_of m (least_width element)) (family_bound vector)
      (link_bound vector) (capacity_bound packs vector element m) (room element m) slot.family slot.link le
  array_slots element narrow (Numbers width) e le =
      let is = is_packed packs (row_of element) (Numbers width) e (λ same. cc) in
      let h = scalar_narrow m element width (packed_number_is element width is.1) (narrow is.0) in
      subst (λ r. row_bound vector width (count_of m (least_width element))
      ≤ k * (1 + count_of m (least_width element) * (1 + r))) (sym h.1)
      (slot.row is.0 width (count_of m (least_width element)) h.0)
  array_slots element narrow (Records widths) e le =
      let is = is_packed packs (row_of element) (Records widths) e (λ same. cc) in
      let h = struct_narrow m element widths is.1 (narrow is.0) in
      let count = count_of m (least_width element) in
      let all : 1 + (1 + 2 * length widths) ≡ 2 + 2 * length widths = omega arith in
      subst (λ r. records_bound vector widths count ≤ k * (1 + count * (1 + r))) (sym h.1)
      (rw all (slot.records is.0 widths count (omega arith) h.0))
  array_slots element narrow (Values stride) e le =
      let is = is_packed packs (row_of element) (Values stride) e (λ same. cc) in
      let l = element_laid element stride is.1 in
      let count = count_of m (least_width element) in
      subst (λ own. values_bound vector count (capacity_bound false vector element m)
      (capacity_bound packs vector element m) (fit_bytes own (array_bytes element) m)
      ≤ k * (1 + count * (1 + room element m))) (sym l.laid)
      (slot.values is.0 (λ kind. capacity_bound false kind element m) (capacity_bound packs vector element m)
      l.layout.bits (array_bytes element + l.layout.bytes) (room element m) count (omega arith)
      (laid_slots m 0 element l.layout l.laid (narrow is.0)) le)

  mutual
    unfolding capacity_bound room HasWidths

    pub in_slots : (ty : PokeType) → (packs ≡ true → HasWidths ty) → capacity_bound packs vector ty m ≤ k * room ty m
    in_slots (IntegerOf type) h = let f = slot.number in omega arith
    in_slots (OffsetOf type unit) h = let f = slot.number in omega arith
    in_slots StringOf h = slot.string
    in_slots (ArrayOf element bound) h =
        array_slots element h (where_rows packs (row_of element)) refl (in_slots element h)
    in_slots (StructOf name pinned fields) h = let f = slot.family in let i = fields_slots fields h in omega arith
    in_slots (IntegralOf name type fields) h =
        let f = slot.family in let i = parts_slots fields (λ e. (h e).1) in omega arith
    in_slots (UnionOf name alternatives) h = let f = slot.family in let i = greatest_slots alternatives h in omega arith

    fields_slots : (fields : Fields) → (packs ≡ true → HaveWidths fields) →
        fields_bound packs vector fields m ≤ k * fields_room fields m
    fields_slots NoFields h = omega arith
    fields_slots (FieldThen name order type constraint label condition rest) h =
        let l = slot.link in
        let i = in_slots type (λ e. (h e).0) in
        let j = fields_slots rest (λ e. (h e).1) in
        omega arith

    parts_slots : (parts : Parts) → (packs ≡ true → PartsHaveWidths parts) →
        parts_bound packs vector parts m ≤ k * parts_room parts m
    parts_slots NoParts h = omega arith
    parts_slots (PartThen name order type constraint rest) h =
        let l = slot.link in
        let i = in_slots type (λ e. (h e).0) in
        let j = parts_slots rest (λ e. (h e).1) in
        omega arith

    greatest_slots : (parts : Parts) → (packs ≡ true → PartsHaveWidths parts) →
        greatest_bound packs vector parts m ≤ k * greatest_room parts m
    greatest_slots NoParts h = omega arith
    greatest_slots (PartThen name order type constraint rest) h =
        let l = slot.link in
        let i = in_slots type (λ e. (h e).0) in
        greatest_few k (link_bound vector + capacity_bound packs vector type m) (greatest_bound packs vector rest m)
        (1 + room type m) (greatest_room rest m) (omega arith) (greatest_slots rest (λ e. (h e).1))

-- ---- the slots of each vector

row_slots : (vector : Vector) (width count : ℕ) → width ≤ 64 →
    row_bound vector width count ≤ slot_takes vector * (1 + count * (1 + 1))
row_slots NodesOf width count le = omega arith
row_slots FamiliesOf width count le = omega arith
row_slots LinksOf width count le = omega arith
row_slots PendingOf width count le = omega arith
row_slots TextsOf width count le = omega arith
row_slots BytesOf width count le =
    let few : bytes_for width ≤ 8 = omega arith in
    let all = mul-le-mul_right count few in
    omega arith

records_slots : (vector : Vector) (widths : List ℕ) (count : ℕ) → 1 ≤ count → stride_of widths ≤ 8 * length widths →
    records_bound vector widths count ≤ slot_takes vector * (1 + count * (2 + 2 * length widths))
records_slots BytesOf widths count some le = let all = mul-le-mul_right count le in omega arith
records_slots vector widths count some le = let all = mul-le-mul_left (2 + 2 * length widths) some in omega arith

-- values that are there as others are: two at most for one try, and three for more
few_values : (count e r : ℕ) → 1 ≤ count → 2 * e ≤ r + 1 → min 3 (count + 1) * e ≤ count * (1 + r)
few_values zero e r some le = absurd (omega (arith, some))
few_values (suc zero) e r some le =
    let two : min 3 (suc zero + 1) ≤ 2 = omega arith in
    let all = mul-le-mul_right e two in
    omega (arith, all, le)
few_values (suc (suc n)) e r some le =
    let three : min 3 (suc (suc n) + 1) ≤ 3 = omega arith in
    let all = mul-le-mul_right e three in
    let tries : 2 ≤ suc (suc n) = omega arith in
    let more = mul-le-mul_right (1 + r) tries in
    omega (arith, all, more, le)

-- and at most two texts of what a value takes
few_texts : (count e r : ℕ) → 1 ≤ count → e ≤ r → min 2 count * e ≤ count * (1 + r)
few_texts count e r some le =
    let two : min 2 count ≤ count = omega arith in
    let all = mul-le-mul_right e two in
    let more : e ≤ 1 + r = omega (arith, le) in
    let each = mul-le-mul_left count more in
    omega (arith, all, each)

-- where a value fits, its bytes
fit_few : (t : Bool) (bits m bytes r : ℕ) → nat_le bits m ≡ t → (bits ≤ m → bytes ≤ 4 * (1 + r)) →
    (if t then bytes else 0) ≤ 4 * (1 + r)
fit_few true bits m bytes r e few = few (leb-true bits m e)
fit_few false bits m bytes r e few = omega arith

all_bytes : (count fit each r : ℕ) → 1 ≤ count → fit ≤ 4 * (1 + r) → each ≤ 4 * r →
    fit * (count - 1) + max each fit ≤ 4 * (1 + count * (1 + r))
all_bytes zero fit each r some few le = absurd (omega (arith, some))
all_bytes (suc n) fit each r some few le =
    let same : suc n - 1 ≡ n = omega arith in
    let all = mul-le-mul_right n few in
    rw same (omega (arith, all, few, le))

values_slots : (vector : Vector) (apart : Vector → ℕ) (m each bits bytes r count : ℕ) → 1 ≤ count →
    FitSlots apart bits bytes m r → each ≤ slot_takes vector * r →
    values_bound vector count (apart vector) each (if nat_le bits m then bytes else 0)
    ≤ slot_takes vector * (1 + count * (1 + r))
values_slots NodesOf apart m each bits bytes r count some f le =
    let few = few_values count (apart NodesOf) r some f.nodes in omega (arith, few)
values_slots FamiliesOf apart m each bits bytes r count some f le =
    let few = few_values count (apart FamiliesOf) r some f.families in omega (arith, few)
values_slots LinksOf apart m each bits bytes r count some f le =
    let links = f.links in
    let few = few_values count (apart LinksOf) r some (omega (arith, links)) in
    omega (arith, few)
values_slots PendingOf apart m each bits bytes r count some f le =
    let pending = f.pending in
    let all = mul-le-mul_right (1 + r) some in
    omega (arith, pending, all)
values_slots TextsOf apart m each bits bytes r count some f le =
    let few = few_texts count each r some (omega (arith, le)) in omega (arith, few)
values_slots BytesOf apart m each bits bytes r count some f le =
    all_bytes count (if nat_le bits m then bytes else 0) each r some
    (fit_few (nat_le bits m) bits m bytes r refl f.bytes) le

vector_slot : (packs : Bool) (vector : Vector) (m : ℕ) → IsSlot packs vector (slot_takes vector) m
vector_slot packs NodesOf m = record {
  number = omega arith;
  string = omega arith;
  family = omega arith;
  link = omega arith;
  row = λ e. row_slots NodesOf;
  records = λ e. records_slots NodesOf;
  values = λ e apart. values_slots NodesOf apart m;
}
vector_slot packs FamiliesOf m = record {
  number = omega arith;
  string = omega arith;
  family = omega arith;
  link = omega arith;
  row = λ e. row_slots FamiliesOf;
  records = λ e. records_slots FamiliesOf;
  values = λ e apart. values_slots FamiliesOf apart m;
}
vector_slot packs LinksOf m = record {
  number = omega arith;
  string = omega arith;
  family = omega arith;
  link = omega arith;
  row = λ e. row_slots LinksOf;
  records = λ e. records_slots LinksOf;
  values = λ e apart. values_slots LinksOf apart m;
}
vector_slot packs PendingOf m = record {
  number = omega arith;
  string = omega arith;
  family = omega arith;
  link = omega arith;
  row = λ e. row_slots PendingOf;
  records = λ e. records_slots PendingOf;
  values = λ e apart. values_slots PendingOf apart m;
}
vector_slot packs TextsOf m = record {
  number = omega arith;
  string = omega arith;
  family = omega arith;
  link = omega arith;
  row = λ e. row_slots TextsOf;
  records = λ e. records_slots TextsOf;
  values = λ e apart. values_slots TextsOf apart m;
}
vector_slot packs BytesOf m = record {
  number = omega arith;
  string = omega arith;
  family = omega arith;
  link = omega arith;
  row = λ e. row_slots BytesOf;
  records = λ e. records_slots BytesOf;
  values = λ e apart. values_slots BytesOf apart m;
}

-- where nothing is packed, a slot of any kind takes one entry
one_slot : (vector : Vector) (m : ℕ) → IsSlot false vector 1 m
one_slot NodesOf m = record {
  number = omega arith;
  string = omega arith;
  family = omega arith;
  link = omega arith;
  row = λ e width count le. absurd cc;
  records = λ e widths count some le. absurd cc;
  values = λ e apart each bits bytes r count some fit le. absurd cc;
}
one_slot FamiliesOf m = record {
  number = omega arith;
  string = omega arith;
  family = omega arith;
  link = omega arith;
  row = λ e width count le. absurd cc;
  records = λ e widths count some le. absurd cc;
  values = λ e apart each bits bytes r count some fit le. absurd cc;
}
one_slot LinksOf m = record {
  number = omega arith;
  string = omega arith;
  family = omega arith;
  link = omega arith;
  row = λ e width count le. absurd cc;
  records = λ e widths count some le. absurd cc;
  values = λ e apart each bits bytes r count some fit le. absurd cc;
}
one_slot PendingOf m = record {
  number = omega arith;
  string = omega arith;
  family = omega arith;
  link = omega arith;
  row = λ e width count le. absurd cc;
  records = λ e widths count some le. absurd cc;
  values = λ e apart each bits bytes r count some fit le. absurd cc;
}
one_slot TextsOf m = record {
  number = omega arith;
  string = omega arith;
  family = omega arith;
  link = omega arith;
  row = λ e width count le. absurd cc;
  records = λ e widths count some le. absurd cc;
  values = λ e apart each bits bytes r count some fit le. absurd cc;
}
one_slot BytesOf m = record {
  number = omega arith;
  string = omega arith;
  family = omega arith;
  link = omega arith;
  row = λ e width count le. absurd cc;
  records = λ e widths count some le. absurd cc;
  values = λ e apart each bits bytes r count some fit le. absurd cc;
}

pub unpacked_slots : (vector : Vector) (ty : PokeType) (m : ℕ) → capacity_bound false vector ty m ≤ room ty m
unpacked_slots vector ty m = let h = in_slots false vector 1 m (one_slot vector m) ty (λ e. absurd cc) in omega arith

pub bounds_in_slots : BoundsAreSlots
bounds_in_slots table id packs vector m =
    in_slots packs vector (slot_takes vector) m (vector_slot packs vector m) (type_of table.nodes.items id.node)
    (λ e. table_widths table.nodes.items table.sound.below id.node)
