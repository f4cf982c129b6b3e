-- What values of fixed layout take of each vector where nothing is packed, and how many bytes they have as packed ones,
-- against the slots of their type.
use Rattle.std.proofs.Common.{◌≡◌, ℕ, ◌+◌, ◌*◌, ◌/◌, ◌≤◌, max, false, Some, refl, sym, ap, subst, arith}
use Rattle.std.proofs.Math.Nat.{le-div_iff_mul-le, mul-le-mul_right}
use Rattle.pickle_types.specs.declared.integer.IntegerType.{IntegerType}
use Rattle.pickle_types.specs.Types.{PokeType, IntegerOf, OffsetOf, StringOf, ArrayOf, StructOf, IntegralOf, UnionOf, Bound, Fields, NoFields, FieldThen, Parts, NoParts, PartThen}
use Rattle.pickle_types.specs.Bounds.{least_width, count_of, room, fields_room, parts_room}
use Rattle.value_store.specs.Packed.{bytes_for}
use Rattle.mapping_plans.specs.Rows.{Layout, number_layout, no_layout, scalar_width, literal_count, array_layout, layout_of, fields_layout, parts_layout}
use Rattle.mapping_plans.specs.Widths.{HasWidths, HaveWidths, PartsHaveWidths}
use Rattle.mapping_plans.proofs.Layouts.{struct_laid, integral_laid, array_laid, part_laid, field_laid}
use Rattle.value_store.specs.Takes.{Vector, NodesOf, FamiliesOf, LinksOf, PendingOf}
use Rattle.type_soundness.specs.Capacity.{number_bound, family_bound, link_bound, bytes_in, array_bytes, fields_bytes, parts_bytes, capacity_bound, fields_bound, parts_bound}

-- what a value takes that has so many bits, and so many bytes as a packed one, and r slots of each kind
pub record FitSlots (apart : Vector → ℕ) (bits own m r : ℕ) : Type 0 where
  pub nodes : 2 * apart NodesOf ≤ r + 1
  pub families : 2 * apart FamiliesOf ≤ r + 1
  pub links : 2 * apart LinksOf + 1 ≤ r
  pub pending : 2 * apart PendingOf ≤ r + 1
  pub bytes : bits ≤ m → own ≤ 4 * (1 + r)

-- the same of fields, which take a link each
record FitLinks (apart : Vector → ℕ) (bits own m r : ℕ) : Type 0 where
  nodes : 2 * apart NodesOf ≤ r
  families : 2 * apart FamiliesOf ≤ r
  links : 2 * apart LinksOf ≤ r
  pending : 2 * apart PendingOf ≤ r
  bytes : bits ≤ m → own ≤ 4 * r

number_fits : (bits bytes m : ℕ) → bytes ≤ 8 → FitSlots (λ vector. number_bound vector) bits bytes m 1
number_fits bits bytes m few = record {
  nodes = omega arith;
  families = omega arith;
  links = omega arith;
  pending = omega arith;
  bytes = λ le. omega (arith, few);
}

-- so many numbers, each of which has two slots, where as many fit in m bits
row_fits : (bits bytes m count : ℕ) → (bits ≤ m → bytes ≤ 8 * count) →
    FitSlots (λ vector. family_bound vector + count * (link_bound vector + number_bound vector)) bits bytes m
    (1 + count * (1 + 1))
row_fits bits bytes m count few = record {
  nodes = omega arith;
  families = omega arith;
  links = omega arith;
  pending = omega arith;
  bytes = λ le. let all = few le in omega (arith, all);
}

family_fits : (apart : Vector → ℕ) (bits bytes m r : ℕ) → FitLinks apart bits bytes m r →
    FitSlots (λ vector. family_bound vector + apart vector) bits bytes m (1 + r)
family_fits apart bits bytes m r f =
    let nodes = f.nodes in
    let families = f.families in
    let links = f.links in
    let pending = f.pending in
    record {
      nodes = omega (arith, nodes);
      families = omega (arith, families);
      links = omega (arith, links);
      pending = omega (arith, pending);
      bytes = λ le. let few = f.bytes le in omega (arith, few);
    }

none_fit : (bits bytes m : ℕ) → 0 ≡ bytes → FitLinks (λ vector. 0) bits bytes m 0
none_fit bits bytes m none = record {
  nodes = omega arith;
  families = omega arith;
  links = omega arith;
  pending = omega arith;
  bytes = λ le. omega (arith, none);
}

-- one more field before others
more_fit : (apart others : Vector → ℕ) (bits bytes a b c d m r s : ℕ) → bits ≡ a + c → bytes ≡ b + d →
    FitSlots apart a b m r → FitLinks others c d m s →
    FitLinks (λ vector. (link_bound vector + apart vector) + others vector) bits bytes m ((1 + r) + s)
more_fit apart others bits bytes a b c d m r s wide sum f g =
    let a-nodes = f.nodes in
    let a-families = f.families in
    let a-links = f.links in
    let a-pending = f.pending in
    let b-nodes = g.nodes in
    let b-families = g.families in
    let b-links = g.links in
    let b-pending = g.pending in
    record {
      nodes = omega (arith, a-nodes, b-nodes);
      families = omega (arith, a-families, b-families);
      links = omega (arith, a-links, b-links);
      pending = omega (arith, a-pending, b-pending);
      bytes = λ le.
          let a-bytes = f.bytes (omega (arith, wide, le)) in
          let b-bytes = g.bytes (omega (arith, wide, le)) in
          omega (arith, a-bytes, b-bytes, sum);
    }

narrow_number : (type : IntegerType) (l : Layout) → Some (number_layout type) ≡ Some l → type.width ≤ 64 → l.bytes ≤ 8
narrow_number type l h narrow =
    let same : number_layout type ≡ l = cc in
    let few : (number_layout type).bytes ≤ 8 = omega (arith, narrow) in
    subst (λ (x : Layout). x.bytes ≤ 8) same few

no_bytes : (l : Layout) → Some no_layout ≡ Some l → 0 ≡ l.bytes
no_bytes l h = let same : no_layout ≡ l = cc in ap (λ (x : Layout). x.bytes) same

-- as many numbers of a width as m bits have
numbers_in : (m width count : ℕ) → 1 ≤ width → width * count ≤ m → count ≤ m / max 1 width
numbers_in m width count some le =
    let same : max 1 width ≡ width = omega arith in
    let inside : count * width ≤ m = omega (arith, le) in
    subst (λ w. count ≤ m / w) (sym same) ((le-div_iff_mul-le some).1 inside)

-- the bytes of such numbers, packed in the array and in the struct
twice_few : (m width count : ℕ) → 1 ≤ width → width ≤ 32 → width * count ≤ m →
    bytes_for width * count + bytes_for width * count ≤ 8 * count_of m width
twice_few m width count some narrow le =
    let few : bytes_for width ≤ 4 = omega (arith, narrow) in
    let all = mul-le-mul_right count few in
    let tries = numbers_in m width count some le in
    omega (arith, all, tries)

-- the bytes of an array, with those of the same numbers in a struct
array_few : (element : PokeType) (bound : Bound) (l : Layout) (m width : ℕ) →
    array_layout (scalar_width element) (literal_count bound) ≡ Some l → scalar_width element ≡ Some width →
    1 ≤ width → l.bits ≤ m → array_bytes (ArrayOf element bound) + l.bytes ≤ 8 * count_of m width
array_few element bound l m width h e some le =
    let a = array_laid element bound l h in
    let same : a.width ≡ width = let one = a.scalar in cc in
    let bits = ap (λ (x : Layout). x.bits) a.is in
    let bytes = ap (λ (x : Layout). x.bytes) a.is in
    let here : array_bytes (ArrayOf element bound) ≡ l.bytes = ap bytes_in h in
    let narrow = a.narrow in
    let few = twice_few m a.width a.count (omega (arith, same, some)) narrow (omega (arith, bits, le)) in
    subst (λ w. array_bytes (ArrayOf element bound) + l.bytes ≤ 8 * count_of m w) same
    (omega (arith, few, here, bytes))

module _ (m : ℕ) where
  array_slots : (element : PokeType) (bound : Bound) (l : Layout) → HasWidths element →
      array_layout (scalar_width element) (literal_count bound) ≡ Some l →
      FitSlots (λ vector. capacity_bound false vector (ArrayOf element bound) m) l.bits
      (array_bytes (ArrayOf element bound) + l.bytes) m (room (ArrayOf element bound) m)
  unfolding capacity_bound room least_width HasWidths
  array_slots (IntegerOf type) bound l w h =
      row_fits l.bits (array_bytes (ArrayOf (IntegerOf type) bound) + l.bytes) m
      (count_of m (least_width (IntegerOf type)))
      (array_few (IntegerOf type) bound l m type.width h refl w.some)
  array_slots (OffsetOf type unit) bound l w h =
      row_fits l.bits (array_bytes (ArrayOf (OffsetOf type unit) bound) + l.bytes) m
      (count_of m (least_width (OffsetOf type unit)))
      (array_few (OffsetOf type unit) bound l m type.width h refl w.0.some)
  array_slots StringOf bound l w h = absurd cc
  array_slots (ArrayOf element inner) bound l w h = absurd cc
  array_slots (StructOf name pinned _) bound l w h = absurd cc
  array_slots (IntegralOf name type _) bound l w h = absurd cc
  array_slots (UnionOf name alternatives) bound l w h = absurd cc

  mutual
    unfolding capacity_bound room HasWidths

    pub laid_slots : (level : ℕ) (ty : PokeType) (l : Layout) → layout_of level ty ≡ Some l → HasWidths ty →
        FitSlots (λ vector. capacity_bound false vector ty m) l.bits (array_bytes ty + l.bytes) m (room ty m)
    laid_slots level (IntegerOf type) l h w =
        let few = narrow_number type l h w.most in number_fits l.bits (0 + l.bytes) m (omega (arith, few))
    laid_slots level (OffsetOf type unit) l h w =
        let few = narrow_number type l h w.0.most in number_fits l.bits (0 + l.bytes) m (omega (arith, few))
    laid_slots level StringOf l h w = absurd cc
    laid_slots level (ArrayOf element bound) l h w = array_slots element bound l w h
    laid_slots level (StructOf name pinned fields) l h w =
        family_fits (λ vector. fields_bound false vector fields m) l.bits (fields_bytes fields + l.bytes) m
        (fields_room fields m)
        (fields_slots (level + 1) fields l (struct_laid level name pinned fields l h).laid w)
    laid_slots level (IntegralOf name type fields) l h w =
        family_fits (λ vector. parts_bound false vector fields m) l.bits (parts_bytes fields + l.bytes) m
        (parts_room fields m)
        (parts_slots (level + 1) fields l (integral_laid level type.width fields l h).laid w.1)
    laid_slots level (UnionOf name alternatives) l h w = absurd cc

    fields_slots : (level : ℕ) (fields : Fields) (l : Layout) → fields_layout level fields ≡ Some l →
        HaveWidths fields →
        FitLinks (λ vector. fields_bound false vector fields m) l.bits (fields_bytes fields + l.bytes) m
        (fields_room fields m)
    fields_slots level NoFields l h w = let none = no_bytes l h in none_fit l.bits (0 + l.bytes) m (omega (arith, none))
    fields_slots level (FieldThen name order type c label when rest) l h w =
        let f = field_laid level type c label when (fields_layout level rest) l h in
        let bytes = ap (λ (x : Layout). x.bytes) f.sum in
        more_fit (λ vector. capacity_bound false vector type m) (λ vector. fields_bound false vector rest m) l.bits
        ((array_bytes type + fields_bytes rest) + l.bytes) f.one.bits (array_bytes type + f.one.bytes) f.more.bits
        (fields_bytes rest + f.more.bytes) m (room type m) (fields_room rest m) (ap (λ (x : Layout). x.bits) f.sum)
        (omega (arith, bytes)) (laid_slots level type f.one f.laid w.0) (fields_slots level rest f.more f.rest w.1)

    parts_slots : (level : ℕ) (parts : Parts) (l : Layout) → parts_layout level parts ≡ Some l →
        PartsHaveWidths parts →
        FitLinks (λ vector. parts_bound false vector parts m) l.bits (parts_bytes parts + l.bytes) m
        (parts_room parts m)
    parts_slots level NoParts l h w = let none = no_bytes l h in none_fit l.bits (0 + l.bytes) m (omega (arith, none))
    parts_slots level (PartThen name order type c rest) l h w =
        let f = part_laid level type c (parts_layout level rest) l h in
        let bytes = ap (λ (x : Layout). x.bytes) f.sum in
        more_fit (λ vector. capacity_bound false vector type m) (λ vector. parts_bound false vector rest m) l.bits
        ((array_bytes type + parts_bytes rest) + l.bytes) f.one.bits (array_bytes type + f.one.bytes) f.more.bits
        (parts_bytes rest + f.more.bytes) m (room type m) (parts_room rest m) (ap (λ (x : Layout). x.bits) f.sum)
        (omega (arith, bytes)) (laid_slots level type f.one f.laid w.0) (parts_slots level rest f.more f.rest w.1)
