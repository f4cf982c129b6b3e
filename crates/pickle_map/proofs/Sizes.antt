-- The sizes of types of fixed layout, as the mapper sums them up.
use Rattle.std.proofs.Common.{◌≡◌, ℕ, zero, suc, ◌+◌, ◌*◌, ◌<◌, ◌≤◌, Bool, true, false, List, [], ◌∷◌, Option, Some, None, drop, length, get_or, refl, sym, ap, ◌∙◌, arith}
use Rattle.std.specs.Prelude.{All, if◌then◌else◌, nat_le}
use Rattle.std.proofs.Math.Nat.{mul_assoc, mul-le-mul}
use Rattle.std.proofs.lemmas.Bool.{eq-eqb, le-leb, lt-leb, ne_eqb}
use Rattle.std.proofs.lemmas.List.{drop_more}
use Rattle.pickle_types.specs.Types.{PokeType, Term, IntegerOf, OffsetOf, StringOf, ArrayOf, StructOf, IntegralOf, UnionOf, Bound, Fields, Parts}
use Rattle.pickle_types.specs.declared.integer.IntegerType.{IntegerType}
use Rattle.pickle_types.specs.declared.node.Field.{Field}
use Rattle.pickle_types.specs.declared.node.Node.{Node}
use Rattle.pickle_types.specs.declared.node.Part.{Part}
use Rattle.pickle_types.specs.Table.{open_fields, open_parts, optional_term, FieldsBelow, PartsBelow}
use Rattle.pickle_meaning.specs.Values.{Naming}
use Rattle.value_store.specs.Packed.{bytes_for}
use Rattle.mapping_plans.specs.Rows.{Row, Apart, Values, Layout, array_layout, clause_avoids, element_layout, few_bytes, field_layout, fields_layout, layout_of, layout_then, literal_count, numbers_layout, or_values, parts_layout, row_of, scalar_width, some_bytes, struct_row, whole_number}
use Rattle.mapping_plans.specs.Widths.{HasWidths}
use Rattle.pickle_map.specs.declared.mapper.layouts.FixedSize.{FixedSize}
use Rattle.pickle_map.specs.Layouts.{HasPartPlace, HasPlace, IsSizeOf}

-- ---- numbers of an array

-- an integer or an offset has at least one bit
scalar_some : (ty : PokeType) (width : ℕ) → HasWidths ty → scalar_width ty ≡ Some width → 1 ≤ width
unfolding HasWidths
scalar_some (IntegerOf type) width has is =
    let some = has.some in let same : type.width ≡ width = cc in omega (arith, some, same)
scalar_some (OffsetOf type unit) width has is =
    let some = has.0.some in let same : type.width ≡ width = cc in omega (arith, some, same)
scalar_some StringOf width has is = absurd cc
scalar_some (ArrayOf element bound) width has is = absurd cc
scalar_some (StructOf name pinned _) width has is = absurd cc
scalar_some (IntegralOf name type _) width has is = absurd cc
scalar_some (UnionOf name alternatives) width has is = absurd cc

module _ (element : PokeType) (bound : Bound) (width count : ℕ) (scalar : scalar_width element ≡ Some width)
    (literal : literal_count bound ≡ Some count) where
  -- numbers of more than 32 bits
  pub numbers_wide : 32 < width → IsSizeOf None (array_layout (scalar_width element) (literal_count bound))
  numbers_wide wide = rw (scalar, literal, lt-leb width 32 wide) tt

  -- no numbers
  pub numbers_none : count ≡ 0 → IsSizeOf None (array_layout (scalar_width element) (literal_count bound))
  numbers_none none = rw (scalar, literal, none) (no_bytes (nat_le width 32))
    where
      no_bytes : (narrow : Bool) →
          IsSizeOf None (if narrow then some_bytes (few_bytes (numbers_layout width 0)) else None)
      no_bytes true =
          let none : bytes_for width * 0 ≡ 0 = omega arith in rw none tt
      no_bytes false = tt

  -- each number has at least one byte
  module _ (has : HasWidths element) where
    each : 1 ≤ bytes_for width
    each = let some = scalar_some element width has scalar in omega (arith, some)

    all : 1 * count ≤ bytes_for width * count
    all = mul-le-mul each (omega arith)

    pub numbers_many : 512 < count → IsSizeOf None (array_layout (scalar_width element) (literal_count bound))
    numbers_many many =
        let more = all in
        let beyond : 512 < bytes_for width * count = omega (arith, more, many) in
        rw (scalar, literal) (too_many (nat_le width 32) (lt-leb (bytes_for width * count) 512 beyond))
      where
        too_many : (narrow : Bool) → nat_le (bytes_for width * count) 512 ≡ false →
            IsSizeOf None (if narrow then some_bytes (few_bytes (numbers_layout width count)) else None)
        too_many true beyond = rw beyond tt
        too_many false beyond = tt

    -- so few numbers as have at most 512 bytes
    pub numbers_few : (size : FixedSize) → width ≤ 32 → 1 ≤ count → bytes_for width * count ≤ 512 →
        size.bits ≡ width * count → size.bytes ≡ bytes_for width * count →
        IsSizeOf (Some size) (array_layout (scalar_width element) (literal_count bound))
    numbers_few size narrow some few bits bytes =
        let more = all in
        let one : 1 ≤ bytes_for width * count = omega (arith, more, some) in
        rw (
          scalar,
          literal,
          le-leb width 32 narrow,
          le-leb (bytes_for width * count) 512 few,
          le-leb 1 (bytes_for width * count) one,
        ) (bits, bytes)

-- the bits of numbers are in their bytes
pub numbers_bits : (width count : ℕ) → width * count ≤ 8 * (bytes_for width * count)
numbers_bits width count =
    let each : width ≤ 8 * bytes_for width = omega arith in
    let all : width * count ≤ 8 * bytes_for width * count = mul-le-mul each (omega arith) in
    omega (arith, all, mul_assoc 8 (bytes_for width) count)

-- ---- sums

-- where there is no size, there is no layout
none_of : (l : Option Layout) → IsSizeOf None l → l ≡ None
none_of None h = refl
none_of (Some l) h = absurd h

none_then : (own : Option Layout) → layout_then own None ≡ None
none_then None = refl
none_then (Some own) = refl

unsized : (avoids : Bool) (label condition : Option Term) (own : Option Layout) → IsSizeOf None own →
    field_layout avoids label condition own ≡ None
unsized true None None own h = none_of own h
unsized false None None own h = refl
unsized avoids (Some label) condition own h = refl
unsized avoids None (Some condition) own h = refl

-- a field and the fields after it take more than 512 bytes
sum_not : (one others : FixedSize) (l ls : Option Layout) → IsSizeOf (Some one) l → IsSizeOf (Some others) ls →
    512 < one.bytes + others.bytes → layout_then l ls ≡ None
sum_not one others None ls h g beyond = refl
sum_not one others (Some l) None h g beyond = refl
sum_not one others (Some l) (Some ls) h g beyond =
    rw (lt-leb (l.bytes + ls.bytes) 512 (omega (arith, h, g, beyond))) refl

none_at_all : (l : Option Layout) → l ≡ None → IsSizeOf None (some_bytes l)
none_at_all None e = tt
none_at_all (Some l) e = absurd cc

-- where the fields from a place on have no layout, all of them have none
module _ (types : ℕ → PokeType) (level : ℕ) where
  fields_none : (fs : List Field) (n : ℕ) → fields_layout level (open_fields types (drop n fs)) ≡ None →
      fields_layout level (open_fields types fs) ≡ None
  fields_none fs zero h = h
  fields_none [] (suc n) h = h
  fields_none (f ∷ fs) (suc n) h = ap (layout_then _) (fields_none fs n h) ∙ none_then _

  parts_none : (ps : List Part) (n : ℕ) → parts_layout level (open_parts types (drop n ps)) ≡ None →
      parts_layout level (open_parts types ps) ≡ None
  parts_none ps zero h = h
  parts_none [] (suc n) h = h
  parts_none (p ∷ ps) (suc n) h = ap (layout_then _) (parts_none ps n h) ∙ none_then _

-- the field at a place, and those after it
module _ (types : ℕ → PokeType) (level : ℕ) (fs : List Field) (n m : ℕ) (f : Field) (step : m ≡ n + 1)
    (inside : n < length fs) (is : f ≡ get_or fs n f) where
  abbrev own_from : Option Layout → Option Layout
  own_from own =
      field_layout (clause_avoids level (optional_term f.constraint)) (optional_term f.label)
      (optional_term f.condition) own

  from_here : fields_layout level (open_fields types (drop n fs))
      ≡ layout_then (own_from (layout_of level (types f.node)))
      (fields_layout level (open_fields types (drop m fs)))
  from_here =
      ap (λ gs. fields_layout level (open_fields types gs)) (drop_more fs n f inside)
      ∙ ap (λ g. fields_layout level (open_fields types (g ∷ drop (n + 1) fs))) (sym is)
      ∙ ap (λ k. layout_then (own_from (layout_of level (types f.node)))
      (fields_layout level (open_fields types (drop k fs)))) (sym step)

  field_none : own_from (layout_of level (types f.node)) ≡ None →
      IsSizeOf None (some_bytes (fields_layout level (open_fields types fs)))
  field_none e =
      none_at_all _ (fields_none types level fs n
      (from_here ∙ ap (λ own. layout_then own (fields_layout level (open_fields types (drop m fs)))) e))

  pub field_not_plain : (plain : Bool) → ((own : Option Layout) → own_from own ≡ (if plain then own else None)) →
      plain ≡ false → IsSizeOf None (some_bytes (fields_layout level (open_fields types fs)))
  field_not_plain true own e = absurd cc
  field_not_plain false own e = field_none (own (layout_of level (types f.node)))

  pub field_unsized : IsSizeOf None (layout_of level (types f.node)) →
      IsSizeOf None (some_bytes (fields_layout level (open_fields types fs)))
  field_unsized h = field_none (unsized _ (optional_term f.label) (optional_term f.condition) _ h)

  module _ (plain : Bool) (own_is : (own : Option Layout) → own_from own ≡ (if plain then own else None))
      (yes : plain ≡ true) (one others : FixedSize) (h : IsSizeOf (Some one) (layout_of level (types f.node)))
      (g : IsSizeOf (Some others) (fields_layout level (open_fields types (drop m fs)))) where
    own_then : fields_layout level (open_fields types (drop n fs))
        ≡ layout_then (layout_of level (types f.node)) (fields_layout level (open_fields types (drop m fs)))
    own_then =
        from_here
        ∙ ap (λ own. layout_then own (fields_layout level (open_fields types (drop m fs))))
        (own_is (layout_of level (types f.node)) ∙ ap (λ b. if b then layout_of level (types f.node) else None) yes)

    pub field_beyond : 512 < one.bytes + others.bytes →
        IsSizeOf None (some_bytes (fields_layout level (open_fields types fs)))
    field_beyond beyond =
        none_at_all _ (fields_none types level fs n (own_then ∙ sum_not one others _ _ h g beyond))

-- the same of an integral struct's fields
module _ (types : ℕ → PokeType) (level : ℕ) (ps : List Part) (n m : ℕ) (p : Part) (step : m ≡ n + 1)
    (inside : n < length ps) (is : p ≡ get_or ps n p) where
  abbrev part_from : Option Layout → Option Layout
  part_from own = field_layout (clause_avoids level (optional_term p.constraint)) None None own

  from_there : parts_layout level (open_parts types (drop n ps))
      ≡ layout_then (part_from (layout_of level (types p.node)))
      (parts_layout level (open_parts types (drop m ps)))
  from_there =
      ap (λ qs. parts_layout level (open_parts types qs)) (drop_more ps n p inside)
      ∙ ap (λ q. parts_layout level (open_parts types (q ∷ drop (n + 1) ps))) (sym is)
      ∙ ap (λ k. layout_then (part_from (layout_of level (types p.node)))
      (parts_layout level (open_parts types (drop k ps)))) (sym step)

  part_none : part_from (layout_of level (types p.node)) ≡ None →
      IsSizeOf None (some_bytes (parts_layout level (open_parts types ps)))
  part_none e =
      none_at_all _ (parts_none types level ps n
      (from_there ∙ ap (λ own. layout_then own (parts_layout level (open_parts types (drop m ps)))) e))

  pub part_not_plain : clause_avoids level (optional_term p.constraint) ≡ false →
      IsSizeOf None (some_bytes (parts_layout level (open_parts types ps)))
  part_not_plain named = part_none (ap (λ b. field_layout b None None (layout_of level (types p.node))) named)

  pub part_unsized : IsSizeOf None (layout_of level (types p.node)) →
      IsSizeOf None (some_bytes (parts_layout level (open_parts types ps)))
  part_unsized h = part_none (unsized _ None None _ h)

  module _ (yes : clause_avoids level (optional_term p.constraint) ≡ true) (one others : FixedSize)
      (h : IsSizeOf (Some one) (layout_of level (types p.node)))
      (g : IsSizeOf (Some others) (parts_layout level (open_parts types (drop m ps)))) where
    part_then : parts_layout level (open_parts types (drop n ps))
        ≡ layout_then (layout_of level (types p.node)) (parts_layout level (open_parts types (drop m ps)))
    part_then =
        from_there
        ∙ ap (λ b. layout_then (field_layout b None None (layout_of level (types p.node)))
        (parts_layout level (open_parts types (drop m ps)))) yes

    pub part_beyond : 512 < one.bytes + others.bytes →
        IsSizeOf None (some_bytes (parts_layout level (open_parts types ps)))
    part_beyond beyond =
        none_at_all _ (parts_none types level ps n (part_then ∙ sum_not one others _ _ h g beyond))

-- an integral struct has the bits of its fields
pub whole_is : (own : FixedSize) (l : Option Layout) (width : ℕ) → IsSizeOf (Some own) l → own.bits ≡ width →
    IsSizeOf (Some own) (whole_number width l)
whole_is own None width h e = absurd h
whole_is own (Some l) width h e = rw (eq-eqb l.bits width (sym h.0 ∙ e)) h

pub whole_not : (own : FixedSize) (l : Option Layout) (width : ℕ) → IsSizeOf (Some own) l → (own.bits ≡ width → ⊥) →
    IsSizeOf None (whole_number width l)
whole_not own None width h other = absurd h
whole_not own (Some l) width h other = rw (ne_eqb l.bits width (λ e. other (h.0 ∙ e))) tt

pub whole_none : (l : Option Layout) (width : ℕ) → IsSizeOf None l → IsSizeOf None (whole_number width l)
whole_none None width h = tt
whole_none (Some l) width h = absurd h

-- the fields of a type have places where the type has one
pub fields_places : (nodes : List Node) (level at : ℕ) → level + at < length nodes → (fs : List Field) →
    FieldsBelow at fs → All (HasPlace nodes (level + 1)) fs
fields_places nodes level at inside fs below i d lt = let under = below i d lt in omega (arith, inside, under)

pub parts_places : (nodes : List Node) (level at : ℕ) → level + at < length nodes → (ps : List Part) →
    PartsBelow at ps → All (HasPartPlace nodes (level + 1)) ps
parts_places nodes level at inside ps below i d lt = let under = below i d lt in omega (arith, inside, under)

-- ---- how elements are kept

-- what is kept of a layout
abbrev pub kept_as : Option Layout → Row
kept_as None = Apart
kept_as (Some l) = Values l.bytes

as_kept : (own : Option Layout) → or_values Apart own ≡ kept_as own
as_kept None = refl
as_kept (Some l) = refl

pub struct_keeps : (name : Naming) (pinned : Bool) (fields : Fields) (own : Option Layout) →
    struct_row pinned fields ≡ Apart → element_layout (StructOf name pinned fields) ≡ own →
    row_of (StructOf name pinned fields) ≡ kept_as own
struct_keeps name pinned fields own row is =
    ap (λ r. or_values r (element_layout (StructOf name pinned fields))) row ∙ ap (or_values Apart) is ∙ as_kept own

pub integral_keeps : (name : Naming) (type : IntegerType) (fields : Parts) (own : Option Layout) →
    element_layout (IntegralOf name type fields) ≡ own → row_of (IntegralOf name type fields) ≡ kept_as own
integral_keeps name type fields own is = ap (or_values Apart) is ∙ as_kept own
