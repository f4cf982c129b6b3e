-- The bounds of a type of fixed layout: where its arrays are packed, its values have at most as much of each vector as
-- where nothing is, but for texts and bytes. Nothing packed, they have as many places in frames as nodes.
use Rattle.std.proofs.Common.{◌≡◌, ℕ, ◌+◌, ◌*◌, ◌≤◌, true, false, Some, refl, arith}
use Rattle.pickle_types.specs.Types.{PokeType, IntegerOf, OffsetOf, StringOf, ArrayOf, StructOf, IntegralOf, UnionOf, Bound, Fields, NoFields, FieldThen, Parts, NoParts, PartThen}
use Rattle.pickle_types.specs.Bounds.{least_width, count_of}
use Rattle.mapping_plans.specs.Rows.{Layout, scalar_width, layout_of, fields_layout, parts_layout}
use Rattle.mapping_plans.proofs.Layouts.{struct_laid, integral_laid, array_laid, part_laid, field_laid}
use Rattle.value_store.specs.Takes.{Vector, NodesOf, FamiliesOf, LinksOf, PendingOf}
use Rattle.type_soundness.specs.Capacity.{number_bound, family_bound, link_bound, row_bound, capacity_bound, fields_bound, parts_bound}

-- what a value takes where arrays are packed, and where nothing is
pub record AreLaidBounds (each apart : Vector → ℕ) : Type 0 where
  pub nodes : each NodesOf ≤ apart NodesOf
  pub families : each FamiliesOf ≤ apart FamiliesOf
  pub links : each LinksOf ≤ apart LinksOf
  pub pending : each PendingOf ≤ apart PendingOf
  pub places : apart PendingOf ≡ apart NodesOf

number_bounds : AreLaidBounds (λ vector. number_bound vector) (λ vector. number_bound vector)
number_bounds = record {
  nodes = omega arith;
  families = omega arith;
  links = omega arith;
  pending = omega arith;
  places = refl;
}

-- an array of numbers
row_bounds : (width count : ℕ) → AreLaidBounds (λ vector. row_bound vector width count)
    (λ vector. family_bound vector + count * (link_bound vector + number_bound vector))
row_bounds width count = record {
  nodes = omega arith;
  families = omega arith;
  links = omega arith;
  pending = omega arith;
  places = refl;
}

none_bounds : AreLaidBounds (λ vector. 0) (λ vector. 0)
none_bounds = record {
  nodes = omega arith;
  families = omega arith;
  links = omega arith;
  pending = omega arith;
  places = refl;
}

one_bound : (each apart others outer : Vector → ℕ) → AreLaidBounds each apart → AreLaidBounds others outer →
    AreLaidBounds (λ vector. (link_bound vector + each vector) + others vector)
    (λ vector. (link_bound vector + apart vector) + outer vector)
one_bound each apart others outer h g =
    let a-nodes = h.nodes in
    let a-families = h.families in
    let a-links = h.links in
    let a-pending = h.pending in
    let a-places = h.places in
    let b-nodes = g.nodes in
    let b-families = g.families in
    let b-links = g.links in
    let b-pending = g.pending in
    let b-places = g.places in
    record {
      nodes = omega (arith, a-nodes, b-nodes);
      families = omega (arith, a-families, b-families);
      links = omega (arith, a-links, b-links);
      pending = omega (arith, a-pending, b-pending);
      places = omega (arith, a-places, b-places);
    }

family_of : (each apart : Vector → ℕ) → AreLaidBounds each apart →
    AreLaidBounds (λ vector. family_bound vector + each vector) (λ vector. family_bound vector + apart vector)
family_of each apart h =
    let nodes = h.nodes in
    let families = h.families in
    let links = h.links in
    let pending = h.pending in
    let places = h.places in
    record {
      nodes = omega (arith, nodes);
      families = omega (arith, families);
      links = omega (arith, links);
      pending = omega (arith, pending);
      places = omega (arith, places);
    }

module _ (m : ℕ) where
  abbrev BoundsOf : PokeType → Type 0
  BoundsOf ty = AreLaidBounds (λ vector. capacity_bound true vector ty m) (λ vector. capacity_bound false vector ty m)

  abbrev FieldsBounds : Fields → Type 0
  FieldsBounds fields =
      AreLaidBounds (λ vector. fields_bound true vector fields m) (λ vector. fields_bound false vector fields m)

  abbrev PartsBounds : Parts → Type 0
  PartsBounds parts =
      AreLaidBounds (λ vector. parts_bound true vector parts m) (λ vector. parts_bound false vector parts m)

  -- the bounds of an array of numbers
  array_bounds : (element : PokeType) (bound : Bound) (width : ℕ) → scalar_width element ≡ Some width →
      BoundsOf (ArrayOf element bound)
  unfolding capacity_bound
  array_bounds (IntegerOf type) bound width e = row_bounds type.width (count_of m (least_width (IntegerOf type)))
  array_bounds (OffsetOf type unit) bound width e =
      row_bounds type.width (count_of m (least_width (OffsetOf type unit)))
  array_bounds StringOf bound width e = absurd cc
  array_bounds (ArrayOf element inner) bound width e = absurd cc
  array_bounds (StructOf name pinned _) bound width e = absurd cc
  array_bounds (IntegralOf name type _) bound width e = absurd cc
  array_bounds (UnionOf name alternatives) bound width e = absurd cc

  mutual
    unfolding capacity_bound

    pub laid_bounds : (level : ℕ) (ty : PokeType) (l : Layout) → layout_of level ty ≡ Some l → BoundsOf ty
    laid_bounds level (IntegerOf type) l h = number_bounds
    laid_bounds level (OffsetOf type unit) l h = number_bounds
    laid_bounds level StringOf l h = absurd cc
    laid_bounds level (ArrayOf element bound) l h =
        let a = array_laid element bound l h in array_bounds element bound a.width a.scalar
    laid_bounds level (StructOf name pinned fields) l h =
        family_of (λ vector. fields_bound true vector fields m) (λ vector. fields_bound false vector fields m)
        (fields_bounds (level + 1) fields l (struct_laid level name pinned fields l h).laid)
    laid_bounds level (IntegralOf name type fields) l h =
        family_of (λ vector. parts_bound true vector fields m) (λ vector. parts_bound false vector fields m)
        (parts_bounds (level + 1) fields l (integral_laid level type.width fields l h).laid)
    laid_bounds level (UnionOf name alternatives) l h = absurd cc

    fields_bounds : (level : ℕ) (fields : Fields) (l : Layout) → fields_layout level fields ≡ Some l →
        FieldsBounds fields
    fields_bounds level NoFields l h = none_bounds
    fields_bounds level (FieldThen name order type c label when rest) l h =
        let f = field_laid level type c label when (fields_layout level rest) l h in
        one_bound (λ vector. capacity_bound true vector type m) (λ vector. capacity_bound false vector type m)
        (λ vector. fields_bound true vector rest m) (λ vector. fields_bound false vector rest m)
        (laid_bounds level type f.one f.laid) (fields_bounds level rest f.more f.rest)

    parts_bounds : (level : ℕ) (parts : Parts) (l : Layout) → parts_layout level parts ≡ Some l → PartsBounds parts
    parts_bounds level NoParts l h = none_bounds
    parts_bounds level (PartThen name order type c rest) l h =
        let f = part_laid level type c (parts_layout level rest) l h in
        one_bound (λ vector. capacity_bound true vector type m) (λ vector. capacity_bound false vector type m)
        (λ vector. parts_bound true vector rest m) (λ vector. parts_bound false vector rest m)
        (laid_bounds level type f.one f.laid) (parts_bounds level rest f.more f.rest)
