-- What a table says about the shape of its node at a place.
use Rattle.std.proofs.Common.{◌≡◌, ℕ, zero, suc, ◌+◌, ◌<◌, ◌≤◌, max, List, [], ◌∷◌, map, Option, Some, None, length, get_or, refl, sym, ap, subst, ◌∙◌, arith}
use Rattle.std.specs.Prelude.{slice_get, unwrap_or, All, Vec, Bool}
use Rattle.std.specs.declared.alloc.Global.{Global}
use Rattle.std.proofs.lemmas.Option.{slice_get-get_or}
use Rattle.pickle_types.specs.declared.integer.IntegerType.{IntegerType}
use Rattle.pickle_types.specs.declared.name.Name.{Name}
use Rattle.pickle_types.specs.declared.node.Field.{Field}
use Rattle.pickle_types.specs.declared.node.Part.{Part}
use Rattle.pickle_types.specs.declared.node.Shape.{Shape}
use Rattle.pickle_types.specs.declared.node.Shape.TheVariants as shape
use Rattle.pickle_types.specs.declared.node.Node.{Node}
use Rattle.pickle_types.specs.Types.{PokeType, StructOf, IntegralOf, UnionOf, depth, fields_depth, parts_depth}
use Rattle.pickle_types.specs.Table.{open_shape, open_fields, open_parts, type_of, FieldsBelow, PartsBelow, NamesBelow, IsSoundField, IsSoundPart, IsSoundShape, IsTable}
use Rattle.pickle_types.proofs.Tables.{opens}
use Rattle.pickle_meaning.specs.Means.{field_names, part_names}
use Rattle.value_store.specs.Names.{field_name, part_name, shape_title, shape_names, found_title, found_names, title_at, names_at}
use Rattle.pickle_map.specs.Mappable.{IsFieldOf, IsPartOf}

module _ (nodes : List Node) (table : IsTable nodes) (at : ℕ) (inside : at < length nodes) (other : Node) (s : Shape)
    (is : (get_or nodes at other).shape ≡ s) where
  found : slice_get nodes at ≡ Some (get_or nodes at other)
  found = slice_get-get_or nodes at other inside

  pub opened_as : type_of nodes at ≡ open_shape (type_of nodes) s
  opened_as = opens nodes table at _ found ∙ ap (open_shape (type_of nodes)) is

  pub below_as : NamesBelow at s
  below_as = subst (NamesBelow at) is (table.below at _ found)

  pub sound_as : IsSoundShape s
  sound_as = subst IsSoundShape is (table.sound at _ found)

  pub title_as : title_at nodes at ≡ shape_title s
  title_as = ap found_title found ∙ ap shape_title is

  pub names_as : names_at nodes at ≡ shape_names s
  names_as = ap found_names found ∙ ap shape_names is

module _ (nodes : List Node) (table : IsTable nodes) (at : ℕ) (inside : at < length nodes) (other : Node) where
  abbrev Is : Shape → Type 0
  Is s = (get_or nodes at other).shape ≡ s

  pub struct_opened : (name : Option Name) (pinned : Bool) (fields : Vec Field Global) (now : List Field) →
      Is (shape.Struct name pinned fields) → now ≡ fields.items →
      type_of nodes at ≡ StructOf (title_at nodes at) pinned (open_fields (type_of nodes) now)
  struct_opened name pinned fields now is e =
      opened_as nodes table at inside other _ is
      ∙ ap (λ n. StructOf n pinned (open_fields (type_of nodes) fields.items))
      (sym (title_as nodes table at inside other _ is))
      ∙ ap (λ fs. StructOf (title_at nodes at) pinned (open_fields (type_of nodes) fs)) (sym e)

  pub integral_opened : (name : Option Name) (number : IntegerType) (fields : Vec Part Global) (now : List Part) →
      Is (shape.Integral name number fields) → now ≡ fields.items →
      type_of nodes at ≡ IntegralOf (title_at nodes at) number (open_parts (type_of nodes) now)
  integral_opened name number fields now is e =
      opened_as nodes table at inside other _ is
      ∙ ap (λ n. IntegralOf n number (open_parts (type_of nodes) fields.items))
      (sym (title_as nodes table at inside other _ is))
      ∙ ap (λ fs. IntegralOf (title_at nodes at) number (open_parts (type_of nodes) fs)) (sym e)

  pub union_opened : (name : Option Name) (alternatives : Vec Part Global) (now : List Part) →
      Is (shape.Union name alternatives) → now ≡ alternatives.items →
      type_of nodes at ≡ UnionOf (title_at nodes at) (open_parts (type_of nodes) now)
  union_opened name alternatives now is e =
      opened_as nodes table at inside other _ is
      ∙ ap (λ n. UnionOf n (open_parts (type_of nodes) alternatives.items))
      (sym (title_as nodes table at inside other _ is))
      ∙ ap (λ fs. UnionOf (title_at nodes at) (open_parts (type_of nodes) fs)) (sym e)

module _ (nodes : List Node) (at : ℕ) (inside : at < length nodes) (levels : ℕ) where
  -- the fields of a node that is no deeper than the frames that are left
  pub fields_within : (fs : List Field) → FieldsBelow at fs → All IsSoundField fs →
      levels + fields_depth (open_fields (type_of nodes) fs) ≤ 65 → All (IsFieldOf nodes levels) fs
  unfolding fields_depth
  fields_within [] below sound deep i d lt = absurd (omega arith)
  fields_within (f ∷ fs) below sound deep zero d lt =
      let under : f.node < at = below 0 d (omega arith) in
      let deep : levels + max (depth (type_of nodes f.node)) (fields_depth (open_fields (type_of nodes) fs)) ≤ 65 =
      deep in
      let first : levels + depth (type_of nodes f.node) ≤ 65 = omega (arith, deep) in
      record { inside = omega (arith, under, inside); deep = first; sound = sound 0 d (omega arith) }
  fields_within (f ∷ fs) below sound deep (suc i) d lt =
      let deep : levels + max (depth (type_of nodes f.node)) (fields_depth (open_fields (type_of nodes) fs)) ≤ 65 =
      deep in
      fields_within fs (λ k e l. below (suc k) e (omega arith)) (λ k e l. sound (suc k) e (omega arith))
      (omega (arith, deep)) i d (omega arith)

  pub parts_within : (ps : List Part) → PartsBelow at ps → All IsSoundPart ps →
      levels + parts_depth (open_parts (type_of nodes) ps) ≤ 65 → All (IsPartOf nodes levels) ps
  unfolding parts_depth
  parts_within [] below sound deep i d lt = absurd (omega arith)
  parts_within (p ∷ ps) below sound deep zero d lt =
      let under : p.node < at = below 0 d (omega arith) in
      let deep : levels + max (depth (type_of nodes p.node)) (parts_depth (open_parts (type_of nodes) ps)) ≤ 65 =
      deep in
      let first : levels + depth (type_of nodes p.node) ≤ 65 = omega (arith, deep) in
      record { inside = omega (arith, under, inside); deep = first; sound = sound 0 d (omega arith) }
  parts_within (p ∷ ps) below sound deep (suc i) d lt =
      let deep : levels + max (depth (type_of nodes p.node)) (parts_depth (open_parts (type_of nodes) ps)) ≤ 65 =
      deep in
      parts_within ps (λ k e l. below (suc k) e (omega arith)) (λ k e l. sound (suc k) e (omega arith))
      (omega (arith, deep)) i d (omega arith)

-- one above the highest node that fields name
abbrev pub fields_bound : List Field → ℕ
fields_bound [] = 0
fields_bound (f ∷ fs) = max (f.node + 1) (fields_bound fs)

abbrev pub parts_bound : List Part → ℕ
parts_bound [] = 0
parts_bound (p ∷ ps) = max (p.node + 1) (parts_bound ps)

pub fields_bounded : (at : ℕ) (fs : List Field) → FieldsBelow at fs → fields_bound fs ≤ at
fields_bounded at [] below = omega arith
fields_bounded at (f ∷ fs) below =
    let head = below 0 f (omega arith) in
    let tail = fields_bounded at fs (λ k e l. below (suc k) e (omega arith)) in
    omega arith

pub parts_bounded : (at : ℕ) (ps : List Part) → PartsBelow at ps → parts_bound ps ≤ at
parts_bounded at [] below = omega arith
parts_bounded at (p ∷ ps) below =
    let head = below 0 p (omega arith) in
    let tail = parts_bounded at ps (λ k e l. below (suc k) e (omega arith)) in
    omega arith

pub field_bounded : (fs : List Field) (i : ℕ) (f : Field) → i < length fs → f ≡ get_or fs i f → f.node < fields_bound fs
field_bounded [] i f lt e = absurd (omega arith)
field_bounded (g ∷ fs) zero f lt e = let same : f ≡ g = e in let n = ap (λ (x : Field). x.node) same in omega arith
field_bounded (g ∷ fs) (suc i) f lt e = let below = field_bounded fs i f (omega arith) e in omega arith

pub part_bounded : (ps : List Part) (i : ℕ) (p : Part) → i < length ps → p ≡ get_or ps i p → p.node < parts_bound ps
part_bounded [] i p lt e = absurd (omega arith)
part_bounded (q ∷ ps) zero p lt e = let same : p ≡ q = e in let n = ap (λ (x : Part). x.node) same in omega arith
part_bounded (q ∷ ps) (suc i) p lt e = let below = part_bounded ps i p (omega arith) e in omega arith

-- what holds of all holds of one
pub of_one : {A : Type 0} (P : A → Type 0) (xs : List A) (i : ℕ) (x : A) → All P xs → i < length xs →
    x ≡ get_or xs i x → P x
of_one P xs i x all lt e = subst P (sym e) (all i x lt)

-- the names of fields, by the type and by its shape
pub fields_named : (types : ℕ → PokeType) (fs : List Field) → field_names (open_fields types fs) ≡ map field_name fs
fields_named types [] = refl
fields_named types (f ∷ fs) = ap (λ rest. field_name f ∷ rest) (fields_named types fs)

pub parts_named : (types : ℕ → PokeType) (ps : List Part) → part_names (open_parts types ps) ≡ map part_name ps
parts_named types [] = refl
parts_named types (p ∷ ps) = ap (λ rest. part_name p ∷ rest) (parts_named types ps)

-- the name of an alternative by its number
pub name_of_one : (ps : List Part) (i : ℕ) (p : Part) → i < length ps → p ≡ get_or ps i p →
    unwrap_or (slice_get (map part_name ps) i) None ≡ part_name p
name_of_one [] i p lt e = absurd (omega arith)
name_of_one (q ∷ ps) zero p lt e = let same : p ≡ q = e in ap part_name (sym same)
name_of_one (q ∷ ps) (suc i) p lt e = name_of_one ps i p (omega arith) e
