-- Sums of constrained bits, part by part.
use Rattle.std.proofs.Common.{◌≡◌, ℕ, zero, suc, ◌+◌, ◌-◌, ◌<◌, ◌≤◌, ◌⊎◌, inl, inr, min, List, [], ◌∷◌, Option, Some, None, length, get_or, drop, refl, sym, ap, ◌∙◌, arith}
use Rattle.std.specs.Prelude.{slice_get}
use Rattle.std.proofs.lemmas.List.{drop_more, drop_all}
use Rattle.pickle_types.specs.declared.node.Field.{Field}
use Rattle.pickle_types.specs.declared.node.Node.{Node}
use Rattle.pickle_types.specs.declared.node.Part.{Part}
use Rattle.pickle_types.specs.declared.node.Shape.{Shape}
use Rattle.pickle_types.specs.declared.node.Shape.TheVariants as shape
use Rattle.pickle_types.specs.declared.integer.IntegerType.{IntegerType}
use Rattle.pickle_meaning.specs.Means.{number_type}
use Rattle.pickle_types.specs.Table.{IsTable, type_of, optional_term, open_shape, open_fields, open_parts}
use Rattle.pickle_types.specs.Types.{PokeType}
use Rattle.pickle_types.proofs.Tables.{opens, node_at}
use Rattle.pickle_meaning.specs.Values.{Value, Members, member_at}
use Rattle.identification.specs.Constrained.{capped, number_bits, own_bits, bits_of_member, bits_inside, fields_bits, digits_bits, taken_bits, elements_bits}

-- one more part is added
pub more_bits : (total bits own rest part next : ℕ) → capped total ≡ capped (bits + (own + rest)) → part ≡ capped own →
    next ≡ min (bits + part) 18446744073709551615 → capped total ≡ capped (next + rest)
more_bits total bits own rest part next so_far is sum = omega arith

-- all parts are added
pub all_bits : (total bits rest : ℕ) → bits ≤ 18446744073709551615 → capped total ≡ capped (bits + rest) → rest ≡ 0 →
    bits ≡ capped total
all_bits total bits rest small so_far none = omega arith

-- a value whose type is that of a node, by the node's shape
pub by_shape : (nodes : List Node) → IsTable nodes → (i : ℕ) (node : Node) → i < length nodes →
    node ≡ get_or nodes i node → (s : Shape) → (get_or nodes i node).shape ≡ s → (value : Value) (bits : ℕ) →
    bits ≡ capped (bits_inside (open_shape (type_of nodes) s) value) →
    bits ≡ capped (bits_inside (type_of nodes i) value)
by_shape nodes table i node lt e s is value bits counts =
    counts
    ∙ ap (λ (s : Shape). capped (bits_inside (open_shape (type_of nodes) s) value))
    (sym (ap (λ (n : Node). n.shape) e ∙ is))
    ∙ ap (λ (t : PokeType). capped (bits_inside t value)) (sym (opens nodes table i node (node_at nodes i node lt e)))

module _ (types : ℕ → PokeType) (inside : Members) where
  pub fields_more : (fields : List Field) (i : ℕ) (f : Field) → i < length fields → f ≡ get_or fields i f →
      fields_bits (open_fields types (drop i fields)) inside i
      ≡ bits_of_member
      (λ value. own_bits (optional_term f.constraint) (types f.node) (bits_inside (types f.node) value))
      (member_at inside i)
      + fields_bits (open_fields types (drop (i + 1) fields)) inside (i + 1)
  unfolding fields_bits
  fields_more fields i f lt e =
      ap (λ fs. fields_bits (open_fields types fs) inside i)
      (drop_more fields i f lt ∙ ap (λ g. g ∷ drop (i + 1) fields) (sym e))

  pub fields_none : (fields : List Field) (i : ℕ) → length fields ≤ i →
      fields_bits (open_fields types (drop i fields)) inside i ≡ 0
  unfolding fields_bits
  fields_none fields i le = ap (λ fs. fields_bits (open_fields types fs) inside i) (drop_all i fields le)

  pub digits_more : (parts : List Part) (i : ℕ) (p : Part) → i < length parts → p ≡ get_or parts i p →
      digits_bits (open_parts types (drop i parts)) inside i
      ≡ bits_of_member
      (λ value. own_bits (optional_term p.constraint) (types p.node) (bits_inside (types p.node) value))
      (member_at inside i)
      + digits_bits (open_parts types (drop (i + 1) parts)) inside (i + 1)
  unfolding digits_bits
  digits_more parts i p lt e =
      ap (λ ps. digits_bits (open_parts types ps) inside i)
      (drop_more parts i p lt ∙ ap (λ q. q ∷ drop (i + 1) parts) (sym e))

  pub digits_none : (parts : List Part) (i : ℕ) → length parts ≤ i →
      digits_bits (open_parts types (drop i parts)) inside i ≡ 0
  unfolding digits_bits
  digits_none parts i le = ap (λ ps. digits_bits (open_parts types ps) inside i) (drop_all i parts le)

-- the alternative that matched, if there is one of its number
abbrev pub found_bits : (types : ℕ → PokeType) → Option Part → Option Value → ℕ
found_bits types None value = 0
found_bits types (Some p) value =
    bits_of_member (λ value. own_bits (optional_term p.constraint) (types p.node) (bits_inside (types p.node) value))
    value

pub taken_found : (types : ℕ → PokeType) (parts : List Part) (i : ℕ) (value : Option Value) →
    taken_bits (open_parts types parts) (Some i) value ≡ found_bits types (slice_get parts i) value
unfolding taken_bits
taken_found types [] i value = refl
taken_found types (p ∷ parts) zero value = refl
taken_found types (p ∷ parts) (suc i) value = taken_found types parts i value

pub taken_none : (types : ℕ → PokeType) (parts : List Part) (value : Option Value) →
    taken_bits (open_parts types parts) None value ≡ 0
unfolding taken_bits
taken_none types [] value = refl
taken_none types (p ∷ parts) value = refl

-- so many elements from a place on, of which one is next
pub elements_more : (bits : Value → ℕ) (inside : Members) (count place : ℕ) → place < count →
    elements_bits bits inside (count - place) place
    ≡ bits_of_member bits (member_at inside place) + elements_bits bits inside (count - (place + 1)) (place + 1)
elements_more bits inside count place lt =
    let next : count - place ≡ suc (count - (place + 1)) = omega arith in
    ap (λ n. elements_bits bits inside n place) next

pub elements_none : (bits : Value → ℕ) (inside : Members) (count place : ℕ) → count ≤ place →
    elements_bits bits inside (count - place) place ≡ 0
elements_none bits inside count place le =
    let none : count - place ≡ zero = omega arith in
    ap (λ n. elements_bits bits inside n place) none

-- a part with a constraint, whose type is that of a node
pub number_counts : (nodes : List Node) → IsTable nodes → (i : ℕ) (node : Node) → i < length nodes →
    node ≡ get_or nodes i node → (number : Option IntegerType) (inside bits : ℕ) →
    number ≡ number_type (open_shape (type_of nodes) (get_or nodes i node).shape) →
    bits ≡ capped (number_bits number inside) →
    bits ≡ capped (number_bits (number_type (type_of nodes i)) inside)
number_counts nodes table i node lt e number inside bits is counts =
    counts ∙ ap (λ (o : Option IntegerType). capped (number_bits o inside))
    (is ∙ ap (λ (n : Node). number_type (open_shape (type_of nodes) n.shape)) (sym e)
    ∙ ap number_type (sym (opens nodes table i node (node_at nodes i node lt e))))

-- a value that has no parts counts nothing
pub scalar_counts : (nodes : List Node) → IsTable nodes → (i : ℕ) (node : Node) → i < length nodes →
    node ≡ get_or nodes i node →
    ((type : IntegerType) × ((get_or nodes i node).shape ≡ shape.Integer type))
    ⊎ (((type : IntegerType) × (unit : ℕ) × ((get_or nodes i node).shape ≡ shape.Offset type unit))
    ⊎ ((get_or nodes i node).shape ≡ shape.String)) → (value : Value) →
    0 ≡ capped (bits_inside (type_of nodes i) value)
unfolding bits_inside
scalar_counts nodes table i node lt e (inl (type, is)) value = by_shape nodes table i node lt e _ is value 0 refl
scalar_counts nodes table i node lt e (inr (inl (type, unit, is))) value =
    by_shape nodes table i node lt e _ is value 0 refl
scalar_counts nodes table i node lt e (inr (inr is)) value = by_shape nodes table i node lt e _ is value 0 refl
