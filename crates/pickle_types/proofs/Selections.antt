-- Fields that are selected by their names.
use Rattle.std.proofs.Common.{◌≡◌, ℕ, suc, ◌+◌, ◌<◌, ◌≤◌, List, [], ◌∷◌, map, get_or, length, Option, Some, None, Bool, true, false, refl, ap, ◌∙◌, arith}
use Rattle.std.specs.Prelude.{if◌then◌else◌, option_map, slice_get}
use Rattle.std.proofs.lemmas.Option.{slice_get_past, slice_get_read}
use Rattle.pickle_types.specs.declared.node.Field.{Field}
use Rattle.pickle_types.specs.declared.node.Part.{Part}
use Rattle.pickle_types.specs.Types.{PokeType}
use Rattle.pickle_types.specs.Table.{name_of, open_fields, open_parts}
use Rattle.pickle_types.specs.Scopes.{is_named}
use Rattle.pickle_types.specs.Expressions.{find_field, find_part}
use Rattle.pickle_types.specs.Built.{names_in, part_of}
use Rattle.pickle_types.specs.FieldNames.{place_named, part_names}

-- the field at a place, if there is one
abbrev found_at : {A : Type 0} → ℕ → (A → PokeType) → List A → Option ℕ → Option (ℕ × PokeType)
found_at k type xs None = None
found_at k type xs (Some i) = option_map (λ x. (k + i, type x)) (slice_get xs i)

found_here : {A : Type 0} (k : ℕ) (type : A → PokeType) (x : A) (xs : List A) (b : Bool) (o : Option ℕ) →
    (if b then Some (k, type x) else found_at (k + 1) type xs o)
    ≡ found_at k type (x ∷ xs) (if b then Some 0 else option_map suc o)
found_here k type x xs true o = let e : k ≡ k + 0 = omega arith in ap (λ n. Some (n, type x)) e
found_here k type x xs false None = refl
found_here k type x xs false (Some i) =
    let e : k + 1 + i ≡ k + suc i = omega arith in ap (λ n. option_map (λ y. (n, type y)) (slice_get xs i)) e

module _ (at : ℕ → PokeType) (word : List ℕ) where
  pub field_found : (k : ℕ) (fs : List Field) →
      find_field k word (open_fields at fs) ≡ found_at k (λ f. at f.node) fs (place_named word (names_in fs))
  field_found k [] = refl
  field_found k (f ∷ fs) =
      ap (λ o. if is_named (name_of f.name) word then Some (k, at f.node) else o) (field_found (k + 1) fs)
      ∙ found_here k (λ x. at x.node) f fs (is_named (name_of f.name) word) (place_named word (names_in fs))

  pub part_found : (k : ℕ) (ps : List Part) →
      find_part k word (open_parts at ps) ≡ found_at k (λ p. at p.node) ps (place_named word (part_names ps))
  part_found k [] = refl
  part_found k (p ∷ ps) =
      ap (λ o. if is_named (name_of p.name) word then Some (k, at p.node) else o) (part_found (k + 1) ps)
      ∙ found_here k (λ x. at x.node) p ps (is_named (name_of p.name) word) (place_named word (part_names ps))

-- fields without their labels and conditions have the same names
pub names_of_parts : (fs : List Field) → part_names (map part_of fs) ≡ names_in fs
names_of_parts [] = refl
names_of_parts (f ∷ fs) = ap (λ ns. name_of f.name ∷ ns) (names_of_parts fs)

pub found_past : {A : Type 0} (type : A → PokeType) (xs : List A) (i : ℕ) → length xs ≤ i →
    found_at 0 type xs (Some i) ≡ None
found_past type xs i le = rw (slice_get_past xs i le) refl

pub found_item : {A : Type 0} (type : A → PokeType) (xs : List A) (i : ℕ) (x : A) → i < length xs → x ≡ get_or xs i x →
    found_at 0 type xs (Some i) ≡ Some (i, type x)
found_item type xs i x lt is =
    let item = slice_get_read xs (length xs) i x refl lt is in
    let place : 0 + i ≡ i = omega arith in
    rw (item, place) refl
