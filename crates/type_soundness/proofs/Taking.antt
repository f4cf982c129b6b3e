-- What members and frames take of a vector in a store that packs nothing, and what a type's bound has for them.
use Rattle.std.proofs.Common.{◌≡◌, ℕ, ◌+◌, ◌/◌, ◌≤◌, length, false, List, [], ◌∷◌, ◌++◌, Option, Some, None, refl, arith}
use Rattle.pickle_types.specs.declared.integer.IntegerType.{IntegerType}
use Rattle.pickle_types.specs.Types.{PokeType}
use Rattle.pickle_meaning.specs.Values.{Naming, Label, ArrayLabel, StructLabel, UnionLabel, Value, Mapped, member_count, end_of, text_value, Levels, pushed, top_of, outer_of, gathered}
use Rattle.pickle_meaning.specs.Means.{Taken, integer_value, offset_value, union_value}
use Rattle.pickle_meaning.specs.Room.{text_length}
use Rattle.value_store.specs.Takes.{Vector, NodesOf, FamiliesOf, LinksOf, PendingOf, TextsOf, BytesOf, packed_width, families_taken, texts_taken, own_takes, members_take, place_takes, member_takes, level_takes, levels_take}
use Rattle.value_store.proofs.Taken.{levels_take-pushed, not_packed, kept-members}
use Rattle.type_soundness.specs.Capacity.{number_bound, string_bound, family_bound, link_bound, capacity_bound}
use Rattle.type_soundness.proofs.Places.{place_bound}

-- ---- frames

-- the links that a frame takes once it is closed
abbrev pub level_links : Vector → List (Option Value) → ℕ
level_links vector [] = 0
level_links vector (m ∷ rest) = link_bound vector + level_links vector rest

-- what frames take, with the links that the innermost one will take
abbrev pub laden : Vector → Levels → ℕ
laden vector r = levels_take false vector r + level_links vector (top_of r)

links_push : (vector : Vector) (level : List (Option Value)) (m : Option Value) →
    level_links vector (level ++ m ∷ []) ≡ level_links vector level + link_bound vector
links_push vector [] m = omega arith
links_push vector (n ∷ rest) m = let h = links_push vector rest m in omega arith

pub push_takes : (vector : Vector) (levels : Levels) (m : Option Value) →
    levels_take false vector (pushed levels m) ≡ levels_take false vector levels + member_takes false vector m
push_takes vector levels m = let h = levels_take-pushed false vector levels m in omega arith

top_links : (vector : Vector) (levels : Levels) (m : Option Value) →
    level_links vector (top_of (pushed levels m)) ≡ level_links vector (top_of levels) + link_bound vector
top_links vector [] m = omega arith
top_links vector (top ∷ outer) m = links_push vector top m

pub push_laden : (vector : Vector) (levels : Levels) (m : Option Value) →
    laden vector (pushed levels m) ≡ laden vector levels + (link_bound vector + member_takes false vector m)
push_laden vector levels m = let t = push_takes vector levels m in let l = top_links vector levels m in omega arith

pub outer_push : (levels : Levels) (m : Option Value) → outer_of (pushed levels m) ≡ outer_of levels
outer_push [] m = refl
outer_push (top ∷ outer) m = refl

pub top_takes : (vector : Vector) (r : Levels) →
    level_takes false vector (top_of r) + levels_take false vector (outer_of r) ≡ levels_take false vector r
top_takes vector [] = refl
top_takes vector (top ∷ outer) = refl

-- ---- members

gathered_takes : (vector : Vector) (level : List (Option Value)) →
    members_take false vector (gathered level) ≤ level_takes false vector level
gathered_takes vector [] = omega arith
gathered_takes vector (None ∷ rest) = let h = gathered_takes vector rest in omega arith
gathered_takes vector (Some v ∷ rest) = let h = gathered_takes vector rest in omega arith

gathered_count : (level : List (Option Value)) → member_count (gathered level) ≡ level_links LinksOf level
gathered_count [] = refl
gathered_count (None ∷ rest) = let h = gathered_count rest in omega arith
gathered_count (Some v ∷ rest) = let h = gathered_count rest in omega arith

-- the label of an array, a struct or a union
pub record IsFamily (label : Label) : Type 0 where
  pub families : families_taken label ≡ 1
  pub texts : texts_taken label ≡ 0
  pub bytes : text_length label ≡ 0

pub array_family : IsFamily ArrayLabel
array_family = record { families = refl; texts = refl; bytes = refl }

pub struct_family : (name : Naming) (names : List Naming) → IsFamily (StructLabel name names)
struct_family name names = record { families = refl; texts = refl; bytes = refl }

pub union_family : (name : Naming) (index : ℕ) (taken : Naming) → IsFamily (UnionLabel name index taken)
union_family name index taken = record { families = refl; texts = refl; bytes = refl }

own_family : (vector : Vector) (label : Label) (level : List (Option Value)) → IsFamily label →
    place_takes vector + (own_takes vector label (gathered level) + members_take false vector (gathered level))
    ≤ family_bound vector + (level_takes false vector level + level_links vector level)
own_family NodesOf label level f = let h = gathered_takes NodesOf level in omega arith
own_family FamiliesOf label level f = let h = gathered_takes FamiliesOf level in let e = f.families in omega arith
own_family LinksOf label level f = let h = gathered_takes LinksOf level in let e = gathered_count level in omega arith
own_family PendingOf label level f = let h = gathered_takes PendingOf level in omega arith
own_family TextsOf label level f = let h = gathered_takes TextsOf level in let e = f.texts in omega arith
own_family BytesOf label level f = let h = gathered_takes BytesOf level in let e = f.bytes in omega arith

-- a closed frame
pub closed_takes : (vector : Vector) (label : Label) (start end : ℕ) (level : List (Option Value)) → IsFamily label →
    member_takes false vector (Some (Mapped label start end (gathered level)))
    ≤ family_bound vector + (level_takes false vector level + level_links vector level)
closed_takes vector label start end level f =
    let h = own_family vector label level f in
    let k = kept-members (packed_width false label (gathered level)) vector label (gathered level)
    (members_take false vector (gathered level)) (not_packed label (gathered level)) in
    omega arith

pub integer_takes : (vector : Vector) (type : IntegerType) (n s : ℕ) →
    member_takes false vector (Some (integer_value type n s)) ≤ number_bound vector
integer_takes NodesOf type n s = omega arith
integer_takes FamiliesOf type n s = omega arith
integer_takes LinksOf type n s = omega arith
integer_takes PendingOf type n s = omega arith
integer_takes TextsOf type n s = omega arith
integer_takes BytesOf type n s = omega arith

pub offset_takes : (vector : Vector) (type : IntegerType) (unit n s : ℕ) →
    member_takes false vector (Some (offset_value type unit n s)) ≤ number_bound vector
offset_takes NodesOf type unit n s = omega arith
offset_takes FamiliesOf type unit n s = omega arith
offset_takes LinksOf type unit n s = omega arith
offset_takes PendingOf type unit n s = omega arith
offset_takes TextsOf type unit n s = omega arith
offset_takes BytesOf type unit n s = omega arith

pub text_takes : (vector : Vector) (m : ℕ) (bytes : List ℕ) (s end : ℕ) → length bytes ≤ m / 8 →
    member_takes false vector (Some (text_value bytes s end)) ≤ string_bound vector m
text_takes NodesOf m bytes s end le = omega arith
text_takes FamiliesOf m bytes s end le = omega arith
text_takes LinksOf m bytes s end le = omega arith
text_takes PendingOf m bytes s end le = omega arith
text_takes TextsOf m bytes s end le = omega arith
text_takes BytesOf m bytes s end le = omega arith

pub union_takes : (vector : Vector) (name : Naming) (s : ℕ) (t : Taken) →
    member_takes false vector (Some (union_value name s t))
    ≤ family_bound vector + (link_bound vector + member_takes false vector (Some t.value))
union_takes vector name s t =
    let h = closed_takes vector (UnionLabel name t.index t.name) s (end_of t.value) (Some t.value ∷ [])
    (union_family name t.index t.name) in
    omega arith

-- an absent member takes at most what one of the type does
pub absent_takes : (vector : Vector) (ty : PokeType) (m : ℕ) →
    member_takes false vector None ≤ capacity_bound false vector ty m
absent_takes NodesOf ty m = omega arith
absent_takes FamiliesOf ty m = omega arith
absent_takes LinksOf ty m = omega arith
absent_takes PendingOf ty m = place_bound false ty m
absent_takes TextsOf ty m = omega arith
absent_takes BytesOf ty m = omega arith
