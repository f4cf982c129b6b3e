-- Places that are found by names, and the trees that names are scattered over.
use Rattle.std.specs.Prelude.{◌≡◌, ℕ, ◌+◌, ◌*◌, ◌%◌, length, List, [], ◌∷◌, Option, Some, None, slice_get, if◌then◌else◌}
use Rattle.std.specs.Ordering.{nat_cmp}
use Rattle.std.specs.Cmp.Lexicographic.{slice_cmp}
use Rattle.std.specs.BTreeMap.{BTreeMap, get_by, IsEmpty}
use denote.Bor.{Bor}
use Rattle.pickle_types.specs.declared.places_by_name.PlacesByName.{PlacesByName}
use Rattle.pickle_types.specs.Scopes.{is_named}

-- the number that a name is scattered by, from its bytes and n
abbrev pub scattered : ℕ → List ℕ → ℕ
scattered n [] = n
scattered n (byte ∷ bytes) = scattered ((n * 31 + byte) % 65536) bytes

-- the number of the tree that a name belongs to, of `count` trees
abbrev pub bucket_of : ℕ → List ℕ → ℕ
bucket_of count word = scattered 0 word % count

-- a tree of names
abbrev pub Tree : Type 0
Tree = BTreeMap (Bor (List ℕ)) ℕ

abbrev pub IsBare : Tree → Type 0
IsBare tree = IsEmpty tree

abbrev pub place_in : List ℕ → Option Tree → Option ℕ
place_in word None = None
place_in word (Some tree) = get_by (λ k. slice_cmp nat_cmp word k.now) tree

-- the place of a name, among trees
abbrev pub place_among : List Tree → List ℕ → Option ℕ
place_among trees word = place_in word (slice_get trees (bucket_of (length trees) word))

-- the place of a name
abbrev pub place_at : PlacesByName → List ℕ → Option ℕ
place_at names word = place_among names.trees.items word

-- the name, if there is one, has this place, or none; each other name has the place that it had
abbrev pub Replaces : (old new : PlacesByName) → (name : Option (List ℕ)) → (place : Option ℕ) → Type 0
Replaces old new name place = (word : List ℕ) →
    place_at new word ≡ (if is_named name word then place else place_at old word)
