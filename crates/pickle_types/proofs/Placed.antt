-- The names of a type's fields, and their places.
use Rattle.std.proofs.Common.{◌≡◌, ℕ, suc, ◌+◌, List, [], ◌∷◌, ◌++◌, ◌||◌, ◌<◌, length, drop, get_or, Option, Some, None, Ok, Bool, true, false, refl, sym, ap, ◌∙◌, arith}
use Rattle.std.specs.Prelude.{if◌then◌else◌, option_map, is_some}
use Rattle.std.specs.Str.{bytes_eq}
use Rattle.std.specs.Cmp.Lexicographic.{bytes_decides}
use Rattle.std.proofs.lemmas.Bool.{or_parts}
use Rattle.std.proofs.lemmas.List.{drop_more}
use Rattle.pickle_types.specs.declared.places_by_name.PlacesByName.{PlacesByName}
use Rattle.pickle_types.specs.PlacesByName.{place_at}
use Rattle.pickle_types.specs.Scopes.{is_named}
use Rattle.pickle_types.specs.Meaning.{has_name, fresh}
use Rattle.pickle_types.specs.FieldNames.{place_named, ArePlaced}

module _ (word : List ℕ) where
  some_here : (b c : Bool) (o : Option ℕ) → is_some o ≡ c → is_some (if b then Some 0 else option_map suc o) ≡ (b || c)
  some_here true c o e = refl
  some_here false c None e = e
  some_here false c (Some i) e = e

  -- a name has a place where it is one of the names
  pub placed_is : (names : List (Option (List ℕ))) → is_some (place_named word names) ≡ has_name word names
  placed_is [] = refl
  placed_is (n ∷ names) = some_here (is_named n word) _ (place_named word names) (placed_is names)

  pub place_other : (names : List (Option (List ℕ))) (n : Option (List ℕ)) → is_named n word ≡ false →
      place_named word (names ++ n ∷ []) ≡ place_named word names
  place_other [] n e = rw e refl
  place_other (m ∷ names) n e = ap (λ o. if is_named m word then Some 0 else option_map suc o) (place_other names n e)

  pub place_new : (names : List (Option (List ℕ))) (n : Option (List ℕ)) → is_named n word ≡ true →
      has_name word names ≡ false → place_named word (names ++ n ∷ []) ≡ Some (length names)
  place_new [] n e h = rw e refl
  place_new (m ∷ names) n e h =
      let p = or_parts (is_named m word) (has_name word names) h in
      let rest = place_new names n e p.1 in
      rw (p.0, rest) refl

-- a fresh name is none of the names
fresh_apart : (name : List ℕ) (names : List (Option (List ℕ))) → fresh (Some name) names ≡ Ok tt → (word : List ℕ) →
    bytes_eq name word ≡ true → has_name word names ≡ false
unfolding fresh
fresh_apart name names e word same = rw (← (bytes_decides name word).0 same) (by (has_name name names) refl)
  where
    by : (b : Bool) → has_name name names ≡ b → has_name name names ≡ false
    by true found = cc (rw found at e)
    by false found = found

pub apart : (n : Option (List ℕ)) (names : List (Option (List ℕ))) → fresh n names ≡ Ok tt → (word : List ℕ) →
    is_named n word ≡ true → has_name word names ≡ false
apart None names e word same = cc
apart (Some name) names e word same = fresh_apart name names e word same

-- one more name, different from the others
pub placed_new : (names : List (Option (List ℕ))) (n : Option (List ℕ)) (old new : PlacesByName) → ArePlaced names old →
    ((word : List ℕ) → is_named n word ≡ true → has_name word names ≡ false) →
    ((word : List ℕ) → place_at new word ≡ (if is_named n word then Some (length names) else place_at old word)) →
    ArePlaced (names ++ n ∷ []) new
placed_new names n old new h other put = record { kept = λ word. put word ∙ by word (is_named n word) refl }
  where
    by : (word : List ℕ) (b : Bool) → is_named n word ≡ b →
        (if b then Some (length names) else place_at old word) ≡ place_named word (names ++ n ∷ [])
    by word true e = sym (place_new word names n e (other word e))
    by word false e = h.kept word ∙ sym (place_other word names n e)

-- the place of a name among names, the last of which differs from the others
pub placed_last : (names : List (Option (List ℕ))) (n : Option (List ℕ)) →
    ((word : List ℕ) → is_named n word ≡ true → has_name word names ≡ false) →
    (word : List ℕ) →
    place_named word (names ++ n ∷ []) ≡ (if is_named n word then Some (length names) else place_named word names)
placed_last names n other word = by (is_named n word) refl
  where
    by : (b : Bool) → is_named n word ≡ b →
        place_named word (names ++ n ∷ []) ≡ (if b then Some (length names) else place_named word names)
    by true e = place_new word names n e (other word e)
    by false e = place_other word names n e

-- a place among the names after the first i
abbrev pub behind : ℕ → Option ℕ → Option ℕ
behind i None = None
behind i (Some place) = Some (i + place)

pub behind_none : (o : Option ℕ) → behind 0 o ≡ o
behind_none None = refl
behind_none (Some place) = ap (λ (n : ℕ). Some n) (omega arith)

behind_suc : (i : ℕ) (o : Option ℕ) → behind i (option_map suc o) ≡ behind (i + 1) o
behind_suc i None = refl
behind_suc i (Some place) = let e : i + suc place ≡ i + 1 + place = omega arith in ap (λ (n : ℕ). Some n) e

-- a search that goes on at an item, whose name is the first of those left
module _ {A : Type 0} (name : A → Option (List ℕ)) (names : List A → List (Option (List ℕ)))
    (first : (x : A) (xs : List A) → names (x ∷ xs) ≡ name x ∷ names xs)
    (word : List ℕ) (xs : List A) (i : ℕ) (x : A) (lt : i < length xs) (is : x ≡ get_or xs i x) where
  left : names (drop i xs) ≡ name x ∷ names (drop (i + 1) xs)
  left = ap names (drop_more xs i x lt ∙ ap (λ y. y ∷ drop (i + 1) xs) (sym is)) ∙ first x (drop (i + 1) xs)

  pub found_behind : is_named (name x) word ≡ true → behind i (place_named word (names (drop i xs))) ≡ Some i
  found_behind here = let e : i + 0 ≡ i = omega arith in rw (left, here, e) refl

  pub passed_behind : is_named (name x) word ≡ false →
      behind i (place_named word (names (drop i xs))) ≡ behind (i + 1) (place_named word (names (drop (i + 1) xs)))
  passed_behind here = rw (left, here) (behind_suc i (place_named word (names (drop (i + 1) xs))))
