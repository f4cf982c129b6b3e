-- Places that are found by names, in the trees that the names are scattered over.
use Rattle.std.proofs.Common.{◌≡◌, ℕ, ◌<◌, List, [], length, Option, Some, None, Bool, true, false, All, cond, refl, sym, ap, ◌∙◌, arith, inl, inr}
use Rattle.std.specs.Prelude.{if◌then◌else◌, slice_get, slice_set, slice_index_or}
use Rattle.std.specs.Ordering.{nat_cmp, is_eq}
use Rattle.std.specs.Str.{bytes_eq}
use Rattle.std.specs.Cmp.Lexicographic.{slice_cmp, bytes_decides, texts_ties}
use Rattle.std.specs.BTreeMap.{get_by}
use Rattle.std.proofs.lemmas.Bool.{cases_eq, cases_lt}
use Rattle.std.proofs.lemmas.Option.{slice_get-get_or, slice_get_past, slice_get_within, get_or_from_slice_get}
use Rattle.std.proofs.lemmas.List.{get_or-set_same, get_or-set_other, length-set}
use denote.Bor.{Bor}
use Rattle.pickle_types.specs.PlacesByName.{Tree, IsBare, bucket_of, place_in, place_among}

-- what a tree has at a name, after another name got a place or lost it
pub place_updated : (old new : Tree) (name : List ℕ) (w : Option ℕ) →
    ((q : Bor (List ℕ)) →
    get_by (λ (k : Bor (List ℕ)). slice_cmp nat_cmp q.now k.now) new ≡ cond (is_eq (slice_cmp nat_cmp name q.now)) w
    (get_by (λ (k : Bor (List ℕ)). slice_cmp nat_cmp q.now k.now) old)) →
    (word : List ℕ) → place_in word (Some new) ≡ (if bytes_eq name word then w else place_in word (Some old))
place_updated old new name w h word = h (record { ref_ptr = (0, 0); now = word }) ∙ rw (texts_ties name word) refl

module _ (trees : List Tree) (name : List ℕ) (i : ℕ) (is : i ≡ bucket_of (length trees) name)
    (lt : i < length trees) where
  module _ (tree new : Tree) (there : tree ≡ slice_index_or trees i tree) where
    tree_there : slice_get trees i ≡ Some tree
    tree_there = slice_get-get_or trees i tree lt ∙ ap Some (sym there)

    tree_put : slice_get (slice_set trees i new) i ≡ Some new
    tree_put =
        let long = length-set trees i new in
        slice_get-get_or (slice_set trees i new) i new (omega arith) ∙ ap Some (get_or-set_same trees i new new lt)

    tree_apart : (j : ℕ) → (j ≡ i → ⊥) → slice_get (slice_set trees i new) j ≡ slice_get trees j
    tree_apart j ne =
        let long = length-set trees i new in
        elim (cases_lt j (length trees)) [
          | inl within ↦ slice_get-get_or (slice_set trees i new) j new (omega arith)
              ∙ ap Some (get_or-set_other trees i j new new ne) ∙ sym (slice_get-get_or trees j new within)
          | inr past ↦ slice_get_past (slice_set trees i new) j (omega arith) ∙ sym (slice_get_past trees j past)
        ]

    -- the place of the name itself
    pub place_there : place_among trees name ≡ place_in name (Some tree)
    place_there = ap (place_in name) (ap (slice_get trees) (sym is) ∙ tree_there)

    -- the places of all names, where the tree of one changes
    pub place_changed : (w : Option ℕ) →
        ((word : List ℕ) → place_in word (Some new) ≡ (if bytes_eq name word then w else place_in word (Some tree))) →
        (word : List ℕ) →
        place_among (slice_set trees i new) word ≡ (if bytes_eq name word then w else place_among trees word)
    place_changed w h word = rw (length-set trees i new) (elim (cases_eq (bucket_of (length trees) word) i) [
      | inl same ↦ rw (same, tree_put, tree_there) (h word)
      | inr apart ↦ rw (tree_apart (bucket_of (length trees) word) apart) (other apart (bytes_eq name word) refl)
    ])
      where
        other : (bucket_of (length trees) word ≡ i → ⊥) → (b : Bool) → bytes_eq name word ≡ b →
            place_among trees word ≡ (if b then w else place_among trees word)
        other apart true equal =
            absurd (apart (ap (bucket_of (length trees)) (sym ((bytes_decides name word).0 equal)) ∙ sym is))
        other apart false unequal = refl

    -- where the trees agree, so do all places
    pub place_same : new.entries ≡ tree.entries → (word : List ℕ) →
        place_among (slice_set trees i new) word ≡ place_among trees word
    place_same e word = rw (length-set trees i new) (elim (cases_eq (bucket_of (length trees) word) i) [
      | inl same ↦ rw (same, tree_put, tree_there, e) refl
      | inr apart ↦ rw (tree_apart (bucket_of (length trees) word) apart) refl
    ])

-- among trees without names no name has a place
pub place_bare : (trees : List Tree) → All IsBare trees → (word : List ℕ) → place_among trees word ≡ None
place_bare trees bare word = by (slice_get trees (bucket_of (length trees) word)) refl
  where
    by : (o : Option Tree) → slice_get trees (bucket_of (length trees) word) ≡ o → place_in word o ≡ None
    by None is = refl
    by (Some tree) is =
        let lt = slice_get_within trees _ tree is in
        let item = get_or_from_slice_get trees _ tree tree is in
        let none : tree.entries ≡ [] = rw item at (bare (bucket_of (length trees) word) tree lt) in
        rw none refl
