-- A table that grows leaves the meanings of its nodes.
use Rattle.std.proofs.Common.{◌≡◌, ℕ, zero, suc, ◌<◌, ◌≤◌, ◌^◌, List, [], ◌∷◌, ◌++◌, Option, Some, None, length, refl, sym, ap, ◌∙◌, arith, inl, inr}
use Rattle.std.specs.Prelude.{slice_get}
use Rattle.std.proofs.lemmas.Bool.{cases_lt}
use Rattle.std.proofs.lemmas.List.{length-append}
use Rattle.pickle_types.specs.declared.node.Node.{Node}
use Rattle.pickle_types.specs.Types.{PokeType, depth}
use Rattle.pickle_types.specs.Table.{open_shape, open_found, type_at, type_of, NamesBelow, IsSoundShape, IsTable, Grows}
use Rattle.pickle_types.proofs.Items.{get_front, get_last, is_last}
use Rattle.pickle_types.proofs.Tables.{shape_same, opens_below}

module _ (old more : List Node) (table : IsTable old) where
  found_grows : (at at' : ℕ → PokeType) (i : ℕ) → ((e : ℕ) → e < i → at e ≡ at' e) → (o : Option Node) →
      slice_get old i ≡ o → open_found at o ≡ open_found at' o
  found_grows at at' i same None e = refl
  found_grows at at' i same (Some node) e = shape_same at at' i same node.shape (table.below i node e)

  at_grows : (d i : ℕ) → i < length old → type_at (old ++ more) d i ≡ type_at old d i
  unfolding type_at
  at_grows zero i lt = refl
  at_grows (suc d) i lt =
      ap (open_found (type_at (old ++ more) d)) (get_front old more i lt)
      ∙ found_grows (type_at (old ++ more) d) (type_at old d) i (λ e below. at_grows d e (omega arith))
      (slice_get old i) refl

  pub type_grows : (i : ℕ) → i < length old → type_of (old ++ more) i ≡ type_of old i
  unfolding type_of
  type_grows i lt = at_grows (suc i) i lt

module _ (old : List Node) (table : IsTable old) (node : Node) (below : NamesBelow (length old) node.shape) where
  push_below : (i : ℕ) (n : Node) → slice_get (old ++ node ∷ []) i ≡ Some n → NamesBelow i n.shape
  push_below i n is = elim (cases_lt i (length old)) [
    | inl lt ↦ table.below i n (sym (get_front old (node ∷ []) i lt) ∙ is)
    | inr le ↦ let e = is_last old node i n is le in rw (e.place, e.item) below
  ]

  pub push_type : type_of (old ++ node ∷ []) (length old) ≡ open_shape (type_of old) node.shape
  push_type =
      opens_below (old ++ node ∷ []) push_below (length old) node (get_last old node)
      ∙ shape_same (type_of (old ++ node ∷ [])) (type_of old) (length old)
      (λ e lt. type_grows old (node ∷ []) table e lt) node.shape below

  push_deep : depth (open_shape (type_of old) node.shape) ≤ 64 → (i : ℕ) → i < length (old ++ node ∷ []) →
      depth (type_of (old ++ node ∷ []) i) ≤ 64
  push_deep low i within =
      let longer = length-append old (node ∷ []) in
      elim (cases_lt i (length old)) [
        | inl lt ↦ rw (type_grows old (node ∷ []) table i lt) (table.deep i lt)
        | inr le ↦ let last : i ≡ length old = omega arith in rw (last, push_type) low
      ]

  pub push_table : IsSoundShape node.shape → depth (open_shape (type_of old) node.shape) ≤ 64 → length old < 2 ^ 32 →
      IsTable (old ++ node ∷ [])
  push_table sound low few = record {
    below = push_below;
    sound = λ i n is. elim (cases_lt i (length old)) [
      | inl lt ↦ table.sound i n (sym (get_front old (node ∷ []) i lt) ∙ is)
      | inr le ↦ let e = is_last old node i n is le in rw e.item sound
    ];
    deep = push_deep low;
    few = let longer = length-append old (node ∷ []) in omega arith;
  }

module _ (old new : List Node) (table : IsTable old) (grows : Grows old new) where
  pub type_kept : (i : ℕ) → i < length old → type_of new i ≡ type_of old i
  type_kept i lt = rw grows.is (type_grows old grows.more table i lt)

  pub longer : length old ≤ length new
  longer = let e = length-append old grows.more in let same = ap length grows.is in omega arith
