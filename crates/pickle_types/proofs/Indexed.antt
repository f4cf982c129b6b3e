-- The names of the fields of each node of a table.
use Rattle.std.proofs.Common.{◌≡◌, ℕ, List, [], ◌∷◌, ◌++◌, length, Some, None, cond, refl, sym, ◌∙◌, arith, inl, inr}
use Rattle.std.specs.Ordering.{nat_cmp, is_eq}
use Rattle.std.specs.Cmp.{unsigned_ties}
use Rattle.std.specs.Map.{lookup}
use Rattle.std.specs.BTreeMap.{is_at}
use Rattle.std.proofs.lemmas.Bool.{cases_lt, ne_eqb}
use Rattle.std.proofs.lemmas.List.{length-append}
use Rattle.pickle_types.specs.declared.node.Node.{Node}
use Rattle.pickle_types.specs.FieldNames.{shape_names, AreDistinct, AreIndexed}
use Rattle.pickle_types.proofs.Items.{get_front, is_last}

-- one more node
module _ {P : Type 0} (nodes : List Node) (node : Node) (old new : List (ℕ × P)) (h : AreIndexed nodes old) where
  pub indexed_plain : AreIndexed (nodes ++ node ∷ []) old
  indexed_plain = record {
    some = λ i x places at kept. elim (cases_lt i (length nodes)) [
      | inl lt ↦ h.some i x places (sym (get_front nodes (node ∷ []) i lt) ∙ at) kept
      | inr le ↦ let clash : None ≡ Some places = sym (h.past i le) ∙ kept in cc
    ];
    past = λ i le. let longer = length-append nodes (node ∷ []) in h.past i (omega arith);
  }

  pub indexed_named : (places : P) → AreDistinct (shape_names node.shape) →
      ((i : ℕ) → lookup (is_at (nat_cmp i)) new
      ≡ cond (is_eq (nat_cmp (length nodes) i)) (Some places) (lookup (is_at (nat_cmp i)) old)) →
      AreIndexed (nodes ++ node ∷ []) new
  indexed_named places distinct put = record {
    some = λ i x found at kept. elim (cases_lt i (length nodes)) [
      | inl lt ↦ h.some i x found
          (sym (get_front nodes (node ∷ []) i lt) ∙ at) (sym (other i (λ e. absurd (omega arith))) ∙ kept)
      | inr le ↦ rw (is_last nodes node i x at le).item distinct
    ];
    past = λ i le.
        let longer = length-append nodes (node ∷ []) in other i (λ e. absurd (omega arith)) ∙ h.past i (omega arith);
  }
    where
      other : (i : ℕ) → (length nodes ≡ i → ⊥) → lookup (is_at (nat_cmp i)) new ≡ lookup (is_at (nat_cmp i)) old
      other i ne = put i ∙ rw (← unsigned_ties (length nodes) i, ne_eqb _ _ ne) refl
