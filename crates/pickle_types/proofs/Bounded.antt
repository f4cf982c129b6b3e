-- The bounds of a table's node, by those of the nodes that it names.
use Rattle.std.proofs.Common.{◌≡◌, ℕ, ◌+◌, ◌<◌, ◌≤◌, List, [], ◌∷◌, ◌++◌, Some, length, get_or, drop, sym, ap, subst, ◌∙◌, arith, inl, inr}
use Rattle.std.specs.Prelude.{slice_get}
use Rattle.std.proofs.lemmas.List.{drop_more, drop_all, length-append, get_or_append_left}
use Rattle.std.proofs.lemmas.Bool.{cases_lt}
use Rattle.std.proofs.lemmas.Option.{slice_get-get_or, slice_get_within}
use Rattle.std.proofs.Math.Seq.{get_or-append_seam}
use Rattle.pickle_types.specs.declared.bounds.Bounds.{Bounds}
use Rattle.pickle_types.specs.declared.bounds.FieldBounds.{FieldBounds}
use Rattle.pickle_types.specs.declared.bounds.PartBounds.{PartBounds}
use Rattle.pickle_types.specs.declared.node.Field.{Field}
use Rattle.pickle_types.specs.declared.node.Part.{Part}
use Rattle.pickle_types.specs.declared.node.Shape.{Shape}
use Rattle.pickle_types.specs.declared.node.Node.{Node}
use Rattle.pickle_types.specs.Types.{PokeType, FieldThen, NoFields, PartThen, NoParts}
use Rattle.pickle_types.specs.Table.{type_of, open_shape, open_fields, open_parts, name_of, optional_term, IsTable}
use Rattle.pickle_types.specs.Holds.{AreBounds, AreFieldBounds, ArePartBounds, AreKnown}
use Rattle.pickle_types.proofs.Tables.{opens, node_at}

pub bounded : (nodes : List Node) → IsTable nodes → (i : ℕ) (node : Node) → i < length nodes →
    node ≡ get_or nodes i node → (s : Shape) → (get_or nodes i node).shape ≡ s →
    (b : Bounds) (m : ℕ) → AreBounds b (open_shape (type_of nodes) s) m → AreBounds b (type_of nodes i) m
bounded nodes table i node lt e s is b m h =
    let same : type_of nodes i ≡ open_shape (type_of nodes) s =
    opens nodes table i node (node_at nodes i node lt e)
    ∙ ap (open_shape (type_of nodes)) (ap (λ (n : Node). n.shape) e ∙ is) in
    subst (λ t. AreBounds b t m) (sym same) h

module _ (at : ℕ → PokeType) (m : ℕ) where
  pub no_fields_left : (fields : List Field) (b : FieldBounds) → AreFieldBounds b NoFields m →
      AreFieldBounds b (open_fields at (drop (length fields) fields)) m
  no_fields_left fields b h =
      subst (λ fs. AreFieldBounds b (open_fields at fs) m) (sym (drop_all (length fields) fields (omega arith))) h

  pub one_field_more : (fields : List Field) (i : ℕ) (f : Field) → i < length fields →
      f ≡ get_or fields i f → (b : FieldBounds) →
      AreFieldBounds b (FieldThen (name_of f.name) f.order (at f.node) (optional_term f.constraint)
      (optional_term f.label) (optional_term f.condition) (open_fields at (drop (i + 1) fields))) m →
      AreFieldBounds b (open_fields at (drop i fields)) m
  one_field_more fields i f lt e b h =
      let split : drop i fields ≡ f ∷ drop (i + 1) fields = drop_more fields i f lt
      ∙ ap (λ x. x ∷ drop (i + 1) fields) (sym e) in
      subst (λ fs. AreFieldBounds b (open_fields at fs) m) (sym split) h

  pub no_parts_left : (parts : List Part) (b : PartBounds) → ArePartBounds b NoParts m →
      ArePartBounds b (open_parts at (drop (length parts) parts)) m
  no_parts_left parts b h =
      subst (λ ps. ArePartBounds b (open_parts at ps) m) (sym (drop_all (length parts) parts (omega arith))) h

  pub one_part_more : (parts : List Part) (i : ℕ) (p : Part) → i < length parts →
      p ≡ get_or parts i p → (b : PartBounds) →
      ArePartBounds b
      (PartThen (name_of p.name) p.order (at p.node) (optional_term p.constraint) (open_parts at (drop (i + 1) parts)))
      m →
      ArePartBounds b (open_parts at (drop i parts)) m
  one_part_more parts i p lt e b h =
      let split : drop i parts ≡ p ∷ drop (i + 1) parts = drop_more parts i p lt
      ∙ ap (λ x. x ∷ drop (i + 1) parts) (sym e) in
      subst (λ ps. ArePartBounds b (open_parts at ps) m) (sym split) h

pub known_more : (nodes : List Node) (roots : List ℕ) (known : List Bounds) (m root : ℕ) (b : Bounds) →
    AreKnown nodes roots known m → slice_get roots (length known) ≡ Some root → AreBounds b (type_of nodes root) m →
    AreKnown nodes roots (known ++ b ∷ []) m
known_more nodes roots known m root b h is bounds = record {
  each = λ k r c at_root at_known. elim (cases_lt k
      (length known)) [ inl lt ↦ before k r c at_root at_known lt | inr le ↦ last k r c at_root at_known le ];
}
  where
    longer : length (known ++ b ∷ []) ≡ length known + 1
    longer = length-append known (b ∷ [])

    before : (k r : ℕ) (c : Bounds) → slice_get roots k ≡ Some r → slice_get (known ++ b ∷ []) k ≡ Some c →
        k < length known → AreBounds c (type_of nodes r) m
    before k r c at_root at_known lt =
        let here = slice_get-get_or (known ++ b ∷ []) k c (let e = longer in omega arith) in
        let there = slice_get-get_or known k c lt in
        let left = get_or_append_left known (b ∷ []) c k lt in
        h.each k r c at_root (there ∙ ap Some (sym left) ∙ sym here ∙ at_known)

    last : (k r : ℕ) (c : Bounds) → slice_get roots k ≡ Some r → slice_get (known ++ b ∷ []) k ≡ Some c →
        length known ≤ k → AreBounds c (type_of nodes r) m
    last k r c at_root at_known le =
        let within = slice_get_within (known ++ b ∷ []) k c at_known in
        let e = longer in
        let same : k ≡ length known = omega arith in
        let here : slice_get (known ++ b ∷ []) (length known) ≡ Some b =
        slice_get-get_or (known ++ b ∷ []) (length known) b (omega arith) ∙ ap Some (get_or-append_seam known b [] b) in
        let is_b : c ≡ b = let x = rw same at at_known in cc (x, here) in
        let is_root : r ≡ root = let x = rw same at at_root in cc (x, is) in
        rw (is_b, is_root) bounds
