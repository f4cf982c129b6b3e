-- The sizes of a table's node, by those of the nodes that it names.
use Rattle.std.proofs.Common.{◌≡◌, ℕ, ◌+◌, ◌<◌, ◌≤◌, List, [], ◌∷◌, ◌++◌, Some, length, get_or, drop, sym, ap, subst, ◌∙◌, arith, inl, inr}
use Rattle.std.specs.Prelude.{slice_get, min, IsTrue, Bool, false, Option}
use Rattle.std.proofs.lemmas.List.{drop_all, length-append, get_or_append_left}
use Rattle.std.proofs.lemmas.Bool.{cases_lt}
use Rattle.std.proofs.lemmas.Option.{slice_get-get_or, slice_get_within}
use Rattle.std.proofs.Math.Seq.{get_or-append_seam}
use Rattle.pickle_types.specs.declared.integer.IntegerType.{IntegerType}
use Rattle.pickle_types.specs.declared.node.Field.{Field}
use Rattle.pickle_types.specs.declared.node.Part.{Part}
use Rattle.pickle_types.specs.declared.node.Shape.{Shape}
use Rattle.pickle_types.specs.declared.node.Shape.TheVariants as shape
use Rattle.pickle_types.specs.declared.node.Node.{Node}
use Rattle.pickle_types.specs.Sound.{IsWidth}
use Rattle.pickle_tree.specs.declared.tree.ByteOrder.{ByteOrder}
use Rattle.pickle_types.specs.Bounds.{least_width, least_of_widths}
use Rattle.pickle_types.specs.Holds.{HoldsWidth, is_none}
use Rattle.pickle_types.specs.Types.{Term, Parts, PokeType, FieldThen, NoFields, PartThen, NoParts}
use Rattle.pickle_types.specs.Table.{type_of, open_shape, open_fields, open_parts, name_of, optional_term, IsTable, NamesBelow}
use Rattle.pickle_types.proofs.Tables.{opens, node_at}
use Rattle.poke_batch.proofs.Items.{item_left}
use Rattle.text_bounds.specs.declared.form.Form.{Form}
use Rattle.text_bounds.specs.declared.fields.NodeSize.{NodeSize}
use Rattle.text_bounds.specs.declared.fields.FieldSizes.{FieldSizes}
use Rattle.text_bounds.specs.declared.fields.PartSizes.{PartSizes}
use Rattle.text_bounds.specs.TextHeld.{AreSizes, AreFieldSizes, ArePartSizes, AreKnownSizes}

pub sized : (form : Form) (nodes : List Node) → IsTable nodes → (i : ℕ) (node : Node) → i < length nodes →
    node ≡ get_or nodes i node → (s : Shape) → (get_or nodes i node).shape ≡ s →
    (b : NodeSize) (m : ℕ) → AreSizes b form (open_shape (type_of nodes) s) m → AreSizes b form (type_of nodes i) m
sized form nodes table i node lt e s is b m h =
    let same : type_of nodes i ≡ open_shape (type_of nodes) s =
    opens nodes table i node (node_at nodes i node lt e)
    ∙ ap (open_shape (type_of nodes)) (ap (λ (n : Node). n.shape) e ∙ is) in
    subst (λ t. AreSizes b form t m) (sym same) h

-- what a node's shape says of widths
names_below : (nodes : List Node) → IsTable nodes → (i : ℕ) (node : Node) → i < length nodes →
    node ≡ get_or nodes i node → (s : Shape) → (get_or nodes i node).shape ≡ s → NamesBelow i s
names_below nodes table i node lt e s is =
    subst (NamesBelow i) (ap (λ (n : Node). n.shape) e ∙ is) (table.below i node (node_at nodes i node lt e))

pub integer_width : (nodes : List Node) → IsTable nodes → (i : ℕ) (node : Node) → i < length nodes →
    node ≡ get_or nodes i node → (type : IntegerType) → (get_or nodes i node).shape ≡ shape.Integer type → IsWidth type
integer_width nodes table i node lt e type is = names_below nodes table i node lt e (shape.Integer type) is

pub offset_width : (nodes : List Node) → IsTable nodes → (i : ℕ) (node : Node) → i < length nodes →
    node ≡ get_or nodes i node → (type : IntegerType) (unit : ℕ) →
    (get_or nodes i node).shape ≡ shape.Offset type unit → IsWidth type
offset_width nodes table i node lt e type unit is = (names_below nodes table i node lt e (shape.Offset type unit) is).0

module _ (form : Form) (at : ℕ → PokeType) (m : ℕ) where
  pub no_fields_left : (fields : List Field) (b : FieldSizes) → AreFieldSizes b form (length fields) NoFields m →
      AreFieldSizes b form (length fields) (open_fields at (drop (length fields) fields)) m
  no_fields_left fields b h = subst (λ fs. AreFieldSizes b form (length fields) (open_fields at fs) m)
      (sym (drop_all (length fields) fields (omega arith))) h

  pub one_field_more : (fields : List Field) (i : ℕ) (f : Field) → i < length fields →
      f ≡ get_or fields i f → (b : FieldSizes) →
      AreFieldSizes b form i (FieldThen (name_of f.name) f.order (at f.node) (optional_term f.constraint)
      (optional_term f.label) (optional_term f.condition) (open_fields at (drop (i + 1) fields))) m →
      AreFieldSizes b form i (open_fields at (drop i fields)) m
  one_field_more fields i f lt e b h =
      subst (λ fs. AreFieldSizes b form i (open_fields at fs) m) (sym (item_left fields i f lt e)) h

  pub no_parts_left : (parts : List Part) (b : PartSizes) → ArePartSizes b form (length parts) NoParts m →
      ArePartSizes b form (length parts) (open_parts at (drop (length parts) parts)) m
  no_parts_left parts b h = subst (λ ps. ArePartSizes b form (length parts) (open_parts at ps) m)
      (sym (drop_all (length parts) parts (omega arith))) h

  pub one_part_more : (parts : List Part) (i : ℕ) (p : Part) → i < length parts →
      p ≡ get_or parts i p → (b : PartSizes) →
      ArePartSizes b form i
      (PartThen (name_of p.name) p.order (at p.node) (optional_term p.constraint) (open_parts at (drop (i + 1) parts)))
      m →
      ArePartSizes b form i (open_parts at (drop i parts)) m
  one_part_more parts i p lt e b h =
      subst (λ ps. ArePartSizes b form i (open_parts at ps) m) (sym (item_left parts i p lt e)) h

pub known_more : (form : Form) (nodes : List Node) (roots : List ℕ) (known : List NodeSize) (m root : ℕ)
    (b : NodeSize) → AreKnownSizes nodes roots known form m → slice_get roots (length known) ≡ Some root →
    AreSizes b form (type_of nodes root) m →
    AreKnownSizes nodes roots (known ++ b ∷ []) form m
known_more form nodes roots known m root b h is bounds = record {
  each = λ k r c at_root at_known. elim (cases_lt k
      (length known)) [ inl lt ↦ before k r c at_root at_known lt | inr le ↦ last k r c at_root at_known le ];
}
  where
    longer : length (known ++ b ∷ []) ≡ length known + 1
    longer = length-append known (b ∷ [])

    before : (k r : ℕ) (c : NodeSize) → slice_get roots k ≡ Some r → slice_get (known ++ b ∷ []) k ≡ Some c →
        k < length known → AreSizes c form (type_of nodes r) m
    before k r c at_root at_known lt =
        let here = slice_get-get_or (known ++ b ∷ []) k c (let e = longer in omega arith) in
        let there = slice_get-get_or known k c lt in
        let left = get_or_append_left known (b ∷ []) c k lt in
        h.each k r c at_root (there ∙ ap Some (sym left) ∙ sym here ∙ at_known)

    last : (k r : ℕ) (c : NodeSize) → slice_get roots k ≡ Some r → slice_get (known ++ b ∷ []) k ≡ Some c →
        length known ≤ k → AreSizes c form (type_of nodes r) m
    last k r c at_root at_known le =
        let within = slice_get_within (known ++ b ∷ []) k c at_known in
        let e = longer in
        let same : k ≡ length known = omega arith in
        let here : slice_get (known ++ b ∷ []) (length known) ≡ Some b =
        slice_get-get_or (known ++ b ∷ []) (length known) b (omega arith) ∙ ap Some (get_or-append_seam known b [] b) in
        let is_b : c ≡ b = let x = rw same at at_known in cc (x, here) in
        let is_root : r ≡ root = let x = rw same at at_root in cc (x, is) in
        rw (is_b, is_root) bounds

-- the least width of a part and of those after it, if there are any
pub least_with_rest : (name : Option (List ℕ)) (order : Option ByteOrder) (c : Option Term) (m : ℕ) (type : PokeType)
    (parts : Parts) (is_empty : Bool) (own rest result : Option ℕ)
    → is_empty ≡ is_none parts → HoldsWidth own (least_width type) → HoldsWidth rest (least_of_widths parts)
    → ((w : ℕ) → HoldsWidth own w → IsTrue is_empty → HoldsWidth result w)
    → ((w v : ℕ) → HoldsWidth own w → HoldsWidth rest v → is_empty ≡ false → HoldsWidth result (min w v))
    → HoldsWidth result (least_of_widths (PartThen name order type c parts))
unfolding least_width
least_with_rest name order c m type NoParts is_empty own rest result e h g last more = last _ h e
least_with_rest name order c m type (PartThen name' order' type' c' parts) is_empty own rest result e h g last more =
    more _ _ h g e
