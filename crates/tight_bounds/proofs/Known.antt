-- The numbers of a table's nodes, by those of the nodes before them.
use Rattle.std.proofs.Common.{◌≡◌, ℕ, ◌+◌, ◌<◌, ◌≤◌, List, [], ◌∷◌, ◌++◌, Bool, Some, length, get_or, drop, sym, ap, subst, ◌∙◌, arith, inl, inr}
use Rattle.std.specs.Prelude.{slice_get, min, IsTrue, false, Option}
use Rattle.std.proofs.lemmas.List.{drop_more, drop_all, length-append, get_or_append_left}
use Rattle.std.proofs.lemmas.Bool.{cases_lt}
use Rattle.std.proofs.lemmas.Option.{slice_get-get_or, slice_get_within}
use Rattle.std.proofs.Math.Seq.{get_or-append_seam}
use Rattle.pickle_tree.specs.declared.tree.ByteOrder.{ByteOrder}
use Rattle.pickle_types.specs.declared.node.Field.{Field}
use Rattle.pickle_types.specs.declared.node.Part.{Part}
use Rattle.pickle_types.specs.declared.node.Node.{Node}
use Rattle.pickle_types.specs.Bounds.{IsBound}
use Rattle.pickle_types.specs.Holds.{is_none}
use Rattle.pickle_types.specs.Types.{Term, Fields, Parts, PokeType, FieldThen, NoFields, PartThen, NoParts}
use Rattle.pickle_types.specs.Table.{type_of, open_shape, open_fields, open_parts, name_of, optional_term, IsTable, FieldsBelow, PartsBelow, NamesBelow}
use Rattle.pickle_types.proofs.Tables.{opens}
use Rattle.tight_bounds.specs.declared.type_grains.TypeGrains.{TypeGrains}
use Rattle.tight_bounds.specs.Tight.{width, own, least_part, parts_own}
use Rattle.tight_bounds.specs.Held.{AreGrains, AreKnown}

module _ (at : ℕ → PokeType) (P : Fields → Type 0) where
  pub no_fields_left : (fields : List Field) → P NoFields → P (open_fields at (drop (length fields) fields))
  no_fields_left fields h =
      subst (λ fs. P (open_fields at fs)) (sym (drop_all (length fields) fields (omega arith))) h

  pub one_field_more : (fields : List Field) (i : ℕ) (f : Field) → i < length fields → f ≡ get_or fields i f →
      P (FieldThen (name_of f.name) f.order (at f.node) (optional_term f.constraint) (optional_term f.label)
      (optional_term f.condition) (open_fields at (drop (i + 1) fields))) → P (open_fields at (drop i fields))
  one_field_more fields i f lt e h =
      let split : drop i fields ≡ f ∷ drop (i + 1) fields = drop_more fields i f lt
      ∙ ap (λ x. x ∷ drop (i + 1) fields) (sym e) in
      subst (λ fs. P (open_fields at fs)) (sym split) h

module _ (at : ℕ → PokeType) (P : Parts → Type 0) where
  pub no_parts_left : (parts : List Part) → P NoParts → P (open_parts at (drop (length parts) parts))
  no_parts_left parts h =
      subst (λ ps. P (open_parts at ps)) (sym (drop_all (length parts) parts (omega arith))) h

  pub one_part_more : (parts : List Part) (i : ℕ) (p : Part) → i < length parts → p ≡ get_or parts i p →
      P (PartThen (name_of p.name) p.order (at p.node) (optional_term p.constraint)
      (open_parts at (drop (i + 1) parts))) → P (open_parts at (drop i parts))
  one_part_more parts i p lt e h =
      let split : drop i parts ≡ p ∷ drop (i + 1) parts = drop_more parts i p lt
      ∙ ap (λ x. x ∷ drop (i + 1) parts) (sym e) in
      subst (λ ps. P (open_parts at ps)) (sym split) h

-- the node of a field or a part is one of those that are known
pub field_known : (count : ℕ) (fields : List Field) (i : ℕ) (f : Field) → FieldsBelow count fields → i < length fields →
    f ≡ get_or fields i f → f.node < count
field_known count fields i f below lt is = subst (λ (g : Field). g.node < count) (sym is) (below i f lt)

pub part_known : (count : ℕ) (parts : List Part) (i : ℕ) (p : Part) → PartsBelow count parts → i < length parts →
    p ≡ get_or parts i p → p.node < count
part_known count parts i p below lt is = subst (λ (q : Part). q.node < count) (sym is) (below i p lt)

-- what holds of each item at its place
module _ {A : Type 0} (Holds : A → (place : ℕ) → Type 0) where
  abbrev pub AllHold : List A → Type 0
  AllHold items = (i : ℕ) (a : A) → slice_get items i ≡ Some a → Holds a i

  pub holds_at : (items : List A) (i : ℕ) (d : A) → AllHold items → i < length items → Holds (get_or items i d) i
  holds_at items i d all lt = all i (get_or items i d) (slice_get-get_or items i d lt)

  pub none_hold : AllHold []
  none_hold i a is = absurd (let within = slice_get_within [] i a is in omega arith)

  module _ (items : List A) (a : A) (all : AllHold items) (more : Holds a (length items)) where
    longer : length (items ++ a ∷ []) ≡ length items + 1
    longer = length-append items (a ∷ [])

    before : (k : ℕ) (x : A) → slice_get (items ++ a ∷ []) k ≡ Some x → k < length items → Holds x k
    before k x at_known lt =
        let here = slice_get-get_or (items ++ a ∷ []) k x (let e = longer in omega arith) in
        let there = slice_get-get_or items k x lt in
        let left = get_or_append_left items (a ∷ []) x k lt in
        all k x (there ∙ ap Some (sym left) ∙ sym here ∙ at_known)

    last : (k : ℕ) (x : A) → slice_get (items ++ a ∷ []) k ≡ Some x → length items ≤ k → Holds x k
    last k x at_known le =
        let within = slice_get_within (items ++ a ∷ []) k x at_known in
        let e = longer in
        let same : k ≡ length items = omega arith in
        let here : slice_get (items ++ a ∷ []) (length items) ≡ Some a =
        slice_get-get_or (items ++ a ∷ []) (length items) a (omega arith)
        ∙ ap Some (get_or-append_seam items a [] a) in
        let is_a : x ≡ a = let y = rw same at at_known in cc (y, here) in
        rw (same, is_a) more

    pub one_more_holds : AllHold (items ++ a ∷ [])
    one_more_holds k x at_known = elim (cases_lt k
        (length items)) [ inl lt ↦ before k x at_known lt | inr le ↦ last k x at_known le ]

-- what is known of a node
pub known_at : (nodes : List Node) (known : List TypeGrains) (m i : ℕ) (d : TypeGrains) → AreKnown nodes known m →
    i < length known → AreGrains (get_or known i d) (type_of nodes i) m
known_at nodes known m i d are = holds_at (λ g i. AreGrains g (type_of nodes i) m) known i d are.each

-- the type of a node, from its shape
pub opened_type : (P : PokeType → Type 0) (nodes : List Node) → IsTable nodes → (count : ℕ) (node : Node) →
    slice_get nodes count ≡ Some node → P (open_shape (type_of nodes) node.shape) → P (type_of nodes count)
opened_type P nodes table count node is = subst P (sym (opens nodes table count node is))

-- the next node of a table
pub next_known : (nodes : List Node) → IsTable nodes → (known : List TypeGrains) (m : ℕ) (node : Node)
    (g : TypeGrains) → slice_get nodes (length known) ≡ Some node → AreKnown nodes known m →
    ((ns : List Node) → AreKnown ns known m → AreGrains g (open_shape (type_of ns) node.shape) m) →
    AreKnown nodes (known ++ g ∷ []) m
next_known nodes table known m node g is are h = record {
  each = one_more_holds (λ a i. AreGrains a (type_of nodes i) m) known g are.each
      (opened_type (λ t. AreGrains g t m) nodes table (length known) node is (h nodes are));
}

-- an item of the nodes of a table
pub item_of : (nodes items : List Node) (count i : ℕ) (n : Node) → items ≡ nodes → count ≡ i → i < length items →
    n ≡ get_or items i n → slice_get nodes count ≡ Some n
item_of nodes items count i n same is lt e = subst (λ xs. slice_get xs count ≡ Some n) same
    (subst (λ k. slice_get items k ≡ Some n) (sym is) (slice_get-get_or items i n lt ∙ ap Some (sym e)))

-- nothing is known yet
pub none_known : (nodes : List Node) (m : ℕ) → AreKnown nodes [] m
none_known nodes m = record { each = none_hold (λ g i. AreGrains g (type_of nodes i) m) }

-- the next node names only nodes that are known
pub next_below : (nodes : List Node) → IsTable nodes → (count i : ℕ) (d : Node) → count ≡ i → i < length nodes →
    NamesBelow count (get_or nodes i d).shape
next_below nodes table count i d is lt = subst (λ n. NamesBelow n (get_or nodes i d).shape) (sym is)
    (table.below i (get_or nodes i d) (slice_get-get_or nodes i d lt))

-- the lesser number of a part and of those after it, if there are any
pub least_with_rest : (name : Option (List ℕ)) (order : Option ByteOrder) (c : Option Term) (type : PokeType)
    (parts : Parts) (is_empty : Bool) (mine rest result : Option ℕ)
    → is_empty ≡ is_none parts → IsBound mine (width type) → IsBound rest (least_part parts)
    → ((w : ℕ) → IsBound mine w → IsTrue is_empty → IsBound result w)
    → ((w v : ℕ) → IsBound mine w → IsBound rest v → is_empty ≡ false → IsBound result (min w v))
    → IsBound result (least_part (PartThen name order type c parts))
unfolding width
least_with_rest name order c type NoParts is_empty mine rest result e h g last more = last _ h e
least_with_rest name order c type (PartThen name' order' type' c' parts) is_empty mine rest result e h g last more =
    more _ _ h g e

pub own_with_rest : (name : Option (List ℕ)) (order : Option ByteOrder) (c : Option Term) (type : PokeType)
    (parts : Parts) (is_empty : Bool) (mine rest result : Option ℕ)
    → is_empty ≡ is_none parts → IsBound mine (own type) → IsBound rest (parts_own parts)
    → ((w : ℕ) → IsBound mine w → IsTrue is_empty → IsBound result w)
    → ((w v : ℕ) → IsBound mine w → IsBound rest v → is_empty ≡ false → IsBound result (min w v))
    → IsBound result (parts_own (PartThen name order type c parts))
unfolding own
own_with_rest name order c type NoParts is_empty mine rest result e h g last more = last _ h e
own_with_rest name order c type (PartThen name' order' type' c' parts) is_empty mine rest result e h g last more =
    more _ _ h g e
