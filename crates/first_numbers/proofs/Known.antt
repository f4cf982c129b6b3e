-- The layouts of a table's nodes, by those of the nodes before them.
use Rattle.std.proofs.Common.{◌≡◌, ℕ, ◌+◌, ◌<◌, ◌≤◌, List, [], ◌∷◌, ◌++◌, Some, Result, Ok, Err, IfOk, length, get_or, sym, ap, subst, ◌∙◌, arith, inl, inr}
use Rattle.std.specs.Prelude.{slice_get}
use Rattle.std.proofs.lemmas.List.{length-append, get_or_append_left}
use Rattle.std.proofs.lemmas.Bool.{cases_lt}
use Rattle.std.proofs.lemmas.Option.{slice_get-get_or, slice_get_within}
use Rattle.std.proofs.Math.Seq.{get_or-append_seam}
use Rattle.pickle_types.specs.declared.node.Node.{Node}
use Rattle.pickle_types.specs.Table.{IsSoundShape, IsTable, NamesBelow, type_of, open_shape}
use Rattle.pickle_types.proofs.Tables.{opens}
use Rattle.first_numbers.specs.declared.layouts.Layout.{Layout as HeldLayout}
use Rattle.first_numbers.specs.Held.{AreKnown, HoldsLayout}
use Rattle.first_numbers.specs.Layouts.{layout}

-- one node more
known_more : (nodes : List Node) (known : List HeldLayout) (l : HeldLayout) → AreKnown nodes known →
    HoldsLayout l (layout (type_of nodes (length known))) → AreKnown nodes (known ++ l ∷ [])
known_more nodes known l are more = record {
  each = λ k x at_known. elim (cases_lt k
      (length known)) [ inl lt ↦ before k x at_known lt | inr le ↦ last k x at_known le ];
}
  where
    longer : length (known ++ l ∷ []) ≡ length known + 1
    longer = length-append known (l ∷ [])

    before : (k : ℕ) (x : HeldLayout) → slice_get (known ++ l ∷ []) k ≡ Some x → k < length known →
        HoldsLayout x (layout (type_of nodes k))
    before k x at_known lt =
        let here = slice_get-get_or (known ++ l ∷ []) k x (let e = longer in omega arith) in
        let there = slice_get-get_or known k x lt in
        let left = get_or_append_left known (l ∷ []) x k lt in
        are.each k x (there ∙ ap Some (sym left) ∙ sym here ∙ at_known)

    last : (k : ℕ) (x : HeldLayout) → slice_get (known ++ l ∷ []) k ≡ Some x → length known ≤ k →
        HoldsLayout x (layout (type_of nodes k))
    last k x at_known le =
        let within = slice_get_within (known ++ l ∷ []) k x at_known in
        let e = longer in
        let same : k ≡ length known = omega arith in
        let here : slice_get (known ++ l ∷ []) (length known) ≡ Some l =
        slice_get-get_or (known ++ l ∷ []) (length known) l (omega arith) ∙ ap Some (get_or-append_seam known l [] l) in
        let is_l : x ≡ l = let y = rw same at at_known in cc (y, here) in
        rw (same, is_l) more

-- the next node of a table
pub next_known : (nodes : List Node) → IsTable nodes → (known : List HeldLayout) (node : Node) (l : HeldLayout) →
    slice_get nodes (length known) ≡ Some node → AreKnown nodes known →
    HoldsLayout l (layout (open_shape (type_of nodes) node.shape)) → AreKnown nodes (known ++ l ∷ [])
next_known nodes table known node l is are h =
    known_more nodes known l are
    (subst (λ t. HoldsLayout l (layout t)) (sym (opens nodes table (length known) node is)) h)

-- what a node is, by those before it
pub last_known : {E : Type 0} (nodes : List Node) → IsTable nodes → (known : List HeldLayout) (i : ℕ) (node : Node)
    (result : Result HeldLayout E) → slice_get nodes i ≡ Some node → AreKnown nodes known →
    IfOk result
    (λ l. (ns : List Node) → AreKnown ns known → HoldsLayout l (layout (open_shape (type_of ns) node.shape)))
    → IfOk result (λ l. HoldsLayout l (layout (type_of nodes i)))
last_known nodes table known i node (Ok l) is are h =
    subst (λ t. HoldsLayout l (layout t)) (sym (opens nodes table i node is)) (h nodes are)
last_known nodes table known i node (Err e) is are h = tt

-- the next node names only nodes that are known
pub next_below : (nodes : List Node) → IsTable nodes → (count i : ℕ) (d : Node) → count ≡ i → i < length nodes →
    NamesBelow count (get_or nodes i d).shape
next_below nodes table count i d is lt = subst (λ n. NamesBelow n (get_or nodes i d).shape) (sym is)
    (table.below i (get_or nodes i d) (slice_get-get_or nodes i d lt))

pub next_sound : (nodes : List Node) → IsTable nodes → (i : ℕ) (d : Node) → i < length nodes →
    IsSoundShape (get_or nodes i d).shape
next_sound nodes table i d lt = table.sound i (get_or nodes i d) (slice_get-get_or nodes i d lt)
