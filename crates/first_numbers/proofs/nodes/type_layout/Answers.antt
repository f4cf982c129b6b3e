use Rattle.std.proofs.Common.{arith, ap, get_or, length, subst, sym, zero, suc, ◌∙◌, ◌∷◌, [], ◌<◌, ◌≡◌, Some, IfOk, ℕ}
use Rattle.std.proofs.lemmas.List.{length-append}
use Rattle.std.proofs.lemmas.List.Elements.{All-append}
use Rattle.std.proofs.lemmas.Option.{slice_get-get_or}
use Rattle.std.specs.Prelude.{slice_get}
use Rattle.pickle_types.specs.Table.{open_shape, type_of}
use Rattle.pickle_types.specs.TypeTable.{nodes_of}
use Rattle.first_numbers.specs.declared.layouts.Layout.{Layout as HeldLayout}
use Rattle.first_numbers.specs.Held.{AreKnown, HoldsLayout, IsSoundLayout}
use Rattle.first_numbers.specs.Layouts.{layout}
use Rattle.first_numbers.proofs.Known.{last_known, next_below, next_known, next_sound}
use Rattle.first_numbers.proofs.nodes.type_layout.Goals as goal

only : (l : HeldLayout) → IsSoundLayout l → (k : ℕ) (d : HeldLayout) → k < 1 → IsSoundLayout (get_or (l ∷ []) k d)
only l h zero d lt = h
only l h (suc k) d lt = absurd (omega (arith, lt))

pub loop-at-preserved : goal.loop-at-preserved
loop-at-preserved c =
    let nodes = nodes_of c.args.table.now in
    let known = c.loop-at.known.items in
    let l = c.in_ok-layout.layout in
    let items = c.in_ok-push.ensures.items in
    let all = c.args.table.now.sound in
    let inside : c.loop-at.at < length nodes = omega (arith, c.loop-at-test.true, c.node.ensures, c.requires) in
    let node = get_or nodes c.loop-at.at c.index-nodes-at.result in
    let here : slice_get nodes (length known) ≡ Some node =
    subst (λ i. slice_get nodes i ≡ Some node) (sym c.loop-at.invariant.counted)
    (slice_get-get_or nodes c.loop-at.at c.index-nodes-at.result inside) in
    let are = subst (λ ks. AreKnown nodes ks) (sym c.as_slice.ensures.value) c.loop-at.invariant.known in
    let mine = c.in_ok-layout.ensures.is nodes are in
    record {
      within = omega (arith, c.loop-at-test.true, c.node.ensures);
      counted = ap length items ∙ length-append known (l ∷ []) ∙ omega (arith, c.loop-at.invariant.counted);
      known = subst (AreKnown nodes) (sym items)
          (next_known nodes all known node l here c.loop-at.invariant.known
          (subst (λ ns. HoldsLayout l (layout (open_shape (type_of nodes)
          (get_or ns c.loop-at.at c.index-nodes-at.result).shape))) c.nodes-nodes.ensures mine));
      sound = rw items
          (All-append IsSoundLayout known (l ∷ []) c.loop-at.invariant.sound (only l c.in_ok-layout.ensures.sound));
    }

pub shape_layout-requires-2-clause-below : goal.shape_layout-requires-2-clause-below
shape_layout-requires-2-clause-below c =
    let nodes = nodes_of c.args.table.now in
    let inside : c.loop-at.at < length nodes = omega (arith, c.loop-at.invariant.within, c.requires) in
    rw (c.as_slice-2.ensures.value, c.nodes-nodes.ensures)
    (next_below nodes c.args.table.now.sound (length c.loop-at.known.items) c.loop-at.at c.index-nodes-at-2.result
    c.loop-at.invariant.counted inside)

pub shape_layout-requires-2-clause-shape : goal.shape_layout-requires-2-clause-shape
shape_layout-requires-2-clause-shape c =
    let nodes = nodes_of c.args.table.now in
    let inside : c.loop-at.at < length nodes = omega (arith, c.loop-at.invariant.within, c.requires) in
    rw c.nodes-nodes.ensures (next_sound nodes c.args.table.now.sound c.loop-at.at c.index-nodes-at-2.result inside)

pub returns-clause-is : goal.returns-clause-is
returns-clause-is c =
    let nodes = nodes_of c.args.table.now in
    let inside : c.loop-at.at < length nodes = omega (arith, c.loop-at.invariant.within, c.requires) in
    let are = subst (λ ks. AreKnown nodes ks) (sym c.as_slice-2.ensures.value) c.loop-at.invariant.known in
    let last : c.loop-at.at ≡ c.args.id.node =
    omega (arith, c.loop-at-test.false, c.node.ensures, c.loop-at.invariant.within) in
    let here : slice_get c.nodes-nodes.result.now c.loop-at.at
    ≡ Some (get_or c.nodes-nodes.result.now c.loop-at.at c.index-nodes-at-2.result) =
    rw c.nodes-nodes.ensures (slice_get-get_or nodes c.loop-at.at c.index-nodes-at-2.result inside) in
    subst (λ i. IfOk c.shape_layout-2.result (λ l. HoldsLayout l (layout (type_of nodes i)))) last
    (last_known nodes c.args.table.now.sound c.as_slice-2.result.now c.loop-at.at
    (get_or c.nodes-nodes.result.now c.loop-at.at c.index-nodes-at-2.result) c.shape_layout-2.result
    (subst (λ ns. slice_get ns c.loop-at.at
    ≡ Some (get_or c.nodes-nodes.result.now c.loop-at.at c.index-nodes-at-2.result)) c.nodes-nodes.ensures here) are
    c.shape_layout-2.ensures.is)
