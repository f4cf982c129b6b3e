-- Numbers that are the members of a frame.
use Rattle.std.proofs.Common.{◌≡◌, ℕ, [], ◌++◌, Result, Ok, Err, OnOk, refl}
use Rattle.std.proofs.lemmas.List.{append-nil}
use Rattle.value_store.specs.declared.store.slots.Shape.{Shape}
use Rattle.value_store.specs.Columns.{AddsNumber, with_numbers}
use Rattle.value_store.specs.Slots.{Slots, Held, with_leaf}

-- a placed number is one more node
pub adds-number : {A E : Type 0} (r : Result A E) (before after : Held) (shape : Shape) (start c : ℕ) →
    OnOk r (after.slots ≡ with_leaf shape start c before.slots) → OnOk r (AddsNumber before after shape start)
adds-number (Ok a) before after shape start c h = record { content = c; slots = h }
adds-number (Err f) before after shape start c h = h

-- none
pub numbers-none : (s : Slots) → s ≡ with_numbers [] s
numbers-none s =
    let nodes : s.nodes ++ [] ≡ s.nodes = append-nil s.nodes in
    let pending : s.pending ++ [] ≡ s.pending = append-nil s.pending in
    rw (nodes, pending) refl
