-- Numbers that are the members of a frame, one after the other.
use Rattle.std.specs.Prelude.{◌≡◌, ℕ, ◌+◌, List, [], ◌∷◌, ◌++◌, Option, Some, length}
use Rattle.value_store.specs.declared.store.slots.Node.{Node}
use Rattle.value_store.specs.declared.store.slots.Shape.{Shape}
use Rattle.value_store.specs.Slots.{Slots, Held, with_leaf}

-- a number of that shape is one more member of the innermost frame
pub record AddsNumber (before after : Held) (shape : Shape) (start : ℕ) : Type 0 where
  pub content : ℕ
  pub slots : after.slots ≡ with_leaf shape start content before.slots

-- the links to so many nodes from the one at `first` on
abbrev pub links_to : (first : ℕ) → List Node → List (Option ℕ)
links_to first [] = []
links_to first (n ∷ ns) = Some first ∷ links_to (first + 1) ns

-- slots with these numbers as more members of the innermost frame
abbrev pub with_numbers : List Node → Slots → Slots
with_numbers columns s = record {
  nodes = s.nodes ++ columns;
  families = s.families;
  links = s.links;
  pending = s.pending ++ links_to (length s.nodes) columns;
  texts = s.texts;
  bytes = s.bytes;
}
