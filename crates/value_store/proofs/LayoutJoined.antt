-- The pending children above a mark become one value.
use Rattle.std.proofs.Common.{◌≡◌, ℕ, false, ◌+◌, List, [], ◌∷◌, ◌++◌, Option, Some, length, sym, ◌∙◌, ap, subst, arith}
use Rattle.value_store.specs.declared.store.room.Room.{Room}
use Rattle.value_store.specs.declared.store.slots.Shape.{Shape}
use Rattle.pickle_meaning.specs.Values.{Value, Mapped, gathered}
use Rattle.value_store.specs.LayoutArrays.{IsAbove}
use Rattle.value_store.specs.Names.{Names}
use Rattle.value_store.specs.Slots.{Slots, Held, composite_label, level_of, levels_at, cut_to, marks_of, IsComposite, IsSound, IsLevel, AreLevels, Adds, with_family}
use Rattle.value_store.specs.Takes.{of_vector, level_takes}
use Rattle.value_store.proofs.Counted.{Adds-within, level-above, levels-more, levels-sound}
use Rattle.value_store.proofs.Placed.{family-adds}

-- what was added is an open value
added-level : (room : Room) (below s : Slots) (vs : Names → List (Option Value)) → Adds room below s vs →
    IsLevel room (marks_of below) s
added-level room below s vs g = record {
  within = Adds-within room below s vs g;
  takes = λ none names vector.
      omega (arith, g.takes none names vector, ap (level_takes false vector) (level-above names room below s vs g));
  bare = g.bare;
}

module _ (room : Room) (below s : Slots) (vs : Names → List (Option Value)) (own : IsSound below)
    (adds : Adds room below s vs) (shape : Shape) (start size : ℕ)
    (composite : IsComposite shape) where
  pub joined-adds : Adds room below (with_family shape start size (length below.pending) s)
      (λ names. Some (Mapped (composite_label names shape) start (start + size) (gathered (vs names))) ∷ [])
  joined-adds =
      let k = marks_of below in
      let is : IsLevel room k s = added-level room below s vs adds in
      let under : IsSound (cut_to k s) = subst IsSound (sym adds.rest) own in
      let all = family-adds room shape start size k s composite adds.sound is under in
      let values : (names : Names) → level_of names k s ≡ vs names =
      λ names. level-above names room below s vs adds in
      let moved = subst (λ x. Adds room x (with_family shape start size (length below.pending) s) (λ names.
      Some (Mapped (composite_label names shape) start (start + size) (gathered (level_of names k s))) ∷ [])) adds.rest
      all in
      record {
        sound = moved.sound;
        rest = moved.rest;
        stack = λ names. moved.stack names ∙ ap (λ os. Rattle.value_store.specs.Slots.stack names below
            ++ Some (Mapped (composite_label names shape) start (start + size) (gathered os)) ∷ []) (values names);
        takes = λ none names vector. moved.takes none names vector
            ∙ ap (λ os. of_vector vector (marks_of below)
            + level_takes false vector
            (Some (Mapped (composite_label names shape) start (start + size) (gathered os)) ∷ [])) (values names);
        bare = moved.bare;
      }

pub joined-frames : (h : Held) (mark : ℕ) (shape : Shape) (start size : ℕ) → IsAbove h mark → IsComposite shape →
    AreLevels h.room h.frames (with_family shape start size mark h.slots)
joined-frames h mark shape start size above composite =
    subst (λ m. AreLevels h.room h.frames (with_family shape start size m h.slots)) (sym above.is)
    (levels-more h.room h.frames above.below (with_family shape start size (length above.below.pending) h.slots) _
    above.own
    (joined-adds h.room above.below h.slots above.values (levels-sound h.room h.frames above.below above.own) above.adds
    shape start size composite))
