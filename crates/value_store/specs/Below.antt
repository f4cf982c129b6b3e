-- What calls leave of the slots that a store had.
use Rattle.std.specs.Prelude.{◌≡◌}
use Rattle.value_store.specs.Slots.{Held, cut_to, marks_of, innermost}

-- all of them: what a call added is after them
abbrev pub Extends : (before after : Held) → Type 0
Extends before after = cut_to (marks_of before.slots) after.slots ≡ before.slots

-- those that were there when the innermost open value was opened
abbrev pub KeepsBelow : (before after : Held) → Type 0
KeepsBelow before after = cut_to (innermost before.frames) after.slots ≡ cut_to (innermost before.frames) before.slots
