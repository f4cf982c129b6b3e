-- What calls do to an open text or an open array of packed numbers.
use Rattle.std.specs.Prelude.{◌≡◌, ℕ, ◌+◌, ◌*◌, ◌<◌, ◌^◌, List, [], ◌∷◌, ◌++◌, Some, length}
use Rattle.value_store.specs.declared.store.slots.Shape.{Shape}
use Rattle.pickle_meaning.specs.Values.{Levels, pushed, text_value, text_level}
use Rattle.value_store.specs.Names.{Names}
use Rattle.value_store.specs.Exceeding.{Exceeds}
use Rattle.value_store.specs.Slots.{Held, levels, IsShort, elements, row_value, element_width, IsWriting, IsPacking}

-- the frames around a text that is closed
abbrev pub closed_text : List ℕ → (start : ℕ) → Levels → Levels
closed_text bytes start outer = pushed outer (Some (text_value bytes start (start + 8 * (length bytes + 1))))

-- the text has one more byte
abbrev pub Writes : (before after : Held) → (byte start : ℕ) → Type 0
Writes before after byte start = (names : Names) (bytes : List ℕ) (outer : Levels) →
    IsWriting names before bytes start outer → IsShort (length bytes + 1) →
    IsWriting names after (bytes ++ byte ∷ []) start outer

-- the frame of the text has that byte
abbrev pub ShowsByte : (before after : Held) → (byte start : ℕ) → Type 0
ShowsByte before after byte start = (names : Names) (bytes : List ℕ) (outer : Levels) →
    IsWriting names before bytes start outer → IsShort (length bytes + 1) →
    levels names after ≡ text_level (bytes ++ byte ∷ []) start outer

-- the byte doesn't fit in the slots that the store was made with
abbrev pub CannotWrite : Held → (byte start : ℕ) → Type 0
CannotWrite before byte start = (names : Names) (bytes : List ℕ) (outer : Levels) →
    IsWriting names before bytes start outer → Exceeds before.room (text_level (bytes ++ byte ∷ []) start outer)

-- the text is alone in its frame
abbrev pub Settles : (before after : Held) → (start : ℕ) → Type 0
Settles before after start = (names : Names) (bytes : List ℕ) (outer : Levels) →
    IsWriting names before bytes start outer → levels names after ≡ text_level bytes start outer

-- the text is one more member of the value around it
abbrev pub ClosesText : (before after : Held) → (start : ℕ) → Type 0
ClosesText before after start = (names : Names) (bytes : List ℕ) (outer : Levels) →
    IsWriting names before bytes start outer → levels names after ≡ closed_text bytes start outer

-- nor does the closed text
abbrev pub CannotCloseText : Held → (start : ℕ) → Type 0
CannotCloseText before start = (names : Names) (bytes : List ℕ) (outer : Levels) →
    IsWriting names before bytes start outer → Exceeds before.room (closed_text bytes start outer)

-- the array has one more number
abbrev pub Packs : (before after : Held) → Shape → (digits start : ℕ) → Type 0
Packs before after shape digits start =
    (names : Names) (numbers : List ℕ) (outer : Levels) → IsPacking names before shape numbers start outer →
    start + element_width shape * (length numbers + 1) < 2 ^ 64 →
    IsPacking names after shape (numbers ++ digits ∷ []) start outer

-- the number doesn't fit in the slots that the store was made with
abbrev pub CannotPack : Held → Shape → (digits start : ℕ) → Type 0
CannotPack before shape digits start = (names : Names) (numbers : List ℕ) (outer : Levels) →
    IsPacking names before shape numbers start outer →
    Exceeds before.room (elements shape start (numbers ++ digits ∷ []) ∷ outer)

-- the array is alone in its frame
abbrev pub SettlesRow : (before after : Held) → Shape → (start : ℕ) → Type 0
SettlesRow before after shape start = (names : Names) (numbers : List ℕ) (outer : Levels) →
    IsPacking names before shape numbers start outer →
    levels names after ≡ (Some (row_value shape numbers start) ∷ []) ∷ outer

-- the array is one more member of the value around it
abbrev pub ClosesRow : (before after : Held) → Shape → (start : ℕ) → Type 0
ClosesRow before after shape start = (names : Names) (numbers : List ℕ) (outer : Levels) →
    IsPacking names before shape numbers start outer →
    levels names after ≡ pushed outer (Some (row_value shape numbers start))

-- nor does the closed array
abbrev pub CannotCloseRow : Held → Shape → (start : ℕ) → Type 0
CannotCloseRow before shape start = (names : Names) (numbers : List ℕ) (outer : Levels) →
    IsPacking names before shape numbers start outer →
    Exceeds before.room (pushed outer (Some (row_value shape numbers start)))
