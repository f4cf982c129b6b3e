-- Notes: what the text of a note says.
use Rattle.std.specs.Prelude.{◌≡◌, ℕ, ◌-◌, if◌then◌else◌, List, length, map, Result, Ok, Err, codes}
use Rattle.std.specs.Str.{bytes_eq}
use Rattle.value_notes.specs.declared.entries.Subject.TheVariants as subject
use Rattle.value_notes.specs.declared.forms.Form.{Form}
use Rattle.value_notes.specs.declared.names.Names.{Names}
use Rattle.value_notes.specs.declared.note.Note.{Note}
use Rattle.value_notes.specs.declared.note.Note.TheVariants as note
use Rattle.value_notes.specs.Entries.{Entry, entry, word_at, AreEntries, EntriesStop}
use Rattle.value_notes.specs.Forms.{form_at}

-- what a note says: names of numbers, names of bits, or a form
pub data Said : Type 0 where
  Values : List Entry → Said
  Bits : List Entry → Said
  Formed : Form → Said

abbrev pub entries_of : Names → List Entry
entries_of names = map entry names.named.items

abbrev pub note_said : Note → Said
note_said (note.Values names) = Values (entries_of names)
note_said (note.Bits names) = Bits (entries_of names)
note_said (note.Form form) = Formed form

-- what a text is to be read as: names of bits after the word `bits`, a form where it begins with another word, and
-- else names of numbers
pub data Body : Type 0 where
  BitNames : List ℕ → Body
  AForm : List ℕ → Body
  ValueNames : List ℕ → Body

abbrev pub body_from : (text : List ℕ) → Result (List ℕ × List ℕ) (List ℕ) → Body
body_from text (Ok word) = if bytes_eq word.0 (codes "bits") then BitNames word.1 else AForm text
body_from text (Err rest) = ValueNames text

abbrev pub body_of : List ℕ → Body
body_of text = body_from text (word_at text)

abbrev pub IsBody : Body → Said → Type 0
IsBody (BitNames text) (Bits es) = AreEntries subject.Bits es text
IsBody (BitNames text) (Values es) = ⊥
IsBody (BitNames text) (Formed form) = ⊥
IsBody (AForm text) (Formed form) = form_at text ≡ Ok form
IsBody (AForm text) (Values es) = ⊥
IsBody (AForm text) (Bits es) = ⊥
IsBody (ValueNames text) (Values es) = AreEntries subject.Values es text
IsBody (ValueNames text) (Bits es) = ⊥
IsBody (ValueNames text) (Formed form) = ⊥

-- the text is this note
abbrev pub IsNote : List ℕ → Said → Type 0
IsNote text note = IsBody (body_of text) note

-- the end of a text from the first piece on that can't be in a note
abbrev pub BodyStops : Body → List ℕ → Type 0
BodyStops (BitNames text) stop = EntriesStop subject.Bits text stop
BodyStops (AForm text) stop = form_at text ≡ Err stop
BodyStops (ValueNames text) stop = EntriesStop subject.Values text stop

-- the text is no note, and the place of that piece
abbrev pub StopsAt : List ℕ → ℕ → Type 0
StopsAt text place = (stop : List ℕ) × BodyStops (body_of text) stop × (place ≡ length text - length stop)

-- a text is one note at most, none if it stops being one, and it stops at one place at most
pub record HasOneNote : Type 0 where
  pub one : (text : List ℕ) (a b : Said) → IsNote text a → IsNote text b → a ≡ b
  pub none : (text : List ℕ) (place : ℕ) (note : Said) → StopsAt text place → ¬ (IsNote text note)
  pub place : (text : List ℕ) (a b : ℕ) → StopsAt text a → StopsAt text b → a ≡ b
