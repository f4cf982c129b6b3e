-- The names of a note, one by one and as a list.
use Rattle.std.specs.Prelude.{◌≡◌, ℕ, ℤ, pos, Bool, true, false, ◌||◌, ◌⊎◌, if◌then◌else◌, List, [], ◌∷◌, Option, Some, None, Result, Ok, Err, int_le, int_lt}
use Rattle.value_notes.specs.declared.entries.Named.{Named}
use Rattle.value_notes.specs.declared.entries.Subject.{Subject}
use Rattle.value_notes.specs.declared.entries.Subject.TheVariants.{Values, Bits}
use Rattle.value_notes.specs.Blanks.{skip, is_end}
use Rattle.value_notes.specs.Lexemes.{Piece, Number, Name, Word, Dots, Comma, lexeme_at}
use Rattle.value_notes.specs.Readings.{◌>>=◌, taken}

-- the numbers from one to another, and their name
pub record Entry : Type 0 where
  pub first : ℤ
  pub last : ℤ
  pub name : List ℕ

abbrev pub entry : Named → Entry
entry n = record { first = n.first; last = n.last; name = n.name.now }

abbrev pub number_of : Piece → Option ℤ
number_of (Number z) = Some z
number_of (Name n) = None
number_of (Word w) = None
number_of Dots = None
number_of Comma = None

abbrev pub name_of : Piece → Option (List ℕ)
name_of (Number z) = None
name_of (Name n) = Some n
name_of (Word w) = None
name_of Dots = None
name_of Comma = None

abbrev pub word_of : Piece → Option (List ℕ)
word_of (Number z) = None
word_of (Name n) = None
word_of (Word w) = Some w
word_of Dots = None
word_of Comma = None

abbrev pub is_dots : Piece → Bool
is_dots (Number z) = false
is_dots (Name n) = false
is_dots (Word w) = false
is_dots Dots = true
is_dots Comma = false

abbrev pub is_comma : Piece → Bool
is_comma (Number z) = false
is_comma (Name n) = false
is_comma (Word w) = false
is_comma Dots = false
is_comma Comma = true

abbrev pub number_at : List ℕ → Result (ℤ × List ℕ) (List ℕ)
number_at text = taken number_of text

abbrev pub name_at : List ℕ → Result (List ℕ × List ℕ) (List ℕ)
name_at text = taken name_of text

abbrev pub word_at : List ℕ → Result (List ℕ × List ℕ) (List ℕ)
word_at text = taken word_of text

-- the text after a comma
abbrev pub comma_from : List ℕ → Option (Piece × List ℕ) → Result (List ℕ) (List ℕ)
comma_from text None = Err text
comma_from text (Some found) = if is_comma found.0 then Ok found.1 else Err text

abbrev pub comma_at : List ℕ → Result (List ℕ) (List ℕ)
comma_at text = comma_from (skip text) (lexeme_at (skip text))

-- the text after two dots, if they are at the front
abbrev pub dots_from : Option (Piece × List ℕ) → Option (List ℕ)
dots_from None = None
dots_from (Some found) = if is_dots found.0 then Some found.1 else None

abbrev pub dots_at : List ℕ → Option (List ℕ)
dots_at text = dots_from (lexeme_at (skip text))

-- the last number of a range, which isn't less than the first
abbrev pub last_after : (first : ℤ) → List ℕ → Result (ℤ × List ℕ) (List ℕ)
last_after first text = number_at text >>= λ last. if int_le first last.0 then Ok last else Err (skip text)

abbrev pub last_from : (first : ℤ) → List ℕ → Option (List ℕ) → Result (ℤ × List ℕ) (List ℕ)
last_from first text None = Ok (first, text)
last_from first text (Some rest) = last_after first rest

-- a single number is the last, too
abbrev pub last_at : (first : ℤ) → List ℕ → Result (ℤ × List ℕ) (List ℕ)
last_at first text = last_from first text (dots_at text)

-- a number, or two with `..` between, and a name
abbrev pub value_at : List ℕ → Result (Entry × List ℕ) (List ℕ)
value_at text =
    number_at text >>= λ first. last_at first.0 first.1 >>= λ last. name_at last.1 >>= λ name.
    Ok (record { first = first.0; last = last.0; name = name.0 }, name.1)

-- the place of a bit, from 0 to 63, and a name
abbrev pub bit_at : List ℕ → Result (Entry × List ℕ) (List ℕ)
bit_at text =
    number_at text >>= λ place.
    if int_lt place.0 (pos 0) || int_lt (pos 63) place.0 then Err (skip text)
    else (name_at place.1 >>= λ name. Ok (record { first = place.0; last = place.0; name = name.0 }, name.1))

unfoldable pub entry_at : Subject → List ℕ → Result (Entry × List ℕ) (List ℕ)
entry_at Values text = value_at text
entry_at Bits text = bit_at text

-- a text is these names, one or more, with commas between them
abbrev pub AreEntries : Subject → List Entry → List ℕ → Type 0
AreEntries subject [] text = ⊥
AreEntries subject (e ∷ es) text =
    (rest : List ℕ) × (entry_at subject text ≡ Ok (e, rest))
    × (((es ≡ []) × (is_end rest ≡ true))
    ⊎ ((is_end rest ≡ false) × (more : List ℕ) × (comma_at rest ≡ Ok more) × AreEntries subject es more))

-- A text is these names, and then no such list goes on: `stop` is the text from the first piece on that can't be there.
abbrev pub StopsAfter : Subject → List Entry → (text stop : List ℕ) → Type 0
StopsAfter subject [] text stop = entry_at subject text ≡ Err stop
StopsAfter subject (e ∷ es) text stop =
    (rest : List ℕ) × (entry_at subject text ≡ Ok (e, rest)) × (is_end rest ≡ false)
    × (((es ≡ []) × (comma_at rest ≡ Err stop))
    ⊎ ((more : List ℕ) × (comma_at rest ≡ Ok more) × StopsAfter subject es more stop))

abbrev pub EntriesStop : Subject → (text stop : List ℕ) → Type 0
EntriesStop subject text stop = (es : List Entry) × StopsAfter subject es text stop
