-- The lexemes of a note: what its text is cut into, apart from blanks.
use Rattle.std.specs.Prelude.{ℕ, ℤ, ◌+◌, Bool, true, false, not, ◌||◌, if◌then◌else◌, ◌==◌, nat_lt, List, [], ◌∷◌, take, drop, slice_index, Option, Some, None, option_map}
use Rattle.std.specs.List.{prefix_len}
use Rattle.std.specs.Option.{option_and_then}
use Rattle.std.specs.Char.{is_ascii_alphabetic}
use Rattle.value_notes.specs.declared.lexemes.Lexeme.{Lexeme}
use Rattle.value_notes.specs.declared.lexemes.Lexeme.TheVariants as code
use Rattle.value_notes.specs.declared.lexemes.Found.{Found}
use Rattle.value_notes.specs.Blanks.{digit_of, is_word, is_name_byte}
use Rattle.value_notes.specs.Numerals.{numeral_value, signed}

-- what a text is cut into: a number, the bytes of a name, a word, `..`, or a comma
pub data Piece : Type 0 where
  Number : ℤ → Piece
  Name : List ℕ → Piece
  Word : List ℕ → Piece
  Dots : Piece
  Comma : Piece

abbrev pub piece : Lexeme → Piece
piece (code.Number z) = Number z
piece (code.Name name) = Name name.now
piece (code.Word word) = Word word.now
piece code.Dots = Dots
piece code.Comma = Comma

abbrev pub found : Found → Piece × List ℕ
found f = (piece f.lexeme, f.rest.now)

-- a name after its first quote (34): one byte of a name or more, and a quote
abbrev pub name_in : List ℕ → Option (Piece × List ℕ)
name_in text =
    let size = prefix_len is_name_byte text in
    if size == 0 || not (slice_index text size == 34) then None
    else Some (Name (take size text), drop (size + 1) text)

-- the second of two dots (46)
abbrev pub dots_in : List ℕ → Option (Piece × List ℕ)
dots_in [] = None
dots_in (b ∷ rest) = if b == 46 then Some (Dots, rest) else None

-- a number: the longest run of letters, digits and `_` is its numeral
abbrev pub number_in : (negative : Bool) → List ℕ → Option (Piece × List ℕ)
number_in negative text =
    let size = prefix_len is_word text in
    option_map (λ z. (Number z, drop size text)) (option_and_then (signed negative) (numeral_value (take size text)))

-- a word: the longest run of letters, digits and `_`
abbrev pub word_in : List ℕ → Piece × List ℕ
word_in text = let size = prefix_len is_word text in (Word (take size text), drop size text)

-- a number without a sign, or a word, by the first byte
abbrev pub other_in : ℕ → List ℕ → Option (Piece × List ℕ)
other_in b text =
    if nat_lt (digit_of b) 10 then number_in false text
    else if is_ascii_alphabetic b then Some (word_in text)
    else None

-- the piece at the front of a text, and the text after it
unfoldable pub lexeme_at : List ℕ → Option (Piece × List ℕ)
lexeme_at [] = None
lexeme_at (b ∷ rest) =
    if b == 34 then name_in rest
    else if b == 44 then Some (Comma, rest)
    else if b == 46 then dots_in rest
    else if b == 45 then number_in true rest
    else other_in b (b ∷ rest)
