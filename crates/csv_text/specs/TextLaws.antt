-- The laws of escapes and of records.
use Rattle.std.specs.Prelude.{ℕ, ◌≡◌, ◌<◌, Bool, true, not, ◌&&◌, ◌||◌, List, ◌∷◌, ◌++◌, Some, ◌==◌, length}
use Rattle.std.specs.Char.{IsScalar, is_control, encode_utf8}
use Rattle.value_text.specs.SmallParts.{AreBytes}
use Rattle.csv_text.specs.Characters.{character_size}
use Rattle.csv_text.specs.Escapes.{escaped, unescaped}
use Rattle.csv_text.specs.Records.{Cell, AreCells, record_text, read_record}

-- a character that is printed as it is: no backslash, and no control character but a tab, line feed or carriage return
abbrev pub is_printed : ℕ → Bool
is_printed c = not (c == 92) && (not (is_control c) || ((c == 9) || ((c == 10) || (c == 13))))

-- the size of the character at the start of a text is that of its bytes in UTF-8
abbrev pub HasSize : Type 0
HasSize = (c : ℕ) (rest : List ℕ) → IsScalar c → is_printed c ≡ true →
    character_size (encode_utf8 c ++ rest) ≡ length (encode_utf8 c)

-- where there is a size, there is such a character
abbrev pub HasCharacter : Type 0
HasCharacter = (bytes : List ℕ) → AreBytes bytes → 0 < character_size bytes →
    (c : ℕ) × (rest : List ℕ) × IsScalar c × (is_printed c ≡ true) × (bytes ≡ encode_utf8 c ++ rest)

-- an escaped text reads as the bytes that it is of
abbrev pub EscapesReadBack : Type 0
EscapesReadBack = (bytes : List ℕ) → AreBytes bytes → unescaped (escaped bytes) ≡ bytes

-- it is of no other bytes
abbrev pub EscapesDiffer : Type 0
EscapesDiffer = (a b : List ℕ) → AreBytes a → AreBytes b → escaped a ≡ escaped b → a ≡ b

-- A record reads as its cells, whatever follows it. It has at least one cell.
abbrev pub RecordsReadBack : Type 0
RecordsReadBack = (text : List ℕ) (texts : List (List ℕ)) (cell : Cell) (cells : List Cell) (rest : List ℕ)
    → AreCells (text ∷ texts) (cell ∷ cells)
    → read_record (record_text (text ∷ texts) ++ rest) ≡ Some (cell ∷ cells, rest)
