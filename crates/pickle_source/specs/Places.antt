-- Lines and columns of a pickle, and the text of a place in it.
use Rattle.std.specs.Prelude.{◌≡◌, ◌≤◌, ◌+◌, ◌/◌, ◌%◌, ◌==◌, ◌&&◌, nat_le, if◌then◌else◌, ℕ, List, [], ◌∷◌, ◌++◌, length, take, count_by, fold, codes, decimal, All}
use Rattle.text_output.specs.HexDigits.{hex_digit}

-- the line of the place after some bytes, counted from 1: a line feed ends a line
abbrev pub line_behind : List ℕ → ℕ
line_behind before = 1 + count_by (λ byte. byte == 10) before

-- the column after a byte
abbrev pub next_column : (column byte : ℕ) → ℕ
next_column column byte = if byte == 10 then 1 else (column + 1)

-- the column of the place after some bytes, in bytes, counted from 1
abbrev pub column_behind : List ℕ → ℕ
column_behind before = fold next_column 1 before

-- a place as it is printed: the name of the pickle, line and column
abbrev pub place_text : (called : List ℕ) (line column : ℕ) → List ℕ
place_text called line column = called ++ (58 ∷ (decimal line ++ (58 ∷ decimal column)))

-- the line of a place: two blanks, the name of the pickle, line, column and a sentence
abbrev pub place_line : (called : List ℕ) (line column : ℕ) (sentence : List ℕ) → List ℕ
place_line called line column sentence =
    codes "  " ++ (called ++ (58 ∷ (decimal line ++ (58 ∷ (decimal column ++ (codes ": " ++ (sentence ++ 10 ∷ [])))))))

-- a text begins with a place inside the pickle, by line and column, and a sentence about it
pub record TellsPlace (pickle called text : List ℕ) : Type 0 where
  pub at : ℕ
  pub inside : at ≤ length pickle
  pub sentence : List ℕ
  pub rest : List ℕ
  pub whole : text ≡ place_line called (line_behind (take at pickle)) (column_behind (take at pickle)) sentence ++ rest

-- a line and a column are those of a place inside a pickle
pub record IsPlaceIn (pickle : List ℕ) (line column : ℕ) : Type 0 where
  pub at : ℕ
  pub inside : at ≤ length pickle
  pub lines : line ≡ line_behind (take at pickle)
  pub columns : column ≡ column_behind (take at pickle)

-- a byte as it is printed: one outside 0x20 to 0x7e is escaped
abbrev pub shown_byte : ℕ → List ℕ
shown_byte byte = if nat_le 32 byte && nat_le byte 126 then (byte ∷ [])
    else (codes "\\x" ++ hex_digit (byte / 16) ∷ hex_digit (byte % 16) ∷ [])

abbrev pub shown_behind : (shown : List ℕ) (byte : ℕ) → List ℕ
shown_behind shown byte = shown ++ shown_byte byte

-- a text without bytes outside 0x20 to 0x7e
abbrev pub IsPlain : List ℕ → Type 0
IsPlain text = All (λ byte. (32 ≤ byte) × (byte ≤ 126)) text

-- the name of a pickle: its path, escaped
abbrev pub called_by : List ℕ → List ℕ
called_by path = fold shown_behind [] path

-- what is printed of a text: the whole, or of a longer one the first 100 bytes and two dots
abbrev pub shortened : List ℕ → List ℕ
shortened text = if nat_le (length text) 100 then text else (take 100 text ++ codes "..")
