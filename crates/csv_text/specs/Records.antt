-- Records of CSV (RFC 4180), and how they read.
use Rattle.std.specs.Prelude.{ℕ, ◌≡◌, Bool, true, false, List, [], ◌∷◌, ◌++◌, Option, Some, None, ◌==◌, if◌then◌else◌, codes}
use Rattle.csv_text.specs.Quotes.{needs_quotes, in_quotes}

-- what is between two cells, and what is before the first
abbrev pub separator : (first : Bool) → List ℕ
separator true = []
separator false = codes ","

abbrev pub record_end : List ℕ
record_end = codes "\r\n"

-- the texts of the cells with commas between them
abbrev pub joined : (first : Bool) → List (List ℕ) → List ℕ
joined first [] = []
joined first (cell ∷ cells) = (separator first ++ cell) ++ joined false cells

-- a line for texts of cells
abbrev pub record_text : List (List ℕ) → List ℕ
record_text cells = joined true cells ++ record_end

-- ---- reading

-- what a cell holds: an absent one nothing
abbrev pub Cell : Type 0
Cell = Option (List ℕ)

-- the record at the start of a text, and what follows it; None if the text doesn't begin with a record
abbrev pub Reading : Type 0
Reading = Option (List Cell × List ℕ)

-- after a carriage return that ends a record of these cells
abbrev pub read_end : List Cell → List ℕ → Reading
read_end cells [] = None
read_end cells (byte ∷ rest) = if byte == 10 then Some (cells, rest) else None

abbrev mutual
  -- at the start of a cell, after other cells
  pub read_cell : List Cell → List ℕ → Reading
  read_cell cells [] = None
  read_cell cells (byte ∷ rest) =
      if byte == 34 then read_quoted cells [] rest
      else if byte == 44 then read_cell (cells ++ None ∷ []) rest
      else if byte == 13 then read_end (cells ++ None ∷ []) rest
      else if byte == 10 then None
      else read_plain cells (byte ∷ []) rest

  -- inside a cell without quotes, after so much of its text
  pub read_plain : List Cell → (text : List ℕ) → List ℕ → Reading
  read_plain cells text [] = None
  read_plain cells text (byte ∷ rest) =
      if byte == 34 then None
      else if byte == 44 then read_cell (cells ++ Some text ∷ []) rest
      else if byte == 13 then read_end (cells ++ Some text ∷ []) rest
      else if byte == 10 then None
      else read_plain cells (text ++ byte ∷ []) rest

  -- between the quotes of a cell
  pub read_quoted : List Cell → (text : List ℕ) → List ℕ → Reading
  read_quoted cells text [] = None
  read_quoted cells text (byte ∷ rest) =
      if byte == 34 then read_closed cells text rest else read_quoted cells (text ++ byte ∷ []) rest

  -- after a quote inside quotes: another one is a byte of the text
  pub read_closed : List Cell → (text : List ℕ) → List ℕ → Reading
  read_closed cells text [] = None
  read_closed cells text (byte ∷ rest) =
      if byte == 34 then read_quoted cells (text ++ 34 ∷ []) rest
      else if byte == 44 then read_cell (cells ++ Some text ∷ []) rest
      else if byte == 13 then read_end (cells ++ Some text ∷ []) rest
      else None

-- the first record
abbrev pub read_record : List ℕ → Reading
read_record bytes = read_cell [] bytes

-- a text of a cell that reads as what the cell holds
pub data IsCell : List ℕ → Cell → Type 0 where
  absent : IsCell [] None
  plain : {text : List ℕ} → needs_quotes text ≡ false → IsCell text (Some text)
  quoted : {text : List ℕ} → IsCell (in_quotes text) (Some text)

pub data AreCells : List (List ℕ) → List Cell → Type 0 where
  no_cells : AreCells [] []
  cell_then : {text : List ℕ} {cell : Cell} {texts : List (List ℕ)} {cells : List Cell} → IsCell text cell
      → AreCells texts cells → AreCells (text ∷ texts) (cell ∷ cells)
