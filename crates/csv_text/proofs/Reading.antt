-- Records read as their cells.
use Rattle.std.proofs.Common.{◌≡◌, ℕ, Bool, true, false, List, [], ◌∷◌, ◌++◌, Some, inl, inr, refl, sym, ◌∙◌, ap, arith}
use Rattle.std.specs.Prelude.{◌||◌, ◌==◌}
use Rattle.std.proofs.lemmas.Bool.{cases_Bool, false≢true}
use Rattle.std.proofs.lemmas.List.{append_assoc, append-nil}
use Rattle.csv_text.specs.Quotes.{is_special, has_special, doubled, in_quotes}
use Rattle.csv_text.specs.Records.{Cell, read_end, read_cell, read_plain, read_quoted, read_closed, read_record, record_end, joined, record_text, IsCell, absent, plain, quoted, AreCells, no_cells, cell_then}

pub is_that : (byte n : ℕ) → (byte == n) ≡ true → byte ≡ n
is_that byte n h = grind (arith, h)

pub neither : (x y : Bool) → (x || y) ≡ false → (x ≡ false) × (y ≡ false)
neither true y e = absurd (false≢true (sym e))
neither false y e = (refl, e)

-- a text without special bytes inside a cell without quotes
plain_text : (cells : List Cell) (done text rest : List ℕ) → has_special text ≡ false →
    read_plain cells done (text ++ rest) ≡ read_plain cells (done ++ text) rest
plain_text cells done [] rest e = ap (λ s. read_plain cells s rest) (sym (append-nil done))
plain_text cells done (byte ∷ text) rest e =
    let all = neither (is_special byte) (has_special text) e in
    let comma = neither (byte == 44) ((byte == 34) || ((byte == 13) || (byte == 10))) all.0 in
    let quote = neither (byte == 34) ((byte == 13) || (byte == 10)) comma.1 in
    let ends = neither (byte == 13) (byte == 10) quote.1 in
    rw (quote.0, comma.0, ends.0, ends.1) (plain_text cells (done ++ byte ∷ []) text rest all.1
    ∙ ap (λ s. read_plain cells s rest) (append_assoc done (byte ∷ []) text))

-- a text between quotes
quoted_text : (cells : List Cell) (done text rest : List ℕ) →
    read_quoted cells done (doubled text ++ 34 ∷ rest) ≡ read_closed cells (done ++ text) rest
quoted_text cells done [] rest = ap (λ s. read_closed cells s rest) (sym (append-nil done))
quoted_text cells done (byte ∷ text) rest = elim (cases_Bool (byte == 34)) [
  | inl hit ↦ rw hit (quoted_text cells (done ++ 34 ∷ []) text rest
      ∙ ap (λ s. read_closed cells s rest) (append_assoc done (34 ∷ []) text
      ∙ ap (λ b. done ++ b ∷ text) (sym (is_that byte 34 hit))))
  | inr miss ↦ rw (miss, miss) (quoted_text cells (done ++ byte ∷ []) text rest
      ∙ ap (λ s. read_closed cells s rest) (append_assoc done (byte ∷ []) text))
]

-- the quotes of a cell before what follows it
closing : (text rest : List ℕ) → in_quotes text ++ rest ≡ 34 ∷ (doubled text ++ 34 ∷ rest)
closing text rest = ap (λ s. 34 ∷ s) (append_assoc (doubled text) (34 ∷ []) rest)

-- a cell before a comma
cell_comma : (cells : List Cell) (text rest : List ℕ) (cell : Cell) → IsCell text cell →
    read_cell cells (text ++ 44 ∷ rest) ≡ read_cell (cells ++ cell ∷ []) rest
cell_comma cells text rest cell absent = refl
cell_comma cells [] rest cell (plain e) = absurd (false≢true (sym e))
cell_comma cells (byte ∷ text) rest cell (plain e) =
    let all = neither (is_special byte) (has_special text) e in
    let comma = neither (byte == 44) ((byte == 34) || ((byte == 13) || (byte == 10))) all.0 in
    let quote = neither (byte == 34) ((byte == 13) || (byte == 10)) comma.1 in
    let ends = neither (byte == 13) (byte == 10) quote.1 in
    rw (quote.0, comma.0, ends.0, ends.1) (plain_text cells (byte ∷ []) text (44 ∷ rest) all.1)
cell_comma cells text rest cell (quoted {text = inner}) =
    ap (read_cell cells) (closing inner (44 ∷ rest)) ∙ quoted_text cells [] inner (44 ∷ rest)

-- a cell before the end of the record
cell_end : (cells : List Cell) (text rest : List ℕ) (cell : Cell) → IsCell text cell →
    read_cell cells (text ++ 13 ∷ rest) ≡ read_end (cells ++ cell ∷ []) rest
cell_end cells text rest cell absent = refl
cell_end cells [] rest cell (plain e) = absurd (false≢true (sym e))
cell_end cells (byte ∷ text) rest cell (plain e) =
    let all = neither (is_special byte) (has_special text) e in
    let comma = neither (byte == 44) ((byte == 34) || ((byte == 13) || (byte == 10))) all.0 in
    let quote = neither (byte == 34) ((byte == 13) || (byte == 10)) comma.1 in
    let ends = neither (byte == 13) (byte == 10) quote.1 in
    rw (quote.0, comma.0, ends.0, ends.1) (plain_text cells (byte ∷ []) text (13 ∷ rest) all.1)
cell_end cells text rest cell (quoted {text = inner}) =
    ap (read_cell cells) (closing inner (13 ∷ rest)) ∙ quoted_text cells [] inner (13 ∷ rest)

-- a cell and those after it
cells_read : (done : List Cell) (text : List ℕ) (cell : Cell) (texts : List (List ℕ)) (cells : List Cell)
    (rest : List ℕ) → IsCell text cell → AreCells texts cells
    → read_cell done (text ++ (joined false texts ++ (record_end ++ rest))) ≡ Some (done ++ cell ∷ cells, rest)
cells_read done text cell texts cells rest is no_cells = cell_end done text (10 ∷ rest) cell is
cells_read done text cell texts cells rest is
    (cell_then {text = next} {cell = other} {texts = more} {cells = others} one all) =
    ap (λ s. read_cell done (text ++ s)) (append_assoc (44 ∷ next) (joined false more) (record_end ++ rest))
    ∙ cell_comma done text (next ++ (joined false more ++ (record_end ++ rest))) cell is
    ∙ cells_read (done ++ cell ∷ []) next other more others rest one all
    ∙ ap (λ s. Some (s, rest)) (append_assoc done (cell ∷ []) (other ∷ others))

pub record_read : (text : List ℕ) (texts : List (List ℕ)) (cell : Cell) (cells : List Cell) (rest : List ℕ)
    → AreCells (text ∷ texts) (cell ∷ cells)
    → read_record (record_text (text ∷ texts) ++ rest) ≡ Some (cell ∷ cells, rest)
record_read text texts cell cells rest (cell_then one all) =
    ap read_record (append_assoc (text ++ joined false texts) record_end rest
    ∙ append_assoc text (joined false texts) (record_end ++ rest))
    ∙ cells_read [] text cell texts cells rest one all
