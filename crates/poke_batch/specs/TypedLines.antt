-- The lines of parts beside their types.
use Rattle.std.specs.Prelude.{ℕ, ◌-◌, ◌++◌, Bool, true, false, if◌then◌else◌, List, [], Option, Some, None, option_map}
use Rattle.text_output.specs.declared.mode.Mode.{Mode}
use Rattle.text_output.specs.declared.style.Style.{Style}
use Rattle.value_text.specs.declared.typed.Typed.{Typed}
use Rattle.value_text.specs.TypedValue.{nodes_in, char_node_in, types_in}
use Rattle.value_text.specs.declared.print.show.Sight.{Sight}
use Rattle.value_text.specs.Cells.{typed_cell}
use Rattle.value_text.specs.ShowParts.{SightOf, sight_of}
use Rattle.command_line.specs.declared.path.Path.{Path}
use Rattle.command_line.specs.declared.pattern.Pattern.{Pattern}
use Rattle.command_line.specs.declared.pattern.PatternStep.{PatternStep}
use Rattle.command_line.specs.declared.selection.Column.{Column}
use Rattle.command_line.specs.declared.selection.Rows.{Rows}
use Rattle.command_line.specs.declared.selection.Absent.{Absent}
use Rattle.command_line.specs.declared.selection.Selection.{Selection}
use Rattle.poke_batch.specs.declared.line.Format.{Format}
use Rattle.poke_batch.specs.declared.places.Places.{Places}
use Rattle.poke_batch.specs.Selected.{LineOf, OfPart, OfPartIfThere, has_columns, row_line, line_of, part_in, path_part, no_cell, cell_of, absent_lines, there_lines, lines_of, pattern_lines, each_text, at_places, parts_through, shape_text, column_text, cells_text, row_text, header_text, all_of, is_there, has_pattern}

-- the cell of a part, if it is there
abbrev pub typed_cell_of : Style → Mode → Option Typed → List ℕ
typed_cell_of style mode None = no_cell mode
typed_cell_of style mode (Some part) = typed_cell style mode part

-- the cell at a path of a row, if both are there
abbrev pub typed_path_cell : Style → Mode → Option Typed → Path → List ℕ
typed_path_cell style mode None path = no_cell mode
typed_path_cell style mode (Some row) path =
    cell_of (nodes_in (types_in row)) (char_node_in (types_in row)) style mode
    (path_part (nodes_in (types_in row)) path (part_in row))

abbrev pub typed_row_cell : Style → Mode → Option Typed → Column → List ℕ
typed_row_cell style mode row column = typed_path_cell style mode row column.path

-- whether a row is there, and has the parts of all its columns
abbrev pub is_whole_row : Option Typed → List Column → Bool
is_whole_row None columns = false
is_whole_row (Some row) columns = has_columns (nodes_in (types_in row)) columns (part_in row)

-- the lines of a part, if it is there
abbrev pub typed_lines : Option SightOf → Style → Mode → LineOf → Option Typed → List ℕ
typed_lines sight style mode line None = absent_lines mode line
typed_lines sight style mode line (Some part) =
    there_lines (nodes_in (types_in part)) (char_node_in (types_in part)) sight style mode line (part_in part)

-- the lines of the parts to which a pattern leads, of those to which it leads from so many members on, and of those to
-- which many patterns lead
module _ (sight : Option SightOf) (style : Style) (mode : Mode) where
  abbrev pub typed_pattern : LineOf → Typed → List PatternStep → List ℕ
  typed_pattern line part steps =
      pattern_lines (nodes_in (types_in part)) (char_node_in (types_in part)) sight style mode line (part_in part) steps

  abbrev pub typed_members : LineOf → Typed → List PatternStep → (count place : ℕ) → List ℕ
  typed_members line part steps count place =
      each_text (lines_of (nodes_in (types_in part)) (char_node_in (types_in part)) sight style mode line)
      (at_places (nodes_in (types_in part)) (parts_through (nodes_in (types_in part)) steps) (part_in part) count place)

  -- the same where the part, or the places, may be absent
  abbrev pub typed_next : LineOf → Option Typed → List PatternStep → List ℕ
  typed_next line None steps = absent_lines mode line
  typed_next line (Some part) steps = typed_pattern line part steps

  abbrev pub typed_places : LineOf → Typed → List PatternStep → Option Places → List ℕ
  typed_places line part steps None = absent_lines mode line
  typed_places line part steps (Some places) = typed_members line part steps (places.end - places.from) places.from

  abbrev pub typed_patterns : LineOf → Typed → List Pattern → List ℕ
  typed_patterns line part patterns = each_text (λ pattern. typed_pattern line part pattern.steps.items) patterns

  -- what is printed of the parts of a part
  abbrev pub typed_selection : Selection → Typed → List ℕ
  typed_selection selection part =
      shape_text (nodes_in (types_in part)) (char_node_in (types_in part)) sight style mode selection.absent
      selection.shape (part_in part)

-- whether a part has all parts to which a pattern leads, from members on, and where the part, or the places, may be
-- absent
abbrev pub has_typed : LineOf → Typed → List PatternStep → Bool
has_typed line part steps = has_pattern (nodes_in (types_in part)) line (part_in part) steps

abbrev pub has_typed_patterns : Typed → List Pattern → Bool
has_typed_patterns part patterns = all_of (λ pattern. has_typed OfPart part pattern.steps.items) patterns

abbrev pub has_typed_next : LineOf → Option Typed → List PatternStep → Bool
has_typed_next line None steps = false
has_typed_next line (Some part) steps = has_typed line part steps

abbrev pub has_typed_members : LineOf → Typed → List PatternStep → (count place : ℕ) → Bool
has_typed_members line part steps count place = all_of (is_there (nodes_in (types_in part)) line)
    (at_places (nodes_in (types_in part)) (parts_through (nodes_in (types_in part)) steps) (part_in part) count place)

-- the members at these places
abbrev pub has_typed_between : LineOf → Typed → List PatternStep → Places → Bool
has_typed_between line part steps places = has_typed_members line part steps (places.end - places.from) places.from

abbrev pub has_typed_places : LineOf → Typed → List PatternStep → Option Places → Bool
has_typed_places line part steps None = false
has_typed_places line part steps (Some places) =
    has_typed_members line part steps (places.end - places.from) places.from

abbrev pub lent_sight : Option Sight → Option SightOf
lent_sight sight = option_map sight_of sight

-- ---- the same in a format

module _ (format : Format) where
  abbrev pub lines_in : Option Typed → List ℕ
  lines_in part = typed_lines (lent_sight format.sight) format.style format.mode (line_of format.line) part

  abbrev pub pattern_in : Typed → List PatternStep → List ℕ
  pattern_in part steps =
      typed_pattern (lent_sight format.sight) format.style format.mode (line_of format.line) part steps

  abbrev pub next_in : Option Typed → List PatternStep → List ℕ
  next_in part steps = typed_next (lent_sight format.sight) format.style format.mode (line_of format.line) part steps

  abbrev pub places_in : Typed → List PatternStep → Option Places → List ℕ
  places_in part steps places =
      typed_places (lent_sight format.sight) format.style format.mode (line_of format.line) part steps places

  abbrev pub members_in : Typed → List PatternStep → Places → List ℕ
  members_in part steps places =
      typed_members (lent_sight format.sight) format.style format.mode (line_of format.line) part steps
      (places.end - places.from) places.from

  abbrev pub patterns_in : Typed → List Pattern → List ℕ
  patterns_in part patterns =
      typed_patterns (lent_sight format.sight) format.style format.mode (line_of format.line) part patterns

  abbrev pub selection_in : Selection → Typed → List ℕ
  selection_in selection part = typed_selection (lent_sight format.sight) format.style format.mode selection part

  abbrev pub rows_in : Absent → Rows → Typed → List ℕ
  rows_in absent rows part = header_text rows.header rows.columns.items
      ++ typed_pattern (lent_sight format.sight) format.style format.mode (row_line absent rows.columns.items) part
      rows.pattern.steps.items

  -- the cells of a row, and its parts
  abbrev pub row_cell_in : Option Typed → Column → List ℕ
  row_cell_in row column = typed_row_cell format.style format.mode row column

  abbrev pub row_in : Option Typed → List Column → List ℕ
  row_in row columns = row_text format.mode (row_cell_in row) columns

  -- the same of a row that has all its columns, and nothing of any other
  abbrev pub whole_row_in : Option Typed → List Column → List ℕ
  whole_row_in row columns = if is_whole_row row columns then row_in row columns else []

  abbrev pub cells_in : Option Typed → List Column → List ℕ
  cells_in row columns = cells_text format.mode (row_cell_in row) true columns

  abbrev pub column_in : Option Typed → (first : Bool) → Column → List ℕ
  column_in row first column = column_text format.mode (row_cell_in row) first column

  abbrev pub cell_in : Option Typed → List ℕ
  cell_in part = typed_cell_of format.style format.mode part

  -- a part as it is printed alone
  abbrev pub part_lines_in : Option Typed → List ℕ
  part_lines_in part = typed_lines (lent_sight format.sight) format.style format.mode OfPart part

  -- the same, and nothing of a part that isn't there
  abbrev pub found_lines_in : Option Typed → List ℕ
  found_lines_in part = typed_lines (lent_sight format.sight) format.style format.mode OfPartIfThere part
