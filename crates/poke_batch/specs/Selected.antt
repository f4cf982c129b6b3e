-- What is printed of the parts of a value that a selection leads to.
use Rattle.std.specs.Prelude.{ℕ, zero, suc, ◌+◌, ◌-◌, Bool, true, false, ◌&&◌, if◌then◌else◌, List, [], ◌∷◌, ◌++◌, Option, Some, None, min, unwrap_or, option_map, is_some, codes, string_bytes}
use Rattle.pickle_types.specs.declared.node.Node.{Node}
use Rattle.pickle_meaning.specs.Values.{Label, IntegerLabel, OffsetLabel, TextLabel, ArrayLabel, StructLabel, UnionLabel, Value, label_of, members_of, member_at, member_count}
use Rattle.text_output.specs.declared.mode.Mode.{Mode}
use Rattle.text_output.specs.declared.mode.Mode.TheVariants.{Flat, Json}
use Rattle.text_output.specs.declared.style.Style.{Style}
use Rattle.text_output.specs.declared.style.Look.{Look}
use Rattle.value_text.specs.declared.typed.Typed.{Typed}
use Rattle.value_text.specs.PartTypes.{part_node}
use Rattle.value_text.specs.TypedValue.{nodes_in, char_node_in, types_in, node_in, mapped_in}
use Rattle.value_text.specs.JsonText.{json_string}
use Rattle.value_text.specs.Styled.{with_chars, styled_printed}
use Rattle.value_text.specs.Cells.{cell}
use Rattle.value_text.specs.ShowParts.{SightOf, shown_in}
use Rattle.value_text.specs.ShowWords.{FileBytes}
use Rattle.command_line.specs.declared.path.Path.{Path}
use Rattle.command_line.specs.declared.path.Step.{Step}
use Rattle.command_line.specs.declared.pattern.PatternStep.{PatternStep}
use Rattle.command_line.specs.declared.pattern.PatternStep.TheVariants.{Exact, Elements, Fields}
use Rattle.command_line.specs.declared.pattern.Span.{Span}
use Rattle.command_line.specs.declared.selection.Selection.{Selection}
use Rattle.command_line.specs.declared.selection.Shape.{Shape}
use Rattle.command_line.specs.declared.selection.Shape.TheVariants as shape
use Rattle.command_line.specs.declared.selection.Column.{Column}
use Rattle.command_line.specs.declared.selection.Absent.{Absent}
use Rattle.command_line.specs.declared.selection.Absent.TheVariants as absent
use Rattle.command_line.specs.declared.terms.Terms.{Terms}
use Rattle.poke_batch.specs.declared.places.Places.{Places}
use Rattle.poke_batch.specs.declared.line.Line.{Line}
use Rattle.poke_batch.specs.declared.line.Line.TheVariants as line
use Rattle.poke_batch.specs.PathParts.{is_array, place_of, step_to, part_of, node_there, node_from}

abbrev pub all_of : {A : Type 0} → (test : A → Bool) → List A → Bool
all_of test [] = true
all_of test (one ∷ more) = test one && all_of test more

-- those of a list that meet a test, in their order
abbrev pub those : {A : Type 0} → (test : A → Bool) → List A → List A
those test [] = []
those test (one ∷ more) = if test one then one ∷ those test more else those test more

-- a part of a value, beside the node of its type
pub record Part : Type 0 where
  pub node : Option ℕ
  pub value : Value

abbrev pub part_in : Typed → Part
part_in typed = record { node = node_in typed; value = mapped_in typed }

-- ---- where patterns lead

abbrev pub has_fields : Label → Bool
has_fields (IntegerLabel number type) = false
has_fields (OffsetLabel magnitude type unit) = false
has_fields (TextLabel bytes) = false
has_fields ArrayLabel = false
has_fields (StructLabel name fields) = true
has_fields (UnionLabel name index alternative) = true

-- the place after the last of a span among so many, and its places
abbrev pub end_in : Option ℕ → (count : ℕ) → ℕ
end_in None count = count
end_in (Some end) count = min count end

abbrev pub places_in : Span → (count : ℕ) → Places
places_in span count = record { from = unwrap_or span.from 0; end = end_in span.end count }

abbrev pub places_if : Bool → Places → Option Places
places_if true places = Some places
places_if false places = None

-- the places of the members to which a step leads that may lead to many: the elements of a span, or all fields
abbrev pub places_of : PatternStep → Value → Option Places
places_of (Exact step) value = None
places_of (Elements span) value =
    places_if (is_array (label_of value)) (places_in span (member_count (members_of value)))
places_of Fields value =
    places_if (has_fields (label_of value)) (record { from = 0; end = member_count (members_of value) })

module _ (nodes : List Node) where
  -- the part that is at a place of another
  abbrev pub member_part : Part → (place : ℕ) → Value → Part
  member_part part place value = record { node = part_node nodes part.node (label_of part.value) place; value = value }

  -- the part to which a step of a path leads, and that to which a path does
  abbrev pub step_part : Step → Part → Option Part
  step_part step part = option_map
      (λ value. record { node = node_there nodes part.node part.value (place_of step part.value); value = value })
      (step_to step part.value)

  abbrev pub path_part : Path → Part → Option Part
  path_part path part = option_map
      (λ value. record { node = node_from nodes path.steps.items part.node (Some part.value); value = value })
      (part_of path.steps.items part.value)

  -- what follows from the member at a place, if it is there
  abbrev pub at_member : {A : Type 0} → (follow : Part → List A) → Part → (place : ℕ) → Option Value → List A
  at_member follow part place None = []
  at_member follow part place (Some value) = follow (member_part part place value)

  -- what follows from the members at so many places, from one on
  abbrev pub at_places : {A : Type 0} → (follow : Part → List A) → Part → (count place : ℕ) → List A
  at_places follow part zero place = []
  at_places follow part (suc count) place =
      at_member follow part place (member_at (members_of part.value) place) ++ at_places follow part count (place + 1)

  -- a part that isn't there leads nowhere
  abbrev pub from_step : (follow : Part → List (Option Part)) → Option Part → List (Option Part)
  from_step follow None = None ∷ []
  from_step follow (Some part) = follow part

  abbrev pub from_places : (follow : Part → List (Option Part)) → Part → Option Places → List (Option Part)
  from_places follow part None = None ∷ []
  from_places follow part (Some places) = at_places follow part (places.end - places.from) places.from

  -- the parts to which a step leads, and what follows from each
  abbrev pub from_one : (follow : Part → List (Option Part)) → Part → PatternStep → List (Option Part)
  from_one follow part (Exact step) = from_step follow (step_part step part)
  from_one follow part (Elements span) = from_places follow part (places_of (Elements span) part.value)
  from_one follow part Fields = from_places follow part (places_of Fields part.value)

  -- the parts to which a pattern leads, in the value's order; none for one that isn't there
  abbrev pub parts_through : List PatternStep → Part → List (Option Part)
  parts_through [] part = Some part ∷ []
  parts_through (step ∷ steps) part = from_one (parts_through steps) part step

-- ---- texts

-- what is printed of a part: the part itself, or the columns of a row; or nothing of a part that isn't there, or of a
-- row that lacks a part of a column
pub data LineOf : Type 0 where
  OfPart : LineOf
  OfPartIfThere : LineOf
  OfRow : (columns : List Column) → LineOf
  OfWholeRow : (columns : List Column) → LineOf

abbrev pub line_of : Line → LineOf
line_of line.Part = OfPart
line_of line.PartIfThere = OfPartIfThere
line_of (line.Row columns) = OfRow columns.now
line_of (line.WholeRow columns) = OfWholeRow columns.now

-- the same by what an absent part is
abbrev pub part_line : Absent → LineOf
part_line absent.Fault = OfPart
part_line absent.Empty = OfPart
part_line absent.Skip = OfPartIfThere

abbrev pub row_line : Absent → List Column → LineOf
row_line absent.Fault columns = OfRow columns
row_line absent.Empty columns = OfRow columns
row_line absent.Skip columns = OfWholeRow columns

-- the texts of many, one after the other
abbrev pub each_text : {A : Type 0} → (text : A → List ℕ) → List A → List ℕ
each_text text [] = []
each_text text (one ∷ more) = text one ++ each_text text more

-- a value, printed by the types of a table: shown to the eye if a look is given, else in a mode and a style
abbrev pub text_in : Option SightOf → Style → Mode → List Node → (chars node : Option ℕ) → Value → List ℕ
text_in None style mode nodes chars node value = styled_printed nodes chars node style mode value
text_in (Some sight) style mode nodes chars node value = shown_in sight nodes chars node value

-- a look, if one is given, beside bytes of the file, if they are
abbrev pub sighted : Option FileBytes → Option Look → Option SightOf
sighted file look = option_map (λ look. record { look = look; file = file }) look

-- what is between columns, and around a row: an object in JSON, in any other mode tabs
abbrev pub between : Mode → (first : Bool) → List ℕ
between mode true = []
between Json false = codes ","
between mode false = codes "\t"

abbrev pub row_start : Mode → List ℕ
row_start Json = codes "{"
row_start mode = []

abbrev pub row_end : Mode → List ℕ
row_end Json = codes "}\n"
row_end mode = codes "\n"

-- what is before a cell: in JSON the name of its column
abbrev pub key_of : Mode → Column → List ℕ
key_of Json column = json_string (string_bytes column.name) ++ codes ":"
key_of mode column = []

-- the cell of a part that isn't there
abbrev pub no_cell : Mode → List ℕ
no_cell Json = codes "null"
no_cell mode = []

-- the columns of a row, with a text for each cell
abbrev pub column_text : Mode → (text : Column → List ℕ) → (first : Bool) → Column → List ℕ
column_text mode text first column = between mode first ++ (key_of mode column ++ text column)

abbrev pub cells_text : Mode → (text : Column → List ℕ) → (first : Bool) → List Column → List ℕ
cells_text mode text first [] = []
cells_text mode text first (column ∷ columns) = column_text mode text first column ++ cells_text mode text false columns

abbrev pub row_text : Mode → (text : Column → List ℕ) → List Column → List ℕ
row_text mode text columns = row_start mode ++ (cells_text mode text true columns ++ row_end mode)

-- the names of the columns, with tabs between them
abbrev pub name_text : (first : Bool) → Column → List ℕ
name_text first column = between Flat first ++ string_bytes column.name

abbrev pub names_text : (first : Bool) → List Column → List ℕ
names_text first [] = []
names_text first (column ∷ columns) = name_text first column ++ names_text false columns

abbrev pub header_text : (header : Bool) → List Column → List ℕ
header_text true columns = names_text true columns ++ codes "\n"
header_text false columns = []

-- the lines of a part that isn't there
abbrev pub absent_lines : Mode → LineOf → List ℕ
absent_lines mode OfPart = no_cell mode ++ codes "\n"
absent_lines mode OfPartIfThere = []
absent_lines mode (OfRow columns) = row_text mode (λ column. no_cell mode) columns
absent_lines mode (OfWholeRow columns) = []

-- whether a row has the parts of all its columns
abbrev pub has_columns : List Node → List Column → Part → Bool
has_columns nodes columns row = all_of (λ column. is_some (path_part nodes column.path row)) columns

-- the cell of a part, if it is there
abbrev pub cell_of : List Node → (chars : Option ℕ) → Style → Mode → Option Part → List ℕ
cell_of nodes chars style mode None = no_cell mode
cell_of nodes chars style mode (Some part) = cell style mode (with_chars style.chars nodes chars part.node part.value)

module _ (nodes : List Node) (chars : Option ℕ) (sight : Option SightOf) (style : Style) (mode : Mode) where
  -- the lines of a part that is there: as it is printed alone, or the cells of a row
  abbrev pub there_lines : LineOf → Part → List ℕ
  there_lines OfPart part = text_in sight style mode nodes chars part.node part.value
  there_lines OfPartIfThere part = text_in sight style mode nodes chars part.node part.value
  there_lines (OfRow columns) part =
      row_text mode (λ column. cell_of nodes chars style mode (path_part nodes column.path part)) columns
  there_lines (OfWholeRow columns) part =
      if has_columns nodes columns part
      then row_text mode (λ column. cell_of nodes chars style mode (path_part nodes column.path part)) columns
      else []

  abbrev pub lines_of : LineOf → Option Part → List ℕ
  lines_of line None = absent_lines mode line
  lines_of line (Some part) = there_lines line part

  -- the lines of all parts to which a pattern leads
  abbrev pub pattern_lines : LineOf → Part → List PatternStep → List ℕ
  pattern_lines line part steps = each_text (lines_of line) (parts_through nodes steps part)

  -- what is printed of the parts of a part, by what an absent one is
  abbrev pub shape_text : Absent → Shape → Part → List ℕ
  shape_text given (shape.Parts patterns) part =
      each_text (λ pattern. pattern_lines (part_line given) part pattern.steps.items) patterns.items
  shape_text given (shape.Rows rows) part = header_text rows.header rows.columns.items
      ++ pattern_lines (row_line given rows.columns.items) part rows.pattern.steps.items

  abbrev pub selected_text : Option Selection → Part → List ℕ
  selected_text None part = text_in sight style mode nodes chars part.node part.value
  selected_text (Some selection) part = shape_text selection.absent selection.shape part

-- what is printed of a part under terms, beside bytes of its file, if they are known
abbrev pub text_under : List Node → (chars : Option ℕ) → Terms → Option FileBytes → Mode → Part → List ℕ
text_under nodes chars terms file mode part =
    selected_text nodes chars (sighted file terms.look) terms.style mode terms.selection part

-- the same of a part beside its type, and its text without a selection
abbrev pub typed_whole : Option SightOf → Style → Mode → Typed → List ℕ
typed_whole sight style mode typed =
    text_in sight style mode (nodes_in (types_in typed)) (char_node_in (types_in typed))
    (node_in typed) (mapped_in typed)

abbrev pub typed_text : Terms → Option FileBytes → Mode → Typed → List ℕ
typed_text terms file mode typed =
    text_under (nodes_in (types_in typed)) (char_node_in (types_in typed)) terms file mode (part_in typed)

-- ---- parts that are there

module _ (nodes : List Node) where
  -- whether a part is there, and the parts of its columns
  abbrev pub is_there : LineOf → Option Part → Bool
  is_there line None = false
  is_there OfPart (Some part) = true
  is_there OfPartIfThere (Some part) = true
  is_there (OfRow columns) (Some part) = has_columns nodes columns part
  is_there (OfWholeRow columns) (Some part) = has_columns nodes columns part

  abbrev pub has_pattern : LineOf → Part → List PatternStep → Bool
  has_pattern line part steps = all_of (is_there line) (parts_through nodes steps part)

  abbrev pub has_shape : Shape → Part → Bool
  has_shape (shape.Parts patterns) part = all_of (λ pattern. has_pattern OfPart part pattern.steps.items) patterns.items
  has_shape (shape.Rows rows) part = has_pattern (OfRow rows.columns.items) part rows.pattern.steps.items

  abbrev pub has_parts : Absent → Shape → Part → Bool
  has_parts absent.Fault shape part = has_shape shape part
  has_parts absent.Empty shape part = true
  has_parts absent.Skip shape part = true

  -- whether a part has all parts that are selected, if the absence of one is a fault
  abbrev pub has_selected : Option Selection → Part → Bool
  has_selected None part = true
  has_selected (Some selection) part = has_parts selection.absent selection.shape part
