-- What the arguments of a command request of the parts of a value, by what clap found among them.
use Rattle.std.specs.Prelude.{◌≡◌, ◌≢◌, ◌==◌, ◌&&◌, ◌||◌, ℕ, Bool, true, false, not, nat_lt, List, [], ◌∷◌, length, Option, Some, None, if◌then◌else◌, string_bytes, codes, unwrap_or}
use Rattle.std.specs.List.{position_or_len, before_first, after_first}
use Rattle.std.specs.Option.{option_map_or}
use Rattle.std.specs.List.{list_all}
use Rattle.std.specs.Str.{bytes_eq}
use Rattle.clap.specs.Matches.{first_value, one_text, matched_of, raw_values}
use Rattle.clap.specs.declared.parser.matches.Found.{Found}
use Rattle.command_line.specs.Flags.{FlagIn}
use Rattle.command_line.specs.Paths.{PathStep, steps_of, IsPath}
use Rattle.command_line.specs.Patterns.{parts_of, is_exact, IsPattern}
use Rattle.command_line.specs.declared.path.Path.{Path}
use Rattle.command_line.specs.declared.pattern.Pattern.{Pattern}
use Rattle.command_line.specs.declared.selection.Selection.{Selection}
use Rattle.command_line.specs.declared.selection.Shape.{Shape}
use Rattle.command_line.specs.declared.selection.Shape.TheVariants as shape
use Rattle.command_line.specs.declared.selection.Rows.{Rows}
use Rattle.command_line.specs.declared.selection.Column.{Column}
use Rattle.command_line.specs.declared.selection.Absent.{Absent}
use Rattle.command_line.specs.declared.selection.Absent.TheVariants as absent
use Rattle.command_line.specs.declared.selection.Choice.{Choice}
use Rattle.command_line.specs.declared.selection.Choice.TheVariants as choice

-- the texts of an option that may be given many times
abbrev pub words_in : Found → List ℕ → List (List ℕ)
words_in found name = option_map_or raw_values (matched_of found name) []

-- `empty` is an empty column or line, and `skip` none; any other text is a fault
abbrev pub NamesAbsent : List ℕ → Absent → Type 0
NamesAbsent word absent.Fault = (word ≢ codes "empty") × (word ≢ codes "skip")
NamesAbsent word absent.Empty = word ≡ codes "empty"
NamesAbsent word absent.Skip = word ≡ codes "skip"

-- each text is a pattern
abbrev pub ArePatterns : List (List ℕ) → List Pattern → Type 0
ArePatterns [] [] = Unit {0}
ArePatterns [] (pattern ∷ patterns) = ⊥
ArePatterns (word ∷ words) [] = ⊥
ArePatterns (word ∷ words) (pattern ∷ patterns) =
    IsPattern word (parts_of pattern.steps.items) × ArePatterns words patterns

-- a text begins as a path does: with `.` (46), `[` (91) or `^` (94). Before a `=` (61) at its start there is no name
abbrev pub begins_path : List ℕ → Bool
begins_path [] = true
begins_path (byte ∷ bytes) = (byte == 46 || byte == 91) || (byte == 94 || byte == 61)

abbrev pub is_equals : ℕ → Bool
is_equals byte = byte == 61

-- the text of a column has its name, before the first `=`
abbrev pub is_named : List ℕ → Bool
is_named word = not (begins_path word) && nat_lt (position_or_len is_equals word) (length word)

-- the name of a column, which is the path if the text has no other, and the text of its path
abbrev pub column_name : List ℕ → List ℕ
column_name word = if is_named word then before_first is_equals word else word

abbrev pub column_path : List ℕ → List ℕ
column_path word = if is_named word then after_first is_equals word else word

-- a text says a column
abbrev pub IsColumn : List ℕ → Column → Type 0
IsColumn word column = (string_bytes column.name ≡ column_name word)
    × IsPath (column_path word) (steps_of column.path.steps.items)

abbrev pub AreColumns : List (List ℕ) → List Column → Type 0
AreColumns [] [] = Unit {0}
AreColumns [] (column ∷ columns) = ⊥
AreColumns (word ∷ words) [] = ⊥
AreColumns (word ∷ words) (column ∷ columns) = IsColumn word column × AreColumns words columns

-- a column has the name of one of some others
abbrev pub is_among : List ℕ → List (List ℕ) → Bool
is_among word [] = false
is_among word (other ∷ words) = bytes_eq (column_name word) (column_name other) || is_among word words

-- no two columns have one name
abbrev pub are_distinct : List (List ℕ) → Bool
are_distinct [] = true
are_distinct (word ∷ words) = not (is_among word words) && are_distinct words

-- in JSON, whose objects name each column, they don't
abbrev pub HasKeys : (mode : List ℕ) → (words : List (List ℕ)) → Type 0
HasKeys mode words = mode ≡ codes "json" → are_distinct words ≡ true

-- whether patterns are one path
abbrev pub is_one_path : List Pattern → Bool
is_one_path [] = false
is_one_path (pattern ∷ []) = list_all is_exact pattern.steps.items
is_one_path (pattern ∷ more ∷ patterns) = false

abbrev pub IsOnePath : List ℕ → List Pattern → Type 0
IsOnePath word patterns = ArePatterns (word ∷ []) patterns × (is_one_path patterns ≡ true)

-- a mode has rows, and a header if one is wanted
abbrev pub HasRows : (mode : List ℕ) → (header : Bool) → Type 0
HasRows mode header = (mode ≢ codes "tree") × (mode ≢ codes "lines") × (mode ≢ codes "raw")
    × (header ≡ true → mode ≢ codes "json")

-- rows of a pattern, with a column for each path
pub record NamesRows (found : Found) (pattern : List ℕ) (words : List (List ℕ)) (rows : Rows) : Type 0 where
  pub led_to : IsPattern pattern (parts_of rows.pattern.steps.items)
  pub columns : AreColumns words rows.columns.items
  pub header : FlagIn (one_text found (codes "header")) rows.header
  pub mode : HasRows (unwrap_or (first_value found (codes "mode")) []) rows.header
  pub keys : HasKeys (unwrap_or (first_value found (codes "mode")) []) words

-- each text is a path
abbrev pub ArePaths : List (List ℕ) → Type 0
ArePaths [] = Unit {0}
ArePaths (word ∷ words) = ((steps : List PathStep) × IsPath word steps) × ArePaths words

-- no part or one is requested, whose absence is a fault; where there is none, there are no rows to leave out
abbrev pub IsOneAtMost : List (List ℕ) → Absent → Type 0
IsOneAtMost [] given = given ≢ absent.Skip
IsOneAtMost (word ∷ []) given = given ≡ absent.Fault
IsOneAtMost (word ∷ more ∷ words) given = ⊥

-- whether patterns are one path whose absence is a fault
abbrev pub is_plain : Absent → List Pattern → Bool
is_plain absent.Fault patterns = is_one_path patterns
is_plain absent.Empty patterns = false
is_plain absent.Skip patterns = false

-- what `map` prints without rows: the parts to which the patterns lead that the texts are, but for a plain path. None
-- is left out
abbrev pub IsShapeOfParts : List (List ℕ) → Absent → Shape → Type 0
IsShapeOfParts words given (shape.Parts patterns) =
    ArePatterns words patterns.items × (is_plain given patterns.items ≡ false) × (given ≢ absent.Skip)
IsShapeOfParts words given (shape.Rows rows) = ⊥

abbrev pub SelectsParts : List (List ℕ) → Absent → Option Selection → Type 0
SelectsParts words absent None = IsOneAtMost words absent × ArePaths words
SelectsParts words absent (Some selection) = (selection.absent ≡ absent) × IsShapeOfParts words absent selection.shape

-- what `each` prints: the columns of the value, or one part whose absence is no fault
abbrev pub IsLonePath : List (List ℕ) → Absent → List Pattern → Type 0
IsLonePath [] given patterns = ⊥
IsLonePath (word ∷ []) given patterns = IsOnePath word patterns × (given ≢ absent.Fault)
IsLonePath (word ∷ more ∷ words) given patterns = ⊥

-- a row is printed, in place of one part: of many columns, or of one that has a name or is below a header
abbrev pub is_row : (header : Bool) → List (List ℕ) → Bool
is_row header [] = false
is_row header (word ∷ []) = header || is_named word
is_row header (word ∷ more ∷ words) = true

-- one row, the value itself, with the columns that the texts say
abbrev pub IsRow : List (List ℕ) → Shape → Type 0
IsRow words (shape.Parts patterns) = ⊥
IsRow words (shape.Rows rows) =
    (rows.pattern.steps.items ≡ []) × AreColumns words rows.columns.items × (rows.header ≡ false)

abbrev pub IsRowOf : List (List ℕ) → Absent → Selection → Type 0
IsRowOf words absent selection = IsRow words selection.shape × (selection.absent ≡ absent)

abbrev pub IsShapeOfColumns : (mode : List ℕ) → (header : Bool) → List (List ℕ) → Absent → Shape → Type 0
IsShapeOfColumns mode header words absent (shape.Parts patterns) =
    IsLonePath words absent patterns.items × (is_row header words ≡ false)
IsShapeOfColumns mode header words absent (shape.Rows rows) =
    (is_row header words ≡ true) × IsRow words (shape.Rows rows) × HasKeys mode words

abbrev pub SelectsColumns : (mode : List ℕ) → (header : Bool) → List (List ℕ) → Absent → Option Selection → Type 0
SelectsColumns mode header words absent None = IsOneAtMost words absent × (is_row header words ≡ false)
SelectsColumns mode header words absent (Some selection) =
    (selection.absent ≡ absent) × IsShapeOfColumns mode header words absent selection.shape

-- the same of the arguments of a command, which may request a header
pub record SelectsTable (found : Found) (absent : Absent) (selection : Option Selection) : Type 0 where
  pub header : Bool
  pub given : FlagIn (one_text found (codes "header")) header
  pub selected : SelectsColumns (unwrap_or (first_value found (codes "mode")) []) header
      (words_in found (codes "get")) absent selection

-- what `map` prints: rows if a pattern of rows is given
abbrev pub IsShapeOfRows : Found → (pattern : List ℕ) → Shape → Type 0
IsShapeOfRows found pattern (shape.Parts patterns) = ⊥
IsShapeOfRows found pattern (shape.Rows rows) = NamesRows found pattern (words_in found (codes "get")) rows

abbrev pub SelectsRows : Found → (pattern : List ℕ) → Absent → Option Selection → Type 0
SelectsRows found pattern absent None = ⊥
SelectsRows found pattern absent (Some selection) =
    (selection.absent ≡ absent) × IsShapeOfRows found pattern selection.shape

abbrev pub SelectsAny : Found → (rows : Option (List ℕ)) → Absent → Option Selection → Type 0
SelectsAny found None absent selection = SelectsParts (words_in found (codes "get")) absent selection
SelectsAny found (Some pattern) absent selection = SelectsRows found pattern absent selection

-- what a command prints that offers a choice, where this is what an absent part is
abbrev pub SelectsBy : Found → Choice → Absent → Option Selection → Type 0
SelectsBy found choice.Parts absent selection = SelectsAny found (first_value found (codes "rows")) absent selection
SelectsBy found choice.Columns absent selection = SelectsTable found absent selection

-- the selection that the arguments of a command request
pub record Selects (found : Found) (choice : Choice) (selection : Option Selection) : Type 0 where
  pub absent : Absent
  pub absent_named : NamesAbsent (unwrap_or (first_value found (codes "absent")) []) absent
  pub selected : SelectsBy found choice absent selection

-- the path that an argument is, if it was given
abbrev pub PathIfAny : Option (List ℕ) → Option Path → Type 0
PathIfAny None path = path ≡ None
PathIfAny (Some word) None = ⊥
PathIfAny (Some word) (Some path) = IsPath word (steps_of path.steps.items)

-- a text isn't a path
abbrev pub IsNoPath : List ℕ → Type 0
IsNoPath word = (steps : List PathStep) → ¬ (IsPath word steps)

abbrev pub IsNoPathIfAny : Option (List ℕ) → Type 0
IsNoPathIfAny None = ⊥
IsNoPathIfAny (Some word) = IsNoPath word

-- the same, if nothing is selected
abbrev pub PartBeside : Option (List ℕ) → Option Selection → Option Path → Type 0
PartBeside word (Some selection) path = path ≡ None
PartBeside word None path = PathIfAny word path
