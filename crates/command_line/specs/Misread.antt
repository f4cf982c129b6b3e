-- Why the arguments of a command aren't a job, though the parser takes them.
use Rattle.std.specs.Prelude.{◌≡◌, ◌⊎◌, Bool, true, false, ℕ, List, [], ◌∷◌, Option, Some, None, codes, unwrap_or}
use Rattle.clap.specs.Matches.{first_value, one_text}
use Rattle.clap.specs.declared.parser.matches.Found.{Found}
use Rattle.command_line.specs.declared.pattern.Pattern.{Pattern}
use Rattle.command_line.specs.declared.selection.Choice.{Choice}
use Rattle.command_line.specs.declared.selection.Choice.TheVariants as choice
use Rattle.command_line.specs.declared.words.WordFault.{WordFault}
use Rattle.command_line.specs.declared.words.WordFault.TheVariants.{Usage, Help, Offset, Memory}
use Rattle.command_line.specs.Flags.{FlagIn}
use Rattle.command_line.specs.Found.{is_raw, IsNoBound, IsNoByteExtent, IsNoExtent, IsNoLimitIfAny, IsNoList, IsNoListExtent, IsNoNumberIfAny, IsNoRange, IsNoSearch, IsNoStep, SeeksParts}
use Rattle.command_line.specs.Patterns.{PatternPart, IsPattern}
use Rattle.command_line.specs.Selects.{ArePatterns, HasKeys, HasRows, IsNoPath, NamesAbsent, Selects, column_path, is_one_path, words_in}
use Rattle.command_line.specs.declared.selection.Absent.{Absent}
use Rattle.command_line.specs.declared.selection.Absent.TheVariants as absent
use Rattle.command_line.specs.declared.selection.Selection.{Selection}
use Rattle.command_line.specs.Styles.{IsNoElementsIfAny}

-- a usage error has one reason, a refused offset another; what needs memory may fail
abbrev pub FailsFor : (usage offset : Type 0) → WordFault → Type 0
FailsFor usage offset (Usage text) = usage
FailsFor usage offset (Help text) = ⊥
FailsFor usage offset Offset = offset
FailsFor usage offset Memory = Unit {0}

-- a text isn't a pattern
abbrev pub IsNoPattern : List ℕ → Type 0
IsNoPattern word = (parts : List PatternPart) → ¬ (IsPattern word parts)

-- one of the texts is such
abbrev pub AnyWord : (List ℕ → Type 0) → List (List ℕ) → Type 0
AnyWord IsSuch [] = ⊥
AnyWord IsSuch (word ∷ words) = IsSuch word ⊎ AnyWord IsSuch words

-- a text isn't the pattern of one path
abbrev pub IsNoOnePath : List ℕ → Type 0
IsNoOnePath word =
    IsNoPattern word ⊎ ((patterns : List Pattern) × ArePatterns (word ∷ []) patterns × (is_one_path patterns ≡ false))

-- a text says no column
abbrev pub IsNoColumn : List ℕ → Type 0
IsNoColumn word = IsNoPath (column_path word)

-- rows have no such pattern, no such columns, no such mode, or two columns of one name in JSON
pub data MisreadRows (found : Found) (pattern : List ℕ) (words : List (List ℕ)) : Type 0 where
  pattern_wrong : IsNoPattern pattern → MisreadRows found pattern words
  columns_wrong : AnyWord IsNoColumn words → MisreadRows found pattern words
  mode_wrong : (header : Bool) → FlagIn (one_text found (codes "header")) header
      → ¬ (HasRows (unwrap_or (first_value found (codes "mode")) []) header) → MisreadRows found pattern words
  keys_wrong : ¬ (HasKeys (unwrap_or (first_value found (codes "mode")) []) words) → MisreadRows found pattern words

-- rows are to be left out
abbrev pub Skips : Found → Type 0
Skips found = NamesAbsent (unwrap_or (first_value found (codes "absent")) []) absent.Skip

abbrev pub MisreadParts : Found → (rows : Option (List ℕ)) → (words : List (List ℕ)) → Type 0
MisreadParts found None words = Skips found ⊎ AnyWord IsNoPattern words
MisreadParts found (Some pattern) words = MisreadRows found pattern words

pub data MisreadColumns (mode : List ℕ) (given : Absent) (words : List (List ℕ)) : Type 0 where
  path_wrong : AnyWord IsNoPath words → MisreadColumns mode given words
  column_wrong : AnyWord IsNoColumn words → MisreadColumns mode given words
  lone_wrong : AnyWord IsNoOnePath words → MisreadColumns mode given words
  keys_wrong : ¬ (HasKeys mode words) → MisreadColumns mode given words
  rows_wrong : given ≡ absent.Skip → words ≡ [] → MisreadColumns mode given words

-- the same where an argument names what an absent part is
pub record MisreadTable (found : Found) : Type 0 where
  pub absent : Absent
  pub named : NamesAbsent (unwrap_or (first_value found (codes "absent")) []) absent
  pub misread :
      MisreadColumns (unwrap_or (first_value found (codes "mode")) []) absent (words_in found (codes "get"))

-- the parts that are requested are none, by what a command offers
abbrev pub MisreadSelection : Found → Choice → Type 0
MisreadSelection found choice.Parts =
    MisreadParts found (first_value found (codes "rows")) (words_in found (codes "get"))
MisreadSelection found choice.Columns = MisreadTable found

-- an option of a mapping is wrong
pub data MisreadRequest (found : Found) (offered : Choice) : Type 0 where
  selection_wrong : MisreadSelection found offered → MisreadRequest found offered
  most_output_wrong : IsNoNumberIfAny (first_value found (codes "max-output")) → MisreadRequest found offered
  most_slots_wrong : IsNoNumberIfAny (first_value found (codes "slots")) → MisreadRequest found offered
  most_bytes_wrong : IsNoNumberIfAny (first_value found (codes "memory")) → MisreadRequest found offered
  spool_wrong : IsNoNumberIfAny (first_value found (codes "spool")) → MisreadRequest found offered
  limit_wrong : IsNoLimitIfAny (first_value found (codes "limit")) → MisreadRequest found offered
  elements_wrong : IsNoElementsIfAny (first_value found (codes "elements")) → MisreadRequest found offered
  depth_wrong : IsNoElementsIfAny (first_value found (codes "depth")) → MisreadRequest found offered

-- bytes are requested, and not of one part
pub record IsNoRaw (found : Found) : Type 0 where
  pub raw : is_raw found ≡ true
  pub selection : Selection
  pub selects : Selects found choice.Parts (Some selection)

-- the arguments of the command of this name are wrong
pub data Misread (command : List ℕ) (found : Found) : Type 0 where
  map_wrong : command ≡ codes "map" → MisreadRequest found choice.Parts ⊎ IsNoRaw found → Misread command found
  show_wrong : command ≡ codes "show" → MisreadRequest found choice.Parts → Misread command found
  each_wrong : command ≡ codes "each" → MisreadRequest found choice.Columns → Misread command found
  records_wrong : command ≡ codes "records" → MisreadRequest found choice.Columns ⊎ IsNoList found →
      Misread command found
  find_wrong : command ≡ codes "find" → MisreadRequest found choice.Columns ⊎ (IsNoSearch found ⊎ SeeksParts found)
      → Misread command found
  identify_wrong : command ≡ codes "identify" → IsNoNumberIfAny (first_value found (codes "spool")) →
      Misread command found
  bound_wrong : command ≡ codes "bound" → IsNoBound found → Misread command found
  types_wrong : command ≡ codes "types" → IsNoElementsIfAny (first_value found (codes "depth")) → Misread command found

-- the arguments of the command of this name have something else than an offset where one belongs
pub data Misplaced (command : List ℕ) (found : Found) : Type 0 where
  map_nowhere : command ≡ codes "map" → IsNoExtent found → Misplaced command found
  show_nowhere : command ≡ codes "show" → IsNoExtent found → Misplaced command found
  each_nowhere : command ≡ codes "each" → IsNoExtent found → Misplaced command found
  records_nowhere : command ≡ codes "records" → IsNoListExtent found → Misplaced command found
  find_nowhere : command ≡ codes "find" → IsNoExtent found ⊎ IsNoStep found → Misplaced command found
  identify_nowhere : command ≡ codes "identify" → IsNoByteExtent found → Misplaced command found
  dump_nowhere : command ≡ codes "dump" → IsNoRange found → Misplaced command found
