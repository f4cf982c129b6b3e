-- The ties between the arguments of a command: those that exclude or require one another.
use Rattle.std.specs.Prelude.{◌&&◌, ◌||◌, Bool, true, false, not, ℕ, List, Option, Some, None, codes, if◌then◌else◌, is_some, option_and_then}
use Rattle.std.specs.List.{list_all, list_any}
use Rattle.std.specs.Str.{bytes_eq}
use Rattle.clap.specs.Matches.{first_value, matched_of}
use Rattle.clap.specs.declared.parser.matches.Found.{Found}
use Rattle.clap.specs.declared.parser.ValueSource.{ValueSource}
use Rattle.clap.specs.declared.parser.ValueSource.TheVariants.{CommandLine, DefaultValue}
use Rattle.command_line.specs.Commands.{Row, Tied, Free, Apart, Needs, Either, ByHead, NeedsOrByHead, Typed, Last, LastOrAlone, arguments, has, tied_as}
use Rattle.command_line.specs.declared.words.arguments.Argument.{Argument}
use Rattle.command_line.specs.Subjects.{has_type, is_by_head}
use Rattle.command_line.specs.Found.{after_type_in, shows_file_alone, type_in, word_in}

abbrev pub is_from_words : Option ValueSource → Bool
is_from_words (Some CommandLine) = true
is_from_words (Some DefaultValue) = false
is_from_words None = false

-- an argument was given, and hasn't just its default
abbrev pub is_given : Found → (name : List ℕ) → Bool
is_given found name = is_from_words (option_and_then (λ a. a.source) (matched_of found name))

-- not both arguments were given
abbrev pub are_apart : Found → List ℕ → List ℕ → Bool
are_apart found name other = not (is_given found name && is_given found other)

-- one was given only beside the other
abbrev pub needs : Found → List ℕ → List ℕ → Bool
needs found name other = not (is_given found name) || is_given found other

-- just one was given
abbrev pub is_either_given : Found → List ℕ → List ℕ → Bool
is_either_given found name other = if is_given found name then not (is_given found other) else is_given found other

-- a type is given, or left out where that is allowed
abbrev pub is_typed : Found → (type : Option (List ℕ)) → Bool
is_typed found type = has_type (word_in found (codes "PICKLE")) type

-- the argument after TYPE is given too
abbrev pub has_words : Found → (after : List ℕ) → Bool
has_words found after = is_some (after_type_in found after) && is_typed found (type_in found after)

-- the argument for the type before files, which may be in a list
abbrev pub type_unless_listed : (list type before : Option (List ℕ)) → Option (List ℕ)
type_unless_listed (Some path) type before = type
type_unless_listed None type before = before

abbrev pub type_before_files : Found → Option (List ℕ)
type_before_files found = type_unless_listed (first_value found (codes "files0-from"))
    (first_value found (codes "TYPE")) (type_in found (codes "FILE"))

-- the head of the pickle says the type
abbrev pub has_head_type : Found → Bool
has_head_type found = is_by_head (word_in found (codes "PICKLE")) (type_before_files found)

-- an argument is given beside others as it is tied to them
abbrev pub keeps_tie : Found → (name : List ℕ) → Tied → Bool
keeps_tie found name Free = true
keeps_tie found name (Apart other) = are_apart found name other
keeps_tie found name (Needs other) = needs found name other
keeps_tie found name (Either other) = is_either_given found name other
keeps_tie found name ByHead = not (is_given found name) || has_head_type found
keeps_tie found name (NeedsOrByHead other) = needs found name other || has_head_type found
keeps_tie found name Typed = is_typed found (first_value found name)
keeps_tie found name Last = has_words found name
keeps_tie found name LastOrAlone = shows_file_alone found || has_words found name

-- an argument is given so, if the command of this name has it
abbrev pub keeps_row : (command : List ℕ) → Found → Row → Bool
keeps_row command found row =
    not (list_any (λ name. bytes_eq name command) row.of) || keeps_tie found row.name row.tied

-- the ties of the command of this name are kept
unfoldable pub keeps_ties : (command : List ℕ) → Found → Bool
keeps_ties command found = list_all (keeps_row command found) arguments

-- the same of arguments of the code
abbrev pub keeps_argument : (command : List ℕ) → Found → Argument → Bool
keeps_argument command found argument =
    not (has command argument) || keeps_tie found argument.name.now (tied_as argument.tie)

abbrev pub keep_ties : (command : List ℕ) → Found → List Argument → Bool
keep_ties command found group = list_all (keeps_argument command found) group
