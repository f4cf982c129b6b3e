-- What the words of a command line request: what the parser finds in them, and the job that this is.
use Rattle.std.specs.Prelude.{◌≡◌, ◌≢◌, ◌⊎◌, ◌&&◌, Bool, true, false, not, ℕ, List, [], Some, None, codes, if◌then◌else◌}
use Rattle.std.specs.Str.{bytes_eq}
use Rattle.clap.specs.Walk.{rows_of}
use Rattle.clap.specs.Simple.{subcommand_of, subcommand_rows_of}
use Rattle.clap.specs.Matches.{one_text}
use Rattle.clap.specs.Faults.{fault_of}
use Rattle.clap.specs.Kinds.{HasKind, IsAmong}
use Rattle.clap.specs.declared.error.ErrorKind.{ErrorKind}
use Rattle.clap.specs.declared.error.ErrorKind.TheVariants as kinds
use Rattle.clap.specs.declared.parser.matches.Found.{Found}
use Rattle.clap.specs.declared.ArgMatches.{ArgMatches}
use Rattle.clap.specs.declared.Error.{Error}
use Rattle.command_line.specs.declared.words.arguments.Argument.{Argument}
use Rattle.command_line.specs.declared.answer_form.AnswerForm.{AnswerForm}
use Rattle.command_line.specs.declared.answer_form.AnswerForm.TheVariants as answer
use Rattle.command_line.specs.declared.words.Asked.{Asked}
use Rattle.command_line.specs.declared.words.Job.{Job}
use Rattle.command_line.specs.declared.words.WordFault.{WordFault}
use Rattle.command_line.specs.declared.words.WordFault.TheVariants.{Usage, Help, Offset, Memory}
use Rattle.command_line.specs.Commands.{IsTable, the_program}
use Rattle.command_line.specs.Flags.{FlagIn}
use Rattle.command_line.specs.Found.{Asks, IsJobOf, word_in}
use Rattle.command_line.specs.Misread.{FailsFor, Misplaced, Misread}
use Rattle.command_line.specs.Styles.{NamesAnswer}
use Rattle.command_line.specs.Ties.{is_given, keeps_ties}

-- the parser takes the words of a line, and finds a command with these matches, or none
pub record Finds (line : List (List ℕ)) (matches : ArgMatches) : Type 0 where
  pub table : List Argument
  pub listed : IsTable table
  pub taken : fault_of (the_program table) line ≡ []
  pub found : subcommand_rows_of matches ≡ subcommand_of (the_program table) line

-- the parser refuses the words, or memory ran out
pub record Fails (line : List (List ℕ)) (error : Error) : Type 0 where
  pub table : List Argument
  pub listed : IsTable table
  pub kind : HasKind (fault_of (the_program table) line) error

-- only these commands have an option for the form of their answer
abbrev pub has_answer_form : (command : List ℕ) → Bool
has_answer_form command =
    if bytes_eq command (codes "check") then true
    else if bytes_eq command (codes "types") then true
    else if bytes_eq command (codes "formats") then true
    else bytes_eq command (codes "identify")

pub record AnswersIn (command mode : List ℕ) (form : AnswerForm) : Type 0 where
  pub named : has_answer_form command ≡ true → NamesAnswer mode form
  pub others : not (has_answer_form command) ≡ true → form ≡ answer.Text

-- a dump of which no size was given
abbrev pub has_no_size : (command : List ℕ) → Found → Bool
has_no_size command found =
    bytes_eq command (codes "dump") && (not (is_given found (codes "size")) && not (is_given found (codes "length")))

-- what a command requests by the matches of its arguments
pub record AsksOf (command : List ℕ) (found : Found) (asked : Asked) : Type 0 where
  pub job : Asks found asked.job
  pub of_command : IsJobOf (Some command) asked.job
  pub why : FlagIn (one_text found (codes "why")) asked.why
  pub default_size : asked.default_size ≡ has_no_size command found
  pub answer : AnswersIn command (word_in found (codes "mode")) asked.answer

-- the parser takes the words of a line, the ties between arguments are kept, and this is what they request
pub record IsAskedBy (line : List (List ℕ)) (asked : Asked) : Type 0 where
  pub table : List Argument
  pub listed : IsTable table
  pub taken : fault_of (the_program table) line ≡ []
  pub command : List ℕ
  pub found : Found
  pub enters : subcommand_of (the_program table) line ≡ Some (command, rows_of found)
  pub tied : keeps_ties command found ≡ true
  pub asks : AsksOf command found asked

-- the same of a job alone
abbrev pub IsJobAskedBy : (line : List (List ℕ)) → Job → Type 0
IsJobAskedBy line job = (asked : Asked) × IsAskedBy line asked × (job ≡ asked.job)

-- the parser refuses the words, by an error of such a kind
pub record IsRefusedBy (line : List (List ℕ)) (IsSuch : ErrorKind → Type 0) : Type 0 where
  pub table : List Argument
  pub listed : IsTable table
  pub kind : ErrorKind
  pub among : IsAmong kind (fault_of (the_program table) line)
  pub such : IsSuch kind

abbrev pub IsHelp : ErrorKind → Type 0
IsHelp kind = (kind ≡ kinds.DisplayHelp) ⊎ (kind ≡ kinds.DisplayVersion)

abbrev pub IsMisuse : ErrorKind → Type 0
IsMisuse kind = (kind ≢ kinds.DisplayHelp) × (kind ≢ kinds.DisplayVersion)

-- the parser refuses the words as a request for help, or as misused
abbrev pub IsRefused : (line : List (List ℕ)) → WordFault → Type 0
IsRefused line (Usage text) = IsRefusedBy line IsMisuse
IsRefused line (Help text) = IsRefusedBy line IsHelp
IsRefused line Offset = ⊥
IsRefused line Memory = Unit {0}

-- the parser takes the words, and finds a command with such matches
pub record IsTakenAs (line : List (List ℕ)) (IsSuch : (command : List ℕ) → Found → Type 0) : Type 0 where
  pub table : List Argument
  pub listed : IsTable table
  pub taken : fault_of (the_program table) line ≡ []
  pub command : List ℕ
  pub found : Found
  pub enters : subcommand_of (the_program table) line ≡ Some (command, rows_of found)
  pub such : IsSuch command found

-- the parser finds no command
pub record FindsNone (line : List (List ℕ)) : Type 0 where
  pub table : List Argument
  pub listed : IsTable table
  pub none : subcommand_of (the_program table) line ≡ None

-- a tie is broken, or the ties are kept and an argument is wrong
abbrev pub IsMisread : (command : List ℕ) → Found → Type 0
IsMisread command found =
    (keeps_ties command found ≡ false) ⊎ ((keeps_ties command found ≡ true) × Misread command found)

abbrev pub IsMisplaced : (command : List ℕ) → Found → Type 0
IsMisplaced command found = (keeps_ties command found ≡ true) × Misplaced command found

-- the parser takes the words, but they aren't a job
abbrev pub IsUnread : (line : List (List ℕ)) → WordFault → Type 0
IsUnread line = FailsFor (IsTakenAs line IsMisread ⊎ FindsNone line) (IsTakenAs line IsMisplaced)

-- why the words of a line aren't a job
abbrev pub FailsTo : (line : List (List ℕ)) → WordFault → Type 0
FailsTo line fault = IsRefused line fault ⊎ IsUnread line fault
