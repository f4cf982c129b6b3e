-- The commands and their arguments, without help texts, and how the parser reads them: without the ties between
-- arguments.
use Rattle.std.specs.Borrow.{Bor}
use Rattle.std.specs.Prelude.{◌≡◌, true, false, Bool, ℕ, List, [], ◌∷◌, ◌++◌, map, Option, Some, None, codes, option_map, if◌then◌else◌}
use Rattle.std.specs.List.{list_any}
use Rattle.std.specs.Str.{bytes_eq}
use Rattle.clap.specs.Walk.{Rule, Text, rule_of, texts}
use Rattle.clap.specs.Simple.{App, app_of, new_rule, new_shape, with_rule, with_subcommand}
use Rattle.clap.specs.declared.builder.ArgAction.TheVariants.{Append, SetTrue}
use Rattle.clap.specs.declared.builder.ValueParser.TheVariants.{Names, Unsigned}
use Rattle.clap.specs.declared.Arg.{Arg}
use Rattle.clap.specs.declared.Command.{Command}
use Rattle.clap.specs.declared.Command.TheViews.{out-Command}
use Rattle.command_line.specs.declared.words.arguments.Accepts.{Accepts}
use Rattle.command_line.specs.declared.words.arguments.Accepts.TheVariants as accepts
use Rattle.command_line.specs.declared.words.arguments.Argument.{Argument}
use Rattle.command_line.specs.declared.words.arguments.Groups.{Groups}
use Rattle.command_line.specs.declared.words.arguments.Kind.{Kind}
use Rattle.command_line.specs.declared.words.arguments.Kind.TheVariants.{Flag, Valued, Repeated, Positional, Omissible, Positionals}
use Rattle.command_line.specs.declared.words.arguments.Tie.{Tie}
use Rattle.command_line.specs.declared.words.arguments.Tie.TheVariants as tie
use Rattle.command_line.specs.declared.words.commands.Verb.{Verb}

-- what the parser accepts as a value
pub data Accepted : Type 0 where
  AnyText : Accepted
  ANumber : Accepted
  OneOf : (words : List Text) → Accepted

-- how an argument is tied to others
pub data Tied : Type 0 where
  Free : Tied
  Apart : (other : Text) → Tied
  Needs : (other : Text) → Tied
  Either : (other : Text) → Tied
  ByHead : Tied
  NeedsOrByHead : (other : Text) → Tied
  Typed : Tied
  Last : Tied
  LastOrAlone : Tied

-- an argument: the commands that have it, its name, the letter that is short for it, how it is given, the name of its
-- value, what it accepts, its value if it isn't given, and how it is tied to others
pub record Row : Type 0 where
  pub of : List Text
  pub name : Text
  pub letter : Option ℕ
  pub kind : Kind
  pub value : Text
  pub accepted : Accepted
  pub default : Option Text
  pub tied : Tied

abbrev pub option : (of : List Text) → (name value : Text) → Row
option of name value = record {
  of = of;
  name = name;
  letter = None;
  kind = Valued;
  value = value;
  accepted = AnyText;
  default = None;
  tied = Free;
}

abbrev pub flag : (of : List Text) → (name : Text) → Row
flag of name = record (option of name []) { kind = Flag }

abbrev pub positional : (of : List Text) → (name : Text) → Row
positional of name = record (option of name []) { kind = Positional }

-- a positional argument that may be left out, or one before it
abbrev pub omissible : (of : List Text) → (name : Text) → Row
omissible of name = record (option of name []) { kind = Omissible }

-- a number below 2^64
abbrev pub number : (of : List Text) → (name value : Text) → Row
number of name value = record (option of name value) { accepted = ANumber }

-- one of some words
abbrev pub choice : (of : List Text) → (name value : Text) → (words : List Text) → Row
choice of name value words = record (option of name value) { accepted = OneOf words }

-- with a value that it has if it isn't given
abbrev pub defaulted : Row → Text → Row
defaulted row default = record row { default = Some default }

-- it may be given many times
abbrev pub repeated : Row → Row
repeated row = record row { kind = Repeated }

-- tied to others
abbrev pub tied_by : Row → Tied → Row
tied_by row tied = record row { tied = tied }

abbrev pub lettered : Row → (letter : ℕ) → Row
lettered row letter = record row { letter = Some letter }

-- the commands that map a type, and those of them that print values
abbrev pub mapping : List Text
mapping = codes "map" ∷ codes "show" ∷ codes "each" ∷ []

abbrev pub printing : List Text
printing = codes "map" ∷ codes "each" ∷ codes "records" ∷ []

-- those that map a type once in a file, or again and again
abbrev pub placing : List Text
placing = codes "map" ∷ codes "show" ∷ codes "each" ∷ codes "records" ∷ []

-- those and the one that tries it at many places
abbrev pub trying : List Text
trying = codes "map" ∷ codes "show" ∷ codes "each" ∷ codes "records" ∷ codes "find" ∷ []

-- the commands that read files by types, those of them whose lines are for programs, and those over many files
abbrev pub reading : List Text
reading = codes "map" ∷ codes "show" ∷ codes "each" ∷ codes "records" ∷ codes "find" ∷ codes "identify" ∷ []

abbrev pub reporting : List Text
reporting = codes "map" ∷ codes "each" ∷ codes "records" ∷ codes "find" ∷ codes "identify" ∷ []

abbrev pub over_many : List Text
over_many = codes "each" ∷ codes "identify" ∷ []

abbrev pub only : (command : Text) → List Text
only command = command ∷ []

-- the words of choices that more than one option has
abbrev pub modes : List Text
modes = codes "flat" ∷ codes "tree" ∷ codes "json" ∷ codes "lines" ∷ []

abbrev pub map_modes : List Text
map_modes = codes "flat" ∷ codes "tree" ∷ codes "json" ∷ codes "lines" ∷ codes "raw" ∷ []

abbrev pub numbers : List Text
numbers = codes "decimal" ∷ codes "hex" ∷ codes "digits" ∷ []

abbrev pub chars : List Text
chars = codes "numbers" ∷ codes "text" ∷ []

abbrev pub forms : List Text
forms = codes "text" ∷ codes "json" ∷ []

-- the options of mappings, in the order in which the parser has them
abbrev pub mapping_options : List Row
mapping_options =
    defaulted (option placing (codes "at") (codes "OFFSET")) (codes "0#b")
    ∷ tied_by (option placing (codes "byte") (codes "N")) (Apart (codes "at"))
    ∷ defaulted (option (only (codes "find")) (codes "at") (codes "OFFSET")) (codes "0#b")
    ∷ tied_by (option (only (codes "find")) (codes "byte") (codes "N")) (Apart (codes "at"))
    ∷ option trying (codes "length") (codes "BYTES")
    ∷ tied_by (flag mapping (codes "inside")) ByHead
    ∷ choice trying (codes "endian") (codes "ORDER") (codes "big" ∷ codes "little" ∷ [])
    ∷ defaulted (option mapping (codes "limit") (codes "N")) (codes "1000000000")
    ∷ option (only (codes "records")) (codes "limit") (codes "N")
    ∷ flag mapping (codes "whole")
    ∷ number mapping (codes "max-output") (codes "N")
    ∷ tied_by (number placing (codes "memory") (codes "BYTES")) (Apart (codes "slots"))
    ∷ tied_by (number (only (codes "find")) (codes "memory") (codes "BYTES")) (Apart (codes "slots"))
    ∷ number trying (codes "slots") (codes "N")
    ∷ repeated (option (codes "map" ∷ codes "show" ∷ []) (codes "get") (codes "PATH"))
    ∷ repeated (option (codes "each" ∷ codes "records" ∷ []) (codes "get") (codes "PATH"))
    ∷ repeated (option (only (codes "find")) (codes "get") (codes "PATH"))
    ∷ number reading (codes "spool") (codes "BYTES")
    ∷ flag reading (codes "progress")
    ∷ tied_by (option (only (codes "map")) (codes "rows") (codes "PATTERN")) (Needs (codes "get"))
    ∷ flag (only (codes "records")) (codes "header")
    ∷ tied_by (flag (only (codes "map")) (codes "header")) (Needs (codes "rows"))
    ∷ defaulted (choice (only (codes "map")) (codes "absent") (codes "WHAT")
    (codes "fault" ∷ codes "empty" ∷ codes "skip" ∷ [])) (codes "fault")
    ∷ defaulted (choice (codes "show" ∷ codes "each" ∷ codes "records" ∷ codes "find" ∷ []) (codes "absent")
    (codes "WHAT") (codes "fault" ∷ codes "empty" ∷ [])) (codes "fault")
    ∷ number (only (codes "records")) (codes "count") (codes "N")
    ∷ defaulted (number (only (codes "records")) (codes "omit") (codes "N")) (codes "0")
    ∷ flag (only (codes "records")) (codes "any-end")
    ∷ flag (only (codes "records")) (codes "report-end")
    ∷ option (only (codes "records")) (codes "of") (codes "PATH")
    ∷ tied_by (option (only (codes "records")) (codes "resume") (codes "OFFSET")) (NeedsOrByHead (codes "of"))
    ∷ defaulted (option (only (codes "find")) (codes "step") (codes "OFFSET")) (codes "1#B")
    ∷ flag (only (codes "find")) (codes "header")
    ∷ flag (only (codes "find")) (codes "apart")
    ∷ number (only (codes "find")) (codes "count") (codes "N")
    ∷ defaulted (number (only (codes "find")) (codes "attempt-limit") (codes "N")) (codes "1000000")
    ∷ option (only (codes "find")) (codes "limit") (codes "N")
    ∷ []

-- those of formats of files
abbrev pub format_options : List Row
format_options =
    flag (only (codes "identify")) (codes "all")
    ∷ option (only (codes "identify")) (codes "in") (codes "FOLDER")
    ∷ option (only (codes "identify")) (codes "byte") (codes "N")
    ∷ option (only (codes "identify")) (codes "length") (codes "BYTES")
    ∷ []

-- those of printed values and answers
abbrev pub style_options : List Row
style_options =
    tied_by (flag (only (codes "bound")) (codes "text")) (Apart (codes "memory"))
    ∷ tied_by (flag (only (codes "bound")) (codes "tight")) (Apart (codes "text"))
    ∷ tied_by (flag (only (codes "bound")) (codes "memory")) (Apart (codes "tight"))
    ∷ defaulted (choice (only (codes "map")) (codes "mode") (codes "MODE") map_modes) (codes "flat")
    ∷ defaulted (choice (only (codes "records")) (codes "mode") (codes "MODE") modes) (codes "flat")
    ∷ defaulted (choice (only (codes "find")) (codes "mode") (codes "MODE") (codes "flat" ∷ codes "json" ∷ []))
    (codes "flat")
    ∷ defaulted (choice (only (codes "each")) (codes "mode") (codes "MODE") (codes "flat" ∷ codes "json" ∷ []))
    (codes "flat")
    ∷ tied_by (choice (only (codes "bound")) (codes "mode") (codes "MODE") modes) (Needs (codes "text"))
    ∷ defaulted (choice (codes "check" ∷ codes "types" ∷ codes "formats" ∷ []) (codes "mode") (codes "MODE") forms)
    (codes "text")
    ∷ defaulted (choice (only (codes "identify")) (codes "mode") (codes "MODE") forms) (codes "text")
    ∷ choice trying (codes "numbers") (codes "FORM") numbers
    ∷ tied_by (choice (only (codes "bound")) (codes "numbers") (codes "FORM") numbers) (Needs (codes "text"))
    ∷ choice trying (codes "chars") (codes "FORM") chars
    ∷ tied_by (choice (only (codes "bound")) (codes "chars") (codes "FORM") chars) (Needs (codes "text"))
    ∷ option trying (codes "elements") (codes "N")
    ∷ tied_by (option (only (codes "bound")) (codes "elements") (codes "N")) (Needs (codes "text"))
    ∷ defaulted (choice reporting (codes "faults") (codes "FORM") forms) (codes "text")
    ∷ defaulted (option (only (codes "show")) (codes "depth") (codes "N")) (codes "6")
    ∷ option (only (codes "types")) (codes "parts") (codes "NAME")
    ∷ tied_by (defaulted (option (only (codes "types")) (codes "depth") (codes "N")) (codes "6"))
    (Needs (codes "parts"))
    ∷ flag (only (codes "show")) (codes "sizes")
    ∷ flag (only (codes "show")) (codes "bytes")
    ∷ defaulted (choice (only (codes "show")) (codes "color") (codes "WHEN")
    (codes "auto" ∷ codes "always" ∷ codes "never" ∷ [])) (codes "auto")
    ∷ flag printing (codes "why")
    ∷ flag (codes "find" ∷ codes "bound" ∷ codes "types" ∷ []) (codes "why")
    ∷ flag (only (codes "check")) (codes "why")
    ∷ flag (only (codes "identify")) (codes "why")
    ∷ []

-- those of many files, and of dumps
abbrev pub other_options : List Row
other_options =
    flag over_many (codes "flush")
    ∷ flag (only (codes "records")) (codes "flush")
    ∷ flag (only (codes "find")) (codes "flush")
    ∷ option over_many (codes "files0-from") (codes "PATH")
    ∷ defaulted (option (only (codes "dump")) (codes "from") (codes "OFFSET")) (codes "0#B")
    ∷ defaulted (option (only (codes "dump")) (codes "size") (codes "OFFSET")) (codes "128#B")
    ∷ tied_by (lettered (option (only (codes "dump")) (codes "skip") (codes "BYTES")) 115) (Apart (codes "from"))
    ∷ tied_by (lettered (option (only (codes "dump")) (codes "length") (codes "BYTES")) 110) (Apart (codes "size"))
    ∷ flag (only (codes "dump")) (codes "no-ruler")
    ∷ []

abbrev pub positionals : List Row
positionals =
    positional (codes "map" ∷ codes "each" ∷ codes "records" ∷ codes "bound" ∷ codes "check" ∷ codes "types" ∷ [])
    (codes "PICKLE")
    ∷ omissible (only (codes "show")) (codes "PICKLE")
    ∷ omissible (only (codes "find")) (codes "PICKLE")
    ∷ omissible (codes "map" ∷ codes "show" ∷ codes "records" ∷ codes "find" ∷ codes "bound" ∷ []) (codes "TYPE")
    ∷ tied_by (omissible (only (codes "each")) (codes "TYPE")) Typed
    ∷ tied_by (omissible (codes "map" ∷ codes "records" ∷ []) (codes "FILE")) Last
    ∷ tied_by (omissible (codes "show" ∷ codes "find" ∷ []) (codes "FILE")) LastOrAlone
    ∷ positional (only (codes "dump")) (codes "FILE")
    ∷ tied_by (record (positional over_many (codes "FILE")) { kind = Positionals }) (Either (codes "files0-from"))
    ∷ tied_by (record (omissible (only (codes "bound")) (codes "BITS")) { accepted = ANumber }) Last
    ∷ []

-- the arguments of all commands
abbrev pub arguments : List Row
arguments = mapping_options ++ format_options ++ style_options ++ other_options ++ positionals

-- the row that an argument of the code is
abbrev pub accepted : Accepts → Accepted
accepted accepts.Number = ANumber
accepted (accepts.OneOf words) = OneOf (texts words.now)
accepted _ = AnyText

abbrev pub tied_as : Tie → Tied
tied_as tie.Free = Free
tied_as (tie.Apart other) = Apart other.now
tied_as (tie.Needs other) = Needs other.now
tied_as (tie.Either other) = Either other.now
tied_as tie.ByHead = ByHead
tied_as (tie.NeedsOrByHead other) = NeedsOrByHead other.now
tied_as tie.Typed = Typed
tied_as tie.Last = Last
tied_as tie.LastOrAlone = LastOrAlone

abbrev pub row_of : Argument → Row
row_of argument = record {
  of = texts argument.of.now;
  name = argument.name.now;
  letter = argument.letter;
  kind = argument.kind;
  value = argument.value.now;
  accepted = accepted argument.accepts;
  default = option_map (λ text. text.now) argument.default;
  tied = tied_as argument.tie;
}

-- a group of arguments of the code has these rows
abbrev pub AreRows : List Argument → List Row → Type 0
AreRows group rows = map row_of group ≡ rows

-- the table of the code has these arguments
abbrev pub IsTable : List Argument → Type 0
IsTable table = AreRows table arguments

-- the groups of the code, one after the other
abbrev pub table_of : Groups → List Argument
table_of groups = groups.mapping.now ++ groups.formats.now ++ groups.style.now ++ groups.others.now
    ++ groups.positionals.now

-- a rule of the parser, by how the argument is given
abbrev pub with_kind : Kind → (name : Text) → Rule → Rule
with_kind Flag name rule = record rule { long = Some name; action = Some SetTrue }
with_kind Valued name rule = record rule { long = Some name; value_names = 1 }
with_kind Repeated name rule = record rule { long = Some name; value_names = 1; action = Some Append }
with_kind Positional name rule = record rule { required = true }
with_kind Omissible name rule = rule
with_kind Positionals name rule =
    record rule { range = Some (record { start_inclusive = 0; end_inclusive = 18446744073709551615 }) }

abbrev pub with_letter : Option ℕ → Rule → Rule
with_letter None rule = rule
with_letter (Some letter) rule = record rule { short = Some letter }

abbrev pub with_default : Option Text → Rule → Rule
with_default None rule = rule
with_default (Some default) rule = record rule { defaults = default ∷ [] }

abbrev pub with_values : (names : Bor (List (Bor Text))) → Accepted → Rule → Rule
with_values names AnyText rule = rule
with_values names ANumber rule = record rule { parser = Some (Unsigned 0 18446744073709551615) }
with_values names (OneOf words) rule = record rule { parser = Some (Names names) }

-- the parser's rule of a row. `names` is where the code has the words of a choice
abbrev pub rule_of_row : (names : Bor (List (Bor Text))) → Row → Rule
rule_of_row names row = with_values names row.accepted
    (with_default row.default (with_letter row.letter (with_kind row.kind row.name (new_rule row.name))))

-- where the words of an argument's choice are; for one that is none, any place will do
abbrev pub names_in : Accepts → Bor (List (Bor Text)) → Bor (List (Bor Text))
names_in (accepts.OneOf words) others = words
names_in _ others = others

abbrev pub names_of : Argument → Bor (List (Bor Text))
names_of argument = names_in argument.accepts argument.of

-- the parser's rule of an argument
abbrev pub rule_of_argument : Argument → Rule
rule_of_argument argument = rule_of_row (names_of argument) (row_of argument)

-- the command of this name has the argument
abbrev pub has : (command : Text) → Argument → Bool
has command argument = list_any (λ name. bytes_eq name.now command) argument.of.now

-- the rules with one before them if a test passes
abbrev pub before_if : Bool → Rule → List Rule → List Rule
before_if true rule rules = rule ∷ rules
before_if false rule rules = rules

-- the rules of a command
abbrev pub rules_of : (command : Text) → List Argument → List Rule
rules_of command [] = []
rules_of command (argument ∷ arguments) =
    before_if (has command argument) (rule_of_argument argument) (rules_of command arguments)

-- a command with these arguments, in this order
abbrev pub with_rules : App → List Rule → App
with_rules app [] = app
with_rules app (rule ∷ rules) = with_rules (with_rule app rule) rules

abbrev pub command_of : (name : Text) → List Argument → App
command_of name table = record { top = record (new_shape name) { rules = rules_of name table }; subs = [] }

-- the program before it has commands
abbrev pub without_commands : App
without_commands = record {
  top = record (new_shape (codes "poke_batch")) { has_version = true; subcommand_required = true };
  subs = [];
}

-- the names of the commands, in the order in which the program has them
abbrev pub commands : List Text
commands = codes "map" ∷ codes "show" ∷ codes "each" ∷ codes "records" ∷ codes "find" ∷ codes "identify"
    ∷ codes "bound" ∷ codes "check" ∷ codes "types" ∷ codes "formats" ∷ codes "dump" ∷ []

-- the names of commands of the code
abbrev pub verb_names : List Verb → List Text
verb_names verbs = map (λ verb. verb.name.now) verbs

-- the arguments that a command has in a program in which only one command, if it is named, has arguments
abbrev pub listed : (only : Option Text) → (command : Text) → List Argument → List Argument
listed None command table = table
listed (Some name) command table = if bytes_eq name command then table else []

-- a program with the commands of these names, one after the other
abbrev pub with_commands : App → (names : List Text) → (only : Option Text) → List Argument → App
with_commands app [] only table = app
with_commands app (name ∷ names) only table =
    with_commands (with_subcommand app (command_of name (listed only name table)).top) names only table

-- a program whose commands have these rules, and of which one command must be given
abbrev pub program_of : (rules_of : (command : Text) → List Rule) → App
program_of rules_of = record {
  top = record (new_shape (codes "poke_batch")) { is_leaf = false; has_version = true; subcommand_required = true };
  subs = map (λ command. record (new_shape command) { rules = rules_of command }) commands;
}

-- the program of a table
abbrev pub the_program : List Argument → App
the_program table = program_of (λ command. rules_of command table)

-- the same, in which only one command, if it is named, has arguments
abbrev pub program_with : (only : Option Text) → List Argument → App
program_with only table = program_of (λ command. rules_of command (listed only command table))

-- the word after the program's name is a command
pub record EntersCommand (line : List Text) (name : Text) : Type 0 where
  pub program : Text
  pub rest : List Text
  pub is : line ≡ program ∷ name ∷ rest
  pub known : list_any (λ command. bytes_eq command name) commands ≡ true

-- what is built has the arguments of a rule or of a command, and none that reaches into other commands
pub record IsArg (rule : Rule) (arg : Arg) : Type 0 where
  pub reads : rule_of arg ≡ rule
  pub local : arg.global ≡ false

pub record IsApp (app : App) (command : Command) : Type 0 where
  pub reads : app_of command ≡ app
  pub local : (out-Command command).has_globals ≡ false
