-- The program is simple: its arguments are those of the contract's table, wherever the code has the words of choices.
use Rattle.std.proofs.Common.{◌≡◌, ◌∙◌, ℕ, zero, suc, Bool, true, false, List, [], ◌∷◌, Option, Some, None, IfSome, if◌then◌else◌, map, refl, ap, ap₂}
use Rattle.std.specs.Borrow.{Bor}
use Rattle.std.specs.List.{list_any}
use Rattle.std.specs.Str.{bytes_eq}
use Rattle.clap.specs.Walk.{Rule, Text}
use Rattle.clap.specs.Simple.{App, is_simple}
use Rattle.clap.specs.Faults.{is_simple_and_free}
use Rattle.clap.proofs.OnLiterals.{clap_on_literals}
use Rattle.clap.proofs.WalkLemmas.{list_any-map}
use Rattle.command_line.specs.declared.words.arguments.Argument.{Argument}
use Rattle.command_line.proofs.OneCommand.{HoldsForEach, among, for_commands}
use Rattle.command_line.specs.Commands.{EntersCommand, Row, IsTable, arguments, before_if, commands, program_of, program_with, names_of, row_of, rule_of_row, rule_of_argument, rules_of, the_program}

-- where the code has the words of choices, by the place of the argument
abbrev pub Places : Type 0
Places = ℕ → Bor (List (Bor Text))

abbrev pub has_row : (command : Text) → Row → Bool
has_row command row = list_any (λ name. bytes_eq name command) row.of

abbrev pub rules_at : (command : Text) → List Row → Places → List Rule
rules_at command [] names = []
rules_at command (row ∷ rows) names =
    before_if (has_row command row) (rule_of_row (names zero) row) (rules_at command rows (λ i. names (suc i)))

places : List Argument → Bor (List (Bor Text)) → Places
places [] default i = default
places (argument ∷ table) default zero = names_of argument
places (argument ∷ table) default (suc i) = places table default i

rules_by_place : (command : Text) (table : List Argument) (default : Bor (List (Bor Text)))
    → rules_of command table ≡ rules_at command (map row_of table) (places table default)
unfolding places
rules_by_place command [] default = refl
rules_by_place command (argument ∷ table) default = ap₂ (λ b rules. before_if b (rule_of_argument argument) rules)
    (list_any-map (λ name. bytes_eq name command) (λ (name : Bor Text). name.now) argument.of.now)
    (rules_by_place command table default)

-- the program of the table of the contract
abbrev pub program_at : Places → App
program_at names = program_of (λ command. rules_at command arguments names)

nowhere : Bor (List (Bor Text))
nowhere = record { ref_ptr = (0, 0); now = [] }

program_is_at : (table : List Argument) → IsTable table → the_program table ≡ program_at (places table nowhere)
program_is_at table is = (λ i. program_of (λ command. rules_by_place command table nowhere i))
    ∙ ap (λ rows. program_of (λ command. rules_at command rows (places table nowhere))) is

is_simple_at : (names : Places) → is_simple (program_at names) ≡ true
unfolding clap_on_literals
is_simple_at names = refl

is_free_at : (names : Places) → is_simple_and_free (program_at names) ≡ true
unfolding clap_on_literals
is_free_at names = refl

-- the program in which one command alone has its arguments
abbrev pub one_program_at : (name : Text) → Places → App
one_program_at name names =
    program_of (λ command. if bytes_eq name command then rules_at command arguments names else [])

rules_if : (b : Bool) (command : Text) (table : List Argument) → rules_of command (if b then table else [])
    ≡ (if b then rules_at command (map row_of table) (places table nowhere) else [])
rules_if true command table = rules_by_place command table nowhere
rules_if false command table = refl

one_program_is_at : (name : Text) (table : List Argument) → IsTable table
    → program_with (Some name) table ≡ one_program_at name (places table nowhere)
one_program_is_at name table is =
    (λ i. program_of (λ command. rules_if (bytes_eq name command) command table i))
    ∙ ap (λ rows. program_of (λ command.
    if bytes_eq name command then rules_at command rows (places table nowhere) else [])) is

-- the program in which this command alone has its arguments is simple
abbrev pub IsSimpleAlone : Text → Type 0
IsSimpleAlone name = (names : Places)
    → (is_simple (one_program_at name names) ≡ true) × (is_simple_and_free (one_program_at name names) ≡ true)

are_simple : HoldsForEach IsSimpleAlone commands
unfolding clap_on_literals
are_simple = for_commands IsSimpleAlone
    (λ names. (refl, refl))
    (λ names. (refl, refl))
    (λ names. (refl, refl))
    (λ names. (refl, refl))
    (λ names. (refl, refl))
    (λ names. (refl, refl))
    (λ names. (refl, refl))
    (λ names. (refl, refl))
    (λ names. (refl, refl))
    (λ names. (refl, refl))
    (λ names. (refl, refl))

pub is_simple_program : (table : List Argument) → IsTable table → is_simple (the_program table) ≡ true
is_simple_program table is = ap is_simple (program_is_at table is) ∙ is_simple_at (places table nowhere)

pub is_free_program : (table : List Argument) → IsTable table → is_simple_and_free (the_program table) ≡ true
is_free_program table is = ap is_simple_and_free (program_is_at table is) ∙ is_free_at (places table nowhere)

-- so is the program in which one command, if it is named, alone has its arguments
pub is_simple_with : (only : Option Text) (table : List Argument) (line : List Text) → IsTable table
    → IfSome only (EntersCommand line)
    → (is_simple (program_with only table) ≡ true) × (is_simple_and_free (program_with only table) ≡ true)
is_simple_with None table line is enters = (is_simple_program table is, is_free_program table is)
is_simple_with (Some name) table line is enters =
    let simple : IsSimpleAlone name = among IsSimpleAlone commands name are_simple enters.known in
    let same : program_with (Some name) table ≡ one_program_at name (places table nowhere) =
    one_program_is_at name table is in (
      ap is_simple same ∙ (simple (places table nowhere)).0,
      ap is_simple_and_free same ∙ (simple (places table nowhere)).1,
    )
