-- What the parser finds for a program that is simple.
use Rattle.std.proofs.Common.{◌≡◌, ◌∙◌, true, ℕ, List, [], Option, Result, Ok, Err, IfOk, IfErr, IfSome, sym, ap, subst}
use Rattle.clap.specs.Walk.{Text}
use Rattle.clap.specs.Simple.{App, HasMatchesOf, app_of, is_simple, subcommand_of, subcommand_rows_of}
use Rattle.clap.specs.Faults.{fault_of, is_simple_and_free}
use Rattle.clap.specs.Kinds.{FailsBy, HasKind}
use Rattle.clap.specs.declared.ArgMatches.{ArgMatches}
use Rattle.clap.specs.declared.Command.{Command}
use Rattle.clap.specs.declared.Error.{Error}
use Rattle.std.proofs.lemmas.Result.{IfOk-weaker, IfErr-weaker}
use Rattle.command_line.specs.declared.words.arguments.Argument.{Argument}
use Rattle.command_line.specs.Commands.{EntersCommand, IsTable, IsApp, program_with, the_program}
use Rattle.command_line.proofs.OneCommand.{ReadAlike, reads_alike}
use Rattle.command_line.proofs.SimpleProgram.{is_simple_with}
use Rattle.command_line.specs.Commanded.{Finds, Fails}

taken_by : (r : Result ArgMatches Error) (app program : App) (line : List (List ℕ)) → app ≡ program
    → is_simple program ≡ true → is_simple_and_free program ≡ true
    → IfOk r (HasMatchesOf app line) → (is_simple_and_free app ≡ true → FailsBy (fault_of app line) r)
    → IfOk r (λ m. (fault_of program line ≡ []) × (subcommand_rows_of m ≡ subcommand_of program line))
taken_by (Ok m) app program line same simple free found fails = (
  ap (λ a. fault_of a line) (sym same) ∙ fails (ap is_simple_and_free same ∙ free),
  (found (ap is_simple same ∙ simple)).1 ∙ ap (λ a. subcommand_of a line) same,
)
taken_by (Err e) app program line same simple free found fails = tt

failed_by : (r : Result ArgMatches Error) (app program : App) (line : List (List ℕ)) → app ≡ program
    → is_simple_and_free program ≡ true
    → (is_simple_and_free app ≡ true → FailsBy (fault_of app line) r) → IfErr r (HasKind (fault_of program line))
failed_by (Ok m) app program line same free fails = tt
failed_by (Err e) app program line same free fails =
    subst (λ a. HasKind (fault_of a line) e) same (fails (ap is_simple_and_free same ∙ free))

pub finds : (r : Result ArgMatches Error) (command : Command) (only : Option Text) (table : List Argument)
    (line : List Text) → IsTable table → IfSome only (EntersCommand line) → IsApp (program_with only table) command
    → IfOk r (HasMatchesOf (app_of command) line)
    → (is_simple_and_free (app_of command) ≡ true → FailsBy (fault_of (app_of command) line) r)
    → IfOk r (Finds line)
finds r command only table line listed enters is found fails =
    let alike : ReadAlike (the_program table) (program_with only table) line = reads_alike only table line enters in
    let simple = is_simple_with only table line listed enters in
    IfOk-weaker r _ _
    (λ m h. record { table = table; listed = listed; taken = alike.fails ∙ h.0; found = h.1 ∙ sym alike.enters })
    (taken_by r (app_of command) (program_with only table) line is.reads simple.0 simple.1 found fails)

pub fails : (r : Result ArgMatches Error) (command : Command) (only : Option Text) (table : List Argument)
    (line : List Text) → IsTable table → IfSome only (EntersCommand line) → IsApp (program_with only table) command
    → (is_simple_and_free (app_of command) ≡ true → FailsBy (fault_of (app_of command) line) r) → IfErr r (Fails line)
fails r command only table line listed enters is failing =
    let alike : ReadAlike (the_program table) (program_with only table) line = reads_alike only table line enters in
    let simple = is_simple_with only table line listed enters in
    IfErr-weaker r _ _
    (λ e h. record { table = table; listed = listed; kind = subst (λ kinds. HasKind kinds e) (sym alike.fails) h })
    (failed_by r (app_of command) (program_with only table) line is.reads simple.1 failing)
