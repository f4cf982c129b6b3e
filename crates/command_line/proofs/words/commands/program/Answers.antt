use Rattle.std.proofs.Common.{List, option_map, subst}
use Rattle.std.proofs.lemmas.Result.{IfOk-weaker}
use Rattle.clap.specs.Walk.{Text}
use Rattle.command_line.specs.Commands.{IsApp, table_of, with_commands, without_commands}
use Rattle.command_line.proofs.words.commands.program.Goals as goal

pub returns : goal.returns
returns c = IfOk-weaker c.with_verbs.result _ _ (λ made is without.
    let P : List Text → Type 0 = λ names.
    IsApp (with_commands without_commands names (option_map (λ name. name.now) c.args.only) (table_of c.args.table))
    made in
    subst P c.verbs.ensures (is without_commands without c.without_commands.ensures)) c.with_verbs.ensures
