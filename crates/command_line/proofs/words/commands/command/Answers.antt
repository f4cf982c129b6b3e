use Rattle.std.proofs.Common.{List, subst}
use Rattle.std.proofs.lemmas.Result.{IfOk-weaker}
use Rattle.command_line.specs.Commands.{IsApp, command_of, table_of}
use Rattle.command_line.specs.declared.words.arguments.Argument.{Argument}
use Rattle.command_line.proofs.Declared.{commanded}
use Rattle.command_line.proofs.words.commands.command.Goals as goal

pub returns : goal.returns
returns c = IfOk-weaker c.with_arguments.result _ _
    (λ made is without.
    let P : List Argument → Type 0 = λ table. IsApp (command_of c.args.verb.name.now table) made in
    subst P c.listed-table.ensures
    (commanded c.args.verb.name.now (table_of c.listed-table.result) made (is _ without c.new_command.ensures)))
    c.with_arguments.ensures
