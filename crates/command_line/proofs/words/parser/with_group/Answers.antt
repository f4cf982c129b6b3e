use Rattle.std.proofs.Common.{rules, ◌≤◌, List, length, arith, subst, take_all}
use Rattle.command_line.specs.declared.words.arguments.Argument.{Argument}
use Rattle.command_line.specs.Commands.{IsApp, rules_of, with_rules}
use Rattle.command_line.proofs.Declared.{row_added}
use Rattle.command_line.proofs.words.parser.with_group.Goals as goal

pub loop-row-preserved : goal.loop-row-preserved
loop-row-preserved c = λ app without is.
    row_added c.args.name.now c.args.group.now c.loop-row.row-index _ _ app c.loop-row-test.true
    (c.in_ok-command.ensures _ without (c.loop-row.invariant app without is))

pub returns : goal.returns
returns c = λ app without is.
    let all : length c.args.group.now ≤ c.loop-row.row-index =
    first_of (omega (arith, c.loop-row-test.false), search rules) in
    let P : List Argument → Type 0 = λ rows.
    IsApp (with_rules app (rules_of c.args.name.now rows)) c.loop-row.command in
    subst P (take_all c.loop-row.row-index c.args.group.now all) (c.loop-row.invariant app without is)
