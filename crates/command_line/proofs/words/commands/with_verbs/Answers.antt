use Rattle.std.proofs.Common.{rules, ◌≤◌, List, length, arith, option_map, subst, take_all}
use Rattle.command_line.specs.declared.words.commands.Verb.{Verb}
use Rattle.command_line.specs.Commands.{IsApp, table_of, verb_names, with_commands}
use Rattle.command_line.proofs.Declared.{command_added}
use Rattle.command_line.proofs.words.commands.with_verbs.Goals as goal

pub loop-verb-preserved : goal.loop-verb-preserved
loop-verb-preserved c = λ app without is.
    command_added c.args.verbs.now (option_map (λ name. name.now) c.args.only) (table_of c.args.table)
    c.loop-verb.verb-index _ _ _ _ app c.loop-verb-test.true
    c.in_ok-program.ensures (c.loop-verb.invariant app without is) (c.in_ok-command.ensures without)

pub returns : goal.returns
returns c = λ app without is.
    let all : length c.args.verbs.now ≤ c.loop-verb.verb-index =
    first_of (omega (arith, c.loop-verb-test.false), search rules) in
    let P : List Verb → Type 0 = λ verbs.
    IsApp (with_commands app (verb_names verbs) (option_map (λ name. name.now) c.args.only)
    (table_of c.args.table)) c.loop-verb.program in
    subst P (take_all c.loop-verb.verb-index c.args.verbs.now all) (c.loop-verb.invariant app without is)
