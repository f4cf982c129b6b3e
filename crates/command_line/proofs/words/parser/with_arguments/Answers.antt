use Rattle.std.proofs.Common.{◌++◌}
use Rattle.std.proofs.lemmas.Result.{IfOk-weaker}
use Rattle.command_line.proofs.Declared.{group_added}
use Rattle.command_line.proofs.words.parser.with_arguments.Goals as goal

pub returns : goal.returns
returns c = IfOk-weaker c.with_group-5.result _ _ (λ made last app without is.
    let name = c.args.name.now in
    let m = c.args.table.mapping.now in
    let f = c.args.table.formats.now in
    let s = c.args.table.style.now in
    let o = c.args.table.others.now in
    let s1 = c.in_ok-command.ensures app without is in
    let s2 = group_added name m f _ app (c.in_ok-command-2.ensures _ without s1) in
    let s3 = group_added name (m ++ f) s _ app (c.in_ok-command-3.ensures _ without s2) in
    let s4 = group_added name (m ++ f ++ s) o _ app (c.in_ok-command-4.ensures _ without s3) in
    group_added name (m ++ f ++ s ++ o) c.args.table.positionals.now made app (last _ without s4))
    c.with_group-5.ensures
