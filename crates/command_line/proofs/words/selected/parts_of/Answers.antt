use Rattle.std.proofs.Common.{rules, ◌≡◌, true}
use Rattle.command_line.specs.Selects.{is_one_path}
use Rattle.command_line.specs.declared.selection.Absent.TheVariants as absent
use Rattle.command_line.proofs.SelectedWords.{one_is_path}
use Rattle.command_line.proofs.words.selected.parts_of.Goals as goal

pub returns-then-is_one_path-clause-ok : goal.returns-then-is_one_path-clause-ok
returns-then-is_one_path-clause-ok c =
    let one : is_one_path c.in_ok-patterns.patterns.items ≡ true = search in
    let faulty : c.args.absent ≡ absent.Fault = (let h = c.eq.ensures in search rules) in
    one_is_path _ c.in_ok-patterns.patterns.items c.in_ok-patterns.ensures.ok one c.args.absent faulty
