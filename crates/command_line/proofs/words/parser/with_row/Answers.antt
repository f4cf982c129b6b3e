use Rattle.std.proofs.Common.{rules}
use Rattle.command_line.proofs.Declared.{had, not_had}
use Rattle.command_line.proofs.words.parser.with_row.Goals as goal

pub returns : goal.returns
returns c = had c.arg.result _ _ _ _ _ (search rules) c.arg.ensures c.in_ok-argument.ensures

pub returns-then-not-has : goal.returns-then-not-has
returns-then-not-has c = not_had _ _ _ _ (search rules)
