use Rattle.std.proofs.Common.{◌*◌, replicate}
use Rattle.value_text.specs.TreeText.{indent_text}
use Rattle.value_text.proofs.Puts.{Told}
use Rattle.value_text.proofs.print.printer.Printer.put_indent.Given as goal

abbrev pub invariant-loop-left : goal.invariant-loop-left
invariant-loop-left g l =
    Told g.W.Write.contents l.initial.self l.self (replicate (2 * l.left) 32) (indent_text l.fn.level)

abbrev pub decreases-loop-left : goal.decreases-loop-left
decreases-loop-left g l = l.left
