use Rattle.std.proofs.Common.{◌-◌, ◌≤◌, length, drop}
use Rattle.value_text.specs.ValueText.{spelled}
use Rattle.value_text.specs.Escaped.{escape_of}
use Rattle.value_text.proofs.Puts.{Told}
use Rattle.value_text.proofs.print.printer.Printer.put_bytes.Given as goal

abbrev pub invariant-loop-done : goal.invariant-loop-done
invariant-loop-done g l = record {
  within : l.done ≤ length l.bytes;
  told : Told g.W.Write.contents l.initial.self l.self (spelled (escape_of l.escapes) (drop l.done l.bytes))
      (spelled (escape_of l.escapes) l.bytes);
}

abbrev pub decreases-loop-done : goal.decreases-loop-done
decreases-loop-done g l = length l.bytes - l.done
