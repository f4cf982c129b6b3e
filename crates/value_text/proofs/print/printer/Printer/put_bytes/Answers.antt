use Rattle.std.proofs.Common.{arith, length-drop}
use Rattle.std.proofs.lemmas.List.{take_rest}
use Rattle.value_text.specs.Escaped.{escape_of}
use Rattle.value_text.proofs.Puts.{told_next, told_failed}
use Rattle.value_text.proofs.StringTexts.{bytes_next}
use Rattle.value_text.proofs.print.printer.Printer.put_bytes.Goals as goal

pub loop-done-preserved : goal.loop-done-preserved
loop-done-preserved g c =
    let i = c.loop-done.invariant in let e = c.put_next-done.ensures in let bytes = c.args.bytes.now in
    let left = take_rest bytes c.loop-done.done in
    record {
      within = omega (arith, rw left at e.within, length-drop c.loop-done.done bytes, i.within);
      told = told_next (bytes_next (escape_of c.args.escapes) c.loop-done.done c.put_next-done.result bytes) i.told
          (rw left at e.puts);
    }

pub returns-then-self : goal.returns-then-self
returns-then-self g c = told_failed c.if-self.true c.loop-done.invariant.told
