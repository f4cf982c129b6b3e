use Rattle.std.proofs.Common.{rules, ◌%◌, [], ◌∷◌}
use Rattle.text_output.specs.HexDigits.{hex_digit}
use Rattle.value_text.specs.Puts.{Puts}
use Rattle.value_text.proofs.Puts.{puts_next}
use Rattle.value_text.proofs.HexTexts.{digits_end}
use Rattle.value_text.proofs.print.printer.Printer.+hex.Goals as goal

pub put_hex_digits-returns-then-most-gt0 : goal.put_hex_digits-returns-then-most-gt0
put_hex_digits-returns-then-most-gt0 g t c =
    let last : Puts g.W.Write.contents c.put_upper_digits.new.self c.put.new.self
    (hex_digit (c.args.number % 16) ∷ []) = search rules in
    rw (digits_end c.args.most c.args.number c.if-most-gt0.true) (puts_next c.put_upper_digits.ensures last)
