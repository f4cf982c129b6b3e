use Rattle.std.proofs.Common.{◌+◌, decimal, ap, sym}
use Rattle.value_text.proofs.DigitCounts.{laid_out}
use Rattle.value_text.proofs.print.digits.push_many_digits.Goals as goal

pub returns-clause-text : goal.returns-clause-text
returns-clause-text c =
    let d = c.write_digits.ensures in
    laid_out c.args.at c.write_digits.result _ c.args.bytes.now _ (decimal c.args.number)
    (ap (λ n. c.args.at + n) (sym c.digit_count.ensures.count)) d.start d.written d.before
