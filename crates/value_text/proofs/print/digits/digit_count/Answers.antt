use Rattle.std.proofs.Common.{sym}
use Rattle.value_text.proofs.DigitCounts.{digits_of_power}
use Rattle.value_text.proofs.print.digits.digit_count.Goals as goal

pub returns-clause-count : goal.returns-clause-count
returns-clause-count c =
    sym (digits_of_power c.ilog10.result c.args.number c.ilog10.ensures.power_le c.ilog10.ensures.next_power_gt
    c.ranges.number.fits)
