use Rattle.std.proofs.Common.{sym, ◌∙◌}
use Rattle.std.proofs.Math.Nat.{mod-eq_of_lt}
use Rattle.bit_space.specs.Bits.{number, digits}
use Rattle.bit_space.proofs.Digits.{numeral_binary}
use Rattle.bit_space.proofs.number.in_order.Goals as goal

pub returns-in-Big : goal.returns-in-Big
unfolding number digits
returns-in-Big c = rw c.in-Big.is (sym (numeral_binary c.args.width c.args.cut ∙ mod-eq_of_lt c.requires.fits))
