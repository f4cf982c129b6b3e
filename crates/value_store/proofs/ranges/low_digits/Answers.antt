use Rattle.std.proofs.Common.{arith}
use Rattle.value_store.proofs.Moduli.{low_mask}
use Rattle.value_store.proofs.ranges.low_digits.Goals as goal

pub returns-clause-is : goal.returns-clause-is
returns-clause-is c = rw c.from.ensures (low_mask c.args.n c.args.width 128 (omega (arith, c.requires.most)))
