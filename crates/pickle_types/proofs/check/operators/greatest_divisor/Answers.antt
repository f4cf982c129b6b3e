use Rattle.std.proofs.Common.{arith}
use Rattle.std.proofs.lemmas.Nat.Gcd.{IsGcd-from_zero, IsGcd-from_mod, same_from_IsGcd}
use Rattle.pickle_types.proofs.Rules.{greatest_divisor_is}
use Rattle.pickle_types.proofs.Widths.{greatest_some}
use Rattle.pickle_types.proofs.check.operators.greatest_divisor.Goals as goal

pub loop-y-preserved : goal.loop-y-preserved
loop-y-preserved c g h = c.loop-y.invariant g (IsGcd-from_mod _ _ g h)

pub returns-clause-is : goal.returns-clause-is
returns-clause-is c = same_from_IsGcd c.args.a c.args.b _ _ (c.loop-y.invariant _ (IsGcd-from_zero _ _ (omega arith)))
    (greatest_divisor_is c.args.a c.args.b)

pub returns-clause-some : goal.returns-clause-some
returns-clause-some c some = rw (returns-clause-is c) (greatest_some c.args.a c.args.b some)
