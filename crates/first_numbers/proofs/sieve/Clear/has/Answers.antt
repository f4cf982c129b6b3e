use Rattle.std.proofs.Common.{◌/◌, arith}
use Rattle.std.proofs.lemmas.Bool.{ltb-true}
use Rattle.first_numbers.proofs.sieve.Clear.has.Goals as goal

pub returns-then-self-at : goal.returns-then-self-at
returns-then-self-at c told = record {
  at = c.args.start / 8;
  is_at = omega (arith, c.if-start-ne0.false);
  from = omega (arith, c.if-self-at.true);
  to = ltb-true _ _ told;
}
