use Rattle.first_numbers.specs.Held.{number_shown}
use Rattle.first_numbers.proofs.Constants.{fails_at}
use Rattle.first_numbers.proofs.reader.plain_unlisted.Goals as goal

pub returns-then-steps-lt18446744073709551615 : goal.returns-then-steps-lt18446744073709551615
returns-then-steps-lt18446744073709551615 c =
    fails_at (number_shown c.args.x.now) c.args.n c.in_ok-steps.steps c.requires.plain c.in_ok-steps.ensures
    c.if-steps-lt18446744073709551615.true
