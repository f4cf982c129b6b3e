use Rattle.poke_batch.specs.RunsUnder.{lacks_part}
use Rattle.poke_batch.proofs.resolve.resolve_requested.Goals as goal

-- src/resolve.rt
pub returns-in-Some-clause-none : goal.returns-in-Some-clause-none
returns-in-Some-clause-none c = lacks_part c.in_ok-table.ensures.asked c.in-Some.ensures.some
