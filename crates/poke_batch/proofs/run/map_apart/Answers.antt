use Rattle.run_parts.specs.declared.outcome.Failure.TheVariants.{Memory}
use Rattle.run_parts.specs.declared.outcome.Outcome.TheVariants.{Failed}
use Rattle.poke_batch.specs.Runs.{no_memory}
use Rattle.poke_batch.specs.RunsUnder.{ended_under}
use Rattle.run_parts.proofs.Sayings.{line_ends}
use Rattle.poke_batch.proofs.run.map_apart.Goals as goal

pub returns-in-Err-clause-ends : goal.returns-in-Err-clause-ends
returns-in-Err-clause-ends g c = λ pickle asked. line_ends _ (Failed Memory) _ (ended_under no_memory)
