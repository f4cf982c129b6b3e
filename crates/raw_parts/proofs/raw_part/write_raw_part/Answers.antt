-- `write_raw_part`: without a store nothing is written.
use Rattle.std.proofs.KnownBytes.{Keeps-refl}
use Rattle.poke_batch.specs.Runs.{no_memory}
use Rattle.raw_parts.proofs.Endings.{as_without}
use Rattle.raw_parts.specs.Written.{has_no_value}
use Rattle.run_parts.specs.declared.outcome.Failure.TheVariants.{Memory}
use Rattle.run_parts.specs.declared.outcome.Outcome.TheVariants.{Failed}
use Rattle.raw_parts.proofs.raw_part.write_raw_part.Goals as goal

pub returns-in-Err-clause-writes : goal.returns-in-Err-clause-writes
returns-in-Err-clause-writes g c = λ pickle asked.
    has_no_value (as_without pickle c.args.run.now _ _ (Failed Memory) no_memory) (Keeps-refl _)
