use Rattle.std.proofs.Common.{sym, ◌∙◌}
use Rattle.poke_batch.specs.RunsUnder.{no_part, undecided}
use Rattle.poke_batch.proofs.resolve.refuse_parts.Goals as goal

-- src/resolve.rt
pub returns-in-Ok-false-clause-some : goal.returns-in-Ok-false-clause-some
returns-in-Ok-false-clause-some c = no_part (sym c.in-Ok-false.ensures ∙ c.in-Ok-false.field-0-test)

pub returns-in-Err-clause-some : goal.returns-in-Err-clause-some
returns-in-Err-clause-some c = undecided
