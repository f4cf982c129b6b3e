use Rattle.std.proofs.Common.{refl}
use Rattle.poke_batch.proofs.UnderTerms.{weighing_as_fault}
use Rattle.poke_batch.proofs.run.weighed_outcome.Goals as goal

pub returns-in-Memory : goal.returns-in-Memory
returns-in-Memory c = rw c.in-Memory.is refl

pub returns-in_default : goal.returns-in_default
returns-in_default c = weighing_as_fault c.args.start c.args.fault.kind c.args.fault.at c.in_default.not-Memory
