use Rattle.pickle_types.proofs.BuiltNodes.{step_none}
use Rattle.pickle_types.proofs.check.builder.Builder.new.Goals as goal

pub returns-clause-order : goal.returns-clause-order
returns-clause-order c = step_none _ c.new.ensures.types c.new-2.ensures
