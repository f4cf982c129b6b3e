use Rattle.poke_batch.specs.Runs.{refused_pickle, no_type}
use Rattle.poke_batch.proofs.Mappings.{asked}
use Rattle.poke_batch.proofs.resolve.resolve.Goals as goal

pub returns-in-Err-clause-none : goal.returns-in-Err-clause-none
returns-in-Err-clause-none c = refused_pickle c.in-Err.ensures.err

pub returns-in-Some-clause-asked : goal.returns-in-Some-clause-asked
returns-in-Some-clause-asked c = asked c.in-Ok.ensures.ok.1 c.in-Some.ensures.found

pub returns-in-None-clause-none : goal.returns-in-None-clause-none
returns-in-None-clause-none c = no_type c.in-Ok.ensures.ok.1 c.in-None.ensures.found
