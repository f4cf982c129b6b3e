use Rattle.poke_batch.specs.RunsUnder.{is_run, lacks_part}
use Rattle.poke_batch.proofs.Unresolved.{ends_unresolved}
use Rattle.run_parts.proofs.Sayings.{ends_more}
use Rattle.jobs.proofs.one_file.map_requested.Goals as goal

pub returns-in-Some-clause-ends : goal.returns-in-Some-clause-ends
returns-in-Some-clause-ends g c = λ pickle asked.
    ends_unresolved pickle _ _ _ _ _ c.in-Some.outcome (lacks_part asked c.in-Some.ensures.some)

pub returns-in-None-clause-ends : goal.returns-in-None-clause-ends
returns-in-None-clause-ends g c = λ pickle asked.
    ends_more (λ saying under. is_run asked c.in-None.ensures.none under) (c.map_new.ensures.ends pickle asked)
