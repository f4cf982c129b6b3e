use Rattle.run_parts.specs.declared.outcome.Outcome.TheVariants.{Refused, NoSuchType}
use Rattle.run_parts.proofs.Sayings.{line_ends}
use Rattle.memory_bounds.specs.MemoryRuns.{no_type_to_bound, refused_memory_bounds}
use Rattle.memory_bounds.proofs.run.memory_outcome.Goals as goal

pub returns-in-Err : goal.returns-in-Err
returns-in-Err g c = line_ends _ (Refused _) _ (refused_memory_bounds c.in-Err.ensures.err)

pub returns-in-Some : goal.returns-in-Some
returns-in-Some g c =
    c.memory_found.ensures c.args.pickle.now c.args.name.now _ _ c.in-Ok.ensures.ok.1 c.in-Some.ensures.found

pub returns : goal.returns
returns g c = line_ends _ NoSuchType _ (no_type_to_bound c.in-Ok.ensures.ok.1 c.in-None.ensures.found)
