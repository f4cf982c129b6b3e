use Rattle.run_parts.specs.declared.outcome.Outcome.TheVariants.{Refused, NoSuchType}
use Rattle.run_parts.proofs.Sayings.{line_ends}
use Rattle.tight_bounds.specs.TightRuns.{no_type_to_bound, refused_tight_bounds}
use Rattle.tight_bounds.proofs.run.tight_outcome.Goals as goal

pub returns-in-Err : goal.returns-in-Err
returns-in-Err g c = line_ends _ (Refused _) _ (refused_tight_bounds c.in-Err.ensures.err)

pub returns-in-Some : goal.returns-in-Some
returns-in-Some g c =
    c.tight_found.ensures c.args.pickle.now c.args.name.now _ _ c.in-Ok.ensures.ok.1 c.in-Some.ensures.found

pub returns : goal.returns
returns g c = line_ends _ NoSuchType _ (no_type_to_bound c.in-Ok.ensures.ok.1 c.in-None.ensures.found)
