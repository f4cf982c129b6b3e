use Rattle.std.proofs.Common.{◌≤◌, subst, sym}
use Rattle.poke_batch.specs.TypeRuns.{run_type}
use Rattle.records.specs.declared.attempt.Stopped.{Stopped}
use Rattle.searches.proofs.Missed.{miss_there}
use Rattle.searches.proofs.skips.known_stop.Goals as goal

pub returns-clause-few : goal.returns-clause-few
returns-clause-few c =
    subst (λ (stop : Stopped). stop.steps ≤ c.args.run.now.ask.now.limit) (sym c.stop_at.ensures)
    c.in_ok-miss.ensures.few

pub returns-clause-stopped : goal.returns-clause-stopped
returns-clause-stopped c = λ begun done whole sieve.
    let run = c.args.run.now in
    miss_there run begun done c.in_ok-miss.miss c.stop_at.result whole
    (c.in_ok-miss.ensures.missed (run_type run) begun run.ask.now.order sieve) c.stop_at.ensures
