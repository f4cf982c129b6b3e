use Rattle.std.proofs.Common.{sym}
use Rattle.std.proofs.KnownBytes.{Keeps-refl}
use Rattle.jobs.specs.Due.{DueRun}
use Rattle.jobs.proofs.Chosen.{any_holds, usage_holds}
use Rattle.jobs.proofs.Holding.{run_holds}
use Rattle.jobs.specs.Jobs.{BoundsOf}
use Rattle.jobs.proofs.Explained.{usage_explains}
use Rattle.jobs.proofs.pickles.answer_bound.Goals as goal

pub returns-in-Ok-clause-holds : goal.returns-in-Ok-clause-holds
returns-in-Ok-clause-holds g c =
    let pickle = c.args.pickle.now.bytes.items in
    rw c.end_in_words.ensures.is
    (any_holds (λ type. DueRun (BoundsOf pickle type c.args.of)) _ c.in-Ok.name.now _ _ _
    (rw (sym c.deref.ensures.value) c.in-Ok.ensures.ok)
    (run_holds (BoundsOf pickle c.in-Ok.name.now c.args.of) c.outcome_of-outcome.result _ _
    (rw (sym c.deref-in-Ok.ensures.value) c.outcome_of-outcome.ensures)))

pub returns-in-Err-clause-holds : goal.returns-in-Err-clause-holds
returns-in-Err-clause-holds g c =
    let pickle = c.args.pickle.now.bytes.items in
    usage_holds (λ type. DueRun (BoundsOf pickle type c.args.of)) _ c.refuse.result _ _
    (rw (sym c.deref.ensures.value) c.in-Err.ensures.err) c.refuse.ensures (Keeps-refl _)

pub returns-in-Err-clause-says : goal.returns-in-Err-clause-says
returns-in-Err-clause-says g c = usage_explains _ _ _ c.refuse.result c.refuse.ensures
