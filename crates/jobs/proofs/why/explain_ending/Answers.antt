use Rattle.std.proofs.Common.{◌∙◌, Ok, ap}
use Rattle.jobs.proofs.Explained.{others_kept, run_explains}
use Rattle.jobs.proofs.why.explain_ending.Goals as goal

pub returns-in-Ok-Run-clause-says : goal.returns-in-Ok-Run-clause-says
returns-in-Ok-Run-clause-says c =
    run_explains c.args.pickle.now c.args.asked _ c.args.ended c.in-Ok-Run.outcome
    (c.in-Ok-Run.is ∙ ap Ok (rw c.in-Ok-Run.is at c.in-Ok-Run.field-0-is))
    (λ asked explained. c.say_refusal.ensures.says explained)

pub returns-in-Ok-Run-clause-otherwise : goal.returns-in-Ok-Run-clause-otherwise
returns-in-Ok-Run-clause-otherwise c =
    others_kept c.args.ended c.in-Ok-Run.outcome _ _
    (c.in-Ok-Run.is ∙ ap Ok (rw c.in-Ok-Run.is at c.in-Ok-Run.field-0-is)) c.say_refusal.ensures.otherwise
