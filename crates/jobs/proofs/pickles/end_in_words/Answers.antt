use Rattle.std.proofs.Common.{Ok, refl}
use Rattle.jobs.specs.declared.ending.Ending.TheVariants.{Run}
use Rattle.jobs.proofs.Explained.{run_explains}
use Rattle.jobs.proofs.pickles.end_in_words.Goals as goal

pub returns-clause-says : goal.returns-clause-says
returns-clause-says c =
    run_explains c.args.pickle.now c.args.why.now.asked _ (Ok (Run c.args.outcome)) c.args.outcome refl
    (λ asked explained. c.explain.ensures.says asked explained)
