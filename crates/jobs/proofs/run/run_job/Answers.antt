use Rattle.jobs.proofs.Asked.{question_holds}
use Rattle.std.proofs.KnownBytes.{Keeps-refl}
use Rattle.jobs.proofs.Requested.{question_explains, question_tells}
use Rattle.jobs.proofs.FileReasons.{question_opened}
use Rattle.jobs.proofs.run.run_job.Goals as goal

pub returns-in-Some-clause-holds : goal.returns-in-Some-clause-holds
returns-in-Some-clause-holds g c =
    question_holds (g.P.Opener.gives c.args.opener.now) c.args.why.now.asked c.args.asked.now.job
    c.args.asked.now.answer c.in-Some.word.now c.in-Some.question _ _ c.answer_about.result c.in-Some.ensures.some
    c.answer_about.ensures.holds

pub returns-in-Some-clause-says : goal.returns-in-Some-clause-says
returns-in-Some-clause-says g c =
    question_explains (g.P.Opener.gives c.args.opener.now) c.args.why.now.asked _ c.args.asked.now.job
    c.args.asked.now.answer
    c.in-Some.word.now c.in-Some.question c.answer_about.result c.in-Some.ensures.some c.answer_about.ensures.says

pub returns-in-Some-clause-told : goal.returns-in-Some-clause-told
returns-in-Some-clause-told g c =
    question_tells (g.P.Opener.gives c.args.opener.now) c.args.why.now.asked c.args.asked.now.job
    c.args.asked.now.answer c.in-Some.word.now c.in-Some.question _ _ c.in-Some.ensures.some (Keeps-refl _)

pub returns-in-Some-clause-opened : goal.returns-in-Some-clause-opened
returns-in-Some-clause-opened g c =
    question_opened (g.P.Opener.gives c.args.opener.now) c.args.asked.now.job c.args.asked.now.answer
    c.in-Some.word.now c.in-Some.question c.args.why.now.asked c.answer_about.result _ c.in-Some.ensures.some
