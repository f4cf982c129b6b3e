use Rattle.std.proofs.Common.{Ok}
use Rattle.std.proofs.KnownBytes.{Keeps-refl}
use Rattle.std.proofs.lemmas.Result.{err_from_is_err_and}
use Rattle.jobs.specs.Due.{of_pickle, unread}
use Rattle.jobs.specs.Given.{DueAnswer}
use Rattle.jobs.proofs.Holding.{holds_more, no_text}
use Rattle.jobs.proofs.Explained.{fault_explains, word_explains}
use Rattle.jobs.proofs.pickles.answer_about.Goals as goal

pub returns-in_err-pickle-clause-holds : goal.returns-in_err-pickle-clause-holds
returns-in_err-pickle-clause-holds g c =
    let p = err_from_is_err_and c.from_residual.result c.from_residual.ensures.1 in
    rw (p.1, p.2) (no_text _ _ _ _ (unread c.in_err-pickle.ensures.err) (Keeps-refl _))

pub returns-clause-holds : goal.returns-clause-holds
returns-clause-holds g c =
    holds_more (DueAnswer c.args.why.now.asked c.args.word.now c.args.question c.in_ok-pickle.pickle.bytes.items) _
    (Ok c.answer.result) _ _ (λ lines end due. of_pickle c.in_ok-pickle.ensures.ok due) c.answer.ensures.holds

pub returns-in_err-pickle-clause-says : goal.returns-in_err-pickle-clause-says
returns-in_err-pickle-clause-says g c =
    let p = err_from_is_err_and c.from_residual.result c.from_residual.ensures.1 in
    rw (p.1, p.2) (fault_explains _ _ _ _)

pub returns-clause-says : goal.returns-clause-says
returns-clause-says g c =
    word_explains (g.P.Opener.gives c.args.opener.now) c.args.word.now c.in_ok-pickle.pickle c.args.why.now.asked _
    (Ok c.answer.result) c.in_ok-pickle.ensures.ok c.answer.ensures.says
