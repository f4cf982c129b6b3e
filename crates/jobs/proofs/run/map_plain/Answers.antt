use Rattle.std.proofs.KnownBytes.{Keeps-refl}
use Rattle.std.proofs.lemmas.Result.{err_from_is_err_and}
use Rattle.jobs.specs.Aims.{of_mapping}
use Rattle.jobs.specs.Due.{of_pickle, unread}
use Rattle.jobs.specs.Jobs.{DueFile}
use Rattle.jobs.proofs.Holding.{holds_more, no_text}
use Rattle.jobs.proofs.Explained.{fault_explains, word_explains}
use Rattle.jobs.specs.FileReasons.{named_pickle, unread_pickle}
use Rattle.jobs.proofs.FileReasons.{kept_file}
use Rattle.jobs.proofs.run.map_plain.Goals as goal

pub returns-in_err-pickle-clause-holds : goal.returns-in_err-pickle-clause-holds
returns-in_err-pickle-clause-holds g c =
    let p = err_from_is_err_and c.from_residual.result c.from_residual.ensures.1 in
    rw (p.1, p.2) (no_text _ _ _ _ (unread c.in_err-pickle.ensures.err) (Keeps-refl _))

pub returns-clause-holds : goal.returns-clause-holds
returns-clause-holds g c =
    holds_more
    (DueFile (g.P.Opener.gives c.args.opener.now) c.args.why.now.asked (of_mapping c.args.mapping) c.args.path.now
    c.in_ok-pickle.pickle.bytes.items)
    _ c.map_file-ended.result _ _ (λ lines end due. of_pickle c.in_ok-pickle.ensures.ok due)
    c.map_file-ended.ensures.holds

pub returns-clause-says : goal.returns-clause-says
returns-clause-says g c =
    word_explains (g.P.Opener.gives c.args.opener.now) c.args.word.now c.in_ok-pickle.pickle c.args.why.now.asked _
    c.map_file-ended.result c.in_ok-pickle.ensures.ok c.explain_ending.ensures.says

pub returns-in_err-pickle-clause-says : goal.returns-in_err-pickle-clause-says
returns-in_err-pickle-clause-says g c =
    let p = err_from_is_err_and c.from_residual.result c.from_residual.ensures.1 in
    rw (p.1, p.2) (fault_explains _ _ _ _)

pub returns-in_err-pickle-clause-opened : goal.returns-in_err-pickle-clause-opened
returns-in_err-pickle-clause-opened g c =
    let p = err_from_is_err_and c.from_residual.result c.from_residual.ensures.1 in
    rw (p.1, p.2) (unread_pickle c.in_err-pickle.ensures.err)

pub returns-clause-opened : goal.returns-clause-opened
returns-clause-opened g c = named_pickle c.in_ok-pickle.ensures.ok
    (kept_file (g.P.Opener.gives c.args.opener.now) (of_mapping c.args.mapping) c.args.path.now
    c.in_ok-pickle.pickle.bytes.items c.args.why.now.asked _ c.map_file-ended.result _ c.map_file-ended.ensures.opened
    c.explain_ending.ensures.otherwise)
