use Rattle.run_parts.proofs.Sayings.{on_err}
use Rattle.pickle_json.proofs.Replies.{refused_part, refused_whole}
use Rattle.pickle_json.proofs.check.put_explained.Goals as goal

pub returns-in_err-put_refused-clause-err : goal.returns-in_err-put_refused-clause-err
returns-in_err-put_refused-clause-err g c refuses = on_err c.from_residual.result
    (refused_part _ _ _ c.args.refusal _ _ refuses c.requires.asked c.in_err-put_refused.ensures.err)

pub returns-clause-ok : goal.returns-clause-ok
returns-clause-ok g c refuses =
    rw c.status.ensures
    (refused_whole _ _ _ c.args.refusal _ _ refuses c.requires.asked c.in_ok-put_refused.ensures.ok)
