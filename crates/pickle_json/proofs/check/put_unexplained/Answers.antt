use Rattle.run_parts.proofs.Sayings.{on_err}
use Rattle.pickle_json.proofs.Replies.{unexplained_part, unexplained_whole}
use Rattle.pickle_json.proofs.check.put_unexplained.Goals as goal

pub returns-in_err-put_untold-clause-err : goal.returns-in_err-put_untold-clause-err
returns-in_err-put_untold-clause-err g c refuses = on_err c.from_residual.result
    (unexplained_part _ _ c.args.refusal _ _ refuses c.requires.asked c.in_err-put_untold.ensures.err)

pub returns-clause-ok : goal.returns-clause-ok
returns-clause-ok g c refuses =
    rw c.status.ensures
    (unexplained_whole _ _ c.args.refusal _ _ refuses c.requires.asked c.in_ok-put_untold.ensures.ok)
