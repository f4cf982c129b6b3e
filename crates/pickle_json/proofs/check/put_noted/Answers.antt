use Rattle.run_parts.proofs.Sayings.{on_err}
use Rattle.pickle_json.proofs.Replies.{accepted_part, accepted_whole}
use Rattle.pickle_json.proofs.check.put_noted.Goals as goal

pub returns-in_err-put_accepted-clause-err : goal.returns-in_err-put_accepted-clause-err
returns-in_err-put_accepted-clause-err g c = on_err c.from_residual.result
    (accepted_part _ _ _ c.args._table.now _ _ c.requires.table c.requires.asked c.in_err-put_accepted.ensures.err)

pub returns-clause-ok : goal.returns-clause-ok
returns-clause-ok g c =
    accepted_whole _ _ _ c.args._table.now _ _ c.requires.table c.requires.asked c.in_ok-put_accepted.ensures.ok
