use Rattle.run_parts.proofs.Sayings.{on_err}
use Rattle.pickle_json.proofs.Replies.{unnoted_part, unnoted_whole}
use Rattle.pickle_json.proofs.check.put_unnoted.Goals as goal

pub returns-in_err-put-clause-err : goal.returns-in_err-put-clause-err
returns-in_err-put-clause-err g c = on_err c.from_residual.result
    (unnoted_part _ _ c.args._table.now _ _ c.requires.table c.requires.asked c.in_err-put.ensures.err)

pub returns-clause-ok : goal.returns-clause-ok
returns-clause-ok g c =
    unnoted_whole _ _ c.args._table.now _ _ c.requires.table c.requires.asked c.in_ok-put.ensures.ok
