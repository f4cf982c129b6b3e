use Rattle.std.proofs.Common.{◌+◌, ◌≤◌, length, arith}
use Rattle.std.proofs.lemmas.Grind.{common_steps}
use Rattle.std.proofs.lemmas.Result.{err_from_is_err_and}
use Rattle.spool.proofs.Streams.{loses_more}
use Rattle.spool.proofs.stream.read_first.Goals as goal

pub returns-in_err-map_err-in-Ok-clause-fault : goal.returns-in_err-map_err-in-Ok-clause-fault
returns-in_err-map_err-in-Ok-clause-fault g c =
    let p = err_from_is_err_and c.from_residual.result c.from_residual.ensures.1 in
    let le : length c.loop-page.bytes.items + c.in-Ok.count ≤ c.args.most = grind (arith, common_steps) in
    rw p.1 (loses_more _ _ _ c.loop-page.bytes.items c.read.new.buf c.in-Ok.count _ c.loop-page.invariant.taken
    c.in-Ok.ensures.bytes.0 le)
