use Rattle.std.proofs.Common.{◌+◌, arith}
use Rattle.text_output.proofs.Parts.{Appends-keeps, part_from_take, part_step}
use Rattle.text_output.proofs.write.put.Goals as goal

pub returns-in-Ok-eq0-clause-err : goal.returns-in-Ok-eq0-clause-err
returns-in-Ok-eq0-clause-err g c =
    let i = c.loop-done.invariant in let e = c.in-Ok-eq0.ensures in
    part_from_take _ _ (c.loop-done.done + c.in-Ok-eq0.field-0) c.args.text.now (omega arith)
    (part_step _ _ _ c.loop-done.done c.in-Ok-eq0.field-0 c.args.text.now i.0 i.1 e.bound e.bytes).1

pub loop-done-preserved : goal.loop-done-preserved
loop-done-preserved g c =
    let i = c.loop-done.invariant in let e = c.in-Ok.ensures in
    part_step _ _ _ c.loop-done.done c.in-Ok.n c.args.text.now i.0 i.1 e.bound e.bytes

pub returns-in-Err-clause-err : goal.returns-in-Err-clause-err
returns-in-Err-clause-err g c =
    let i = c.loop-done.invariant in let e = c.in-Err.ensures in
    part_from_take _ _ c.loop-done.done c.args.text.now (omega arith) (Appends-keeps _ _ _ _ i.1 e.bytes)
