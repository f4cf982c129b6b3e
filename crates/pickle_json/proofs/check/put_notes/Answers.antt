use Rattle.std.proofs.Common.{arith}
use Rattle.std.proofs.lemmas.List.{drop_more}
use Rattle.std.proofs.lemmas.Result.{err_from_is_err_and}
use Rattle.pickle_json.proofs.Lists.{no_notes, more_notes, part_notes, all_notes}
use Rattle.pickle_json.proofs.check.put_notes.Goals as goal

pub loop-done-init : goal.loop-done-init
loop-done-init g c = no_notes c.args.pickle.now _ c.args.notes.now

pub loop-done-preserved : goal.loop-done-preserved
loop-done-preserved g c =
    let next = drop_more c.args.notes.now c.loop-done.done c.index-notes-done.result (omega arith) in
    let next = rw (← c.index-notes-done.is) at next in
    more_notes c.args.pickle.now c.args.notes.now c.loop-done.done c.index-notes-done.result next _ _ _
    c.loop-done.invariant c.in_ok-put_one.ensures.ok

pub returns-in_err-put_one-clause-err : goal.returns-in_err-put_one-clause-err
returns-in_err-put_one-clause-err g c =
    let next = drop_more c.args.notes.now c.loop-done.done c.index-notes-done.result (omega arith) in
    let next = rw (← c.index-notes-done.is) at next in
    let p = err_from_is_err_and c.from_residual.result c.from_residual.ensures.1 in
    rw p.1 (part_notes c.args.pickle.now c.args.notes.now c.loop-done.done c.index-notes-done.result next _ _ _
    c.loop-done.invariant c.in_err-put_one.ensures.err)

pub returns-clause-ok : goal.returns-clause-ok
returns-clause-ok g c =
    all_notes c.args.pickle.now _ _ c.args.notes.now c.loop-done.done (omega arith) c.loop-done.invariant
