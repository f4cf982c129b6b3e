-- `next_record`: the list goes on after a record that is written as it is due, or ends as it must.
use Rattle.std.proofs.Common.{◌<◌, refl, arith}
use Rattle.std.proofs.KnownBytes.{Keeps-refl}
use Rattle.std.proofs.lemmas.Result.{err_from_is_err_and}
use Rattle.records.specs.Next.{no_more}
use Rattle.records.specs.Written.{breaks, spent}
use Rattle.records.proofs.Mapped.{is_held}
use Rattle.records.proofs.Nexts.{next_faulty, next_goes, next_not_put, on_since}
use Rattle.records.proofs.next.next_record.Goals as goal

pub returns-then-at-eq0-clause-err : goal.returns-then-at-eq0-clause-err
returns-then-at-eq0-clause-err g c = λ first pickle since asked.
    rw c.fault_at.ensures
    (no_more
    (breaks (on_since c.args.listing c.args.at first (g.S.Space.view c.args.space.now) since c.requires.on)
    (spent c.if-at-eq0.true)) (Keeps-refl _))

pub write_held-requires : goal.write_held-requires
write_held-requires g c =
    is_held _ (g.S.Space.view c.args.space.now) _ c.in-Ok.steps (g.met.S.Space.short c.args.space.now)
    c.in-Ok.ensures.ok

pub returns-in_err-end-in-Ok-clause-err : goal.returns-in_err-end-in-Ok-clause-err
returns-in_err-end-in-Ok-clause-err g c = λ first pickle since asked.
    let p = err_from_is_err_and c.from_residual.result c.from_residual.ensures.1 in
    let h = c.in-Ok.ensures.ok in
    let paid : 0 < c.args.at.left = omega (arith, c.if-at-eq0.false) in
    rw (p.1, p.2)
    (next_not_put c.args.run.now c.args.listing first c.args.at h (g.S.Space.view c.attempt.new.space)
    (g.S.Space.view c.write_held.new.space)
    (record { table = refl; id = refl; terms = refl; ask = c.ask_for-ask.ensures })
    since c.attempt.ensures.keeps c.write_held.ensures.keeps paid c.requires.on pickle _ _ _
    (c.in_err-end-in-Ok.ensures.err h.value h.there))

pub returns-in_ok-end-in-Ok-clause-ok : goal.returns-in_ok-end-in-Ok-clause-ok
returns-in_ok-end-in-Ok-clause-ok g c = λ first since.
    let h = c.in-Ok.ensures.ok in
    let paid : 0 < c.args.at.left = omega (arith, c.if-at-eq0.false) in
    next_goes c.args.run.now c.args.listing first c.args.at h (g.S.Space.view c.attempt.new.space)
    (g.S.Space.view c.write_held.new.space)
    (record { table = refl; id = refl; terms = refl; ask = c.ask_for-ask.ensures })
    since c.attempt.ensures.keeps c.write_held.ensures.keeps paid c.requires.on _ _ c.in_ok-end-in-Ok.end
    (c.in_ok-end-in-Ok.ensures.ok h.value h.there)

pub returns-in-Err-clause-err : goal.returns-in-Err-clause-err
returns-in-Err-clause-err g c = λ first pickle since asked.
    let paid : 0 < c.args.at.left = omega (arith, c.if-at-eq0.false) in
    no_more
    (next_faulty c.args.run.now c.args.listing first c.args.at c.in-Err.ensures.fault
    (record { table = refl; id = refl; terms = refl; ask = c.ask_for-ask.ensures })
    since c.attempt.ensures.keeps paid c.requires.on pickle asked c.list_end.result
    c.list_end.ensures.dropped c.list_end.ensures.stopped)
    (Keeps-refl _)
