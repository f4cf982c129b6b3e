use Rattle.std.proofs.Common.{◌≢◌, ◌∙◌, [], ◌∷◌, rules, subst, sym}
use Rattle.std.specs.Io.KnownBytes.{Consumes}
use Rattle.jobs.proofs.LongNames.{copies_cut, copies_end, copies_more, copies_none, copies_unread, copies_whole}
use Rattle.run_parts.proofs.Sayings.{on_err}
use Rattle.jobs.proofs.long_name.put_rest.Goals as goal

pub loop-init : goal.loop-init
loop-init g c = copies_none _ _ _

pub returns-in_default-clause-ok : goal.returns-in_default-clause-ok
returns-in_default-clause-ok g c = copies_unread _ _ _ _ _ _ c.loop.invariant

pub returns-in-Some-eq0-clause-ok : goal.returns-in-Some-eq0-clause-ok
returns-in-Some-eq0-clause-ok g c =
    let before = g.L.Read.remaining c.loop.list in
    let after = g.L.Read.remaining c.next_byte.new.list in
    let read : Consumes before after (c.in-Some-eq0.field-0 ∷ []) = rw c.in-Some-eq0.is at c.in-Ok.ensures.some in
    copies_whole _ _ _ _ _ _ c.loop.invariant
    (subst (λ byte. Consumes before after (byte ∷ []))
    (sym c.in-Some-eq0.field-0-is ∙ c.in-Some-eq0.field-0-test) read)

pub returns-in-None-clause-ok : goal.returns-in-None-clause-ok
returns-in-None-clause-ok g c =
    let none = rw c.in-None.is at c.in-Ok.ensures.none in
    copies_end _ _ _ _ _ _ c.loop.invariant none.0 none.1

pub returns-clause-ok : goal.returns-clause-ok
returns-clause-ok g c = copies_unread _ _ _ _ _ _ c.loop.invariant

pub loop-preserved : goal.loop-preserved
loop-preserved g c =
    let other : c.in-Some.byte ≢ 0 = search rules in
    copies_more _ _ _ _ _ _ c.loop.invariant _ c.in-Some.byte (rw c.in-Some.is at c.in-Ok.ensures.some) other
    c.in_ok-put_part-in-Some.ensures.ok

pub returns-in_err-put_part-in-Some-clause-err : goal.returns-in_err-put_part-in-Some-clause-err
returns-in_err-put_part-in-Some-clause-err g c =
    let other : c.in-Some.byte ≢ 0 = search rules in
    on_err c.from_residual.result
    (copies_cut _ _ _ _ _ _ c.loop.invariant _ c.in-Some.byte (rw c.in-Some.is at c.in-Ok.ensures.some) other
    c.in_err-put_part-in-Some.ensures.err)
