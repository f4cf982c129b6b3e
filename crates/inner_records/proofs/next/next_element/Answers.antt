-- `next_element`: the list goes on after an element that is written as it is due, or ends as it must.
use Rattle.std.proofs.Common.{◌≡◌, ◌∙◌, ◌<◌, ◌*◌, refl, sym, ap, subst, arith}
use Rattle.std.proofs.KnownBytes.{Keeps-refl}
use Rattle.std.proofs.lemmas.Result.{err_from_is_err_and}
use Rattle.inner_records.specs.Elements.{breaks, ended_at, spent}
use Rattle.inner_records.specs.Stored.{listed_of}
use Rattle.inner_records.proofs.Mapping.{due_since, element_goes, element_not_put, ends_stopped, is_held}
use Rattle.records.specs.Next.{no_more}
use Rattle.inner_records.proofs.next.next_element.Goals as goal

pub returns-then-at-eq0-clause-err : goal.returns-then-at-eq0-clause-err
returns-then-at-eq0-clause-err g c = λ first since.
    let list = listed_of c.args.run.now c.args.elements.now.place c.args.stored.now in
    rw c.fault_at.ensures
    (no_more (breaks c.requires.on (due_since list c.args.at since c.requires.due) (spent c.if-at-eq0.true))
    (Keeps-refl _))

pub write_held-requires : goal.write_held-requires
write_held-requires g c =
    let list = listed_of c.args.run.now c.args.elements.now.place c.args.stored.now in
    is_held _ list (g.S.Space.view c.args.space.now) c.args.at c.map_next.new.stored c.in-Ok.steps
    (g.met.S.Space.short c.args.space.now) (ap (λ ask. ask.start) c.ask_for-ask.ensures) c.in-Ok.ensures.ok

pub returns-in_err-end-in-Ok-clause-err : goal.returns-in_err-end-in-Ok-clause-err
returns-in_err-end-in-Ok-clause-err g c = λ first since.
    let p = err_from_is_err_and c.from_residual.result c.from_residual.ensures.1 in
    let list = listed_of c.args.run.now c.args.elements.now.place c.args.stored.now in
    let h = c.in-Ok.ensures.ok in
    let paid : 0 < c.args.at.left = omega (arith, c.if-at-eq0.false) in
    rw (p.1, p.2)
    (element_not_put c.args.run.now _ c.args.listing list c.args.at c.map_next.new.stored c.in-Ok.steps
    (g.S.Space.view c.map_next.new.space) (g.S.Space.view c.write_held.new.space)
    (record { table = refl; id = refl; terms = refl; ask = c.ask_for-ask.ensures })
    since c.map_next.ensures.keeps c.write_held.ensures.keeps c.requires.on c.requires.due paid h
    c.args.elements.now.last _ _ _ (c.in_err-end-in-Ok.ensures.err h.value h.there))

pub returns-in_ok-end-in-Ok-clause-ok : goal.returns-in_ok-end-in-Ok-clause-ok
returns-in_ok-end-in-Ok-clause-ok g c = λ first since.
    let list = listed_of c.args.run.now c.args.elements.now.place c.args.stored.now in
    let h = c.in-Ok.ensures.ok in
    let paid : 0 < c.args.at.left = omega (arith, c.if-at-eq0.false) in
    element_goes c.args.run.now _ c.args.listing list c.args.at c.map_next.new.stored c.in-Ok.steps
    (g.S.Space.view c.map_next.new.space) (g.S.Space.view c.write_held.new.space)
    (record { table = refl; id = refl; terms = refl; ask = c.ask_for-ask.ensures })
    since c.map_next.ensures.keeps c.write_held.ensures.keeps c.requires.on c.requires.due paid h
    _ _ c.in_ok-end-in-Ok.end (c.in_ok-end-in-Ok.ensures.ok h.value h.there)

pub returns-in-Err-clause-err : goal.returns-in-Err-clause-err
returns-in-Err-clause-err g c = λ first since.
    let list = listed_of c.args.run.now c.args.elements.now.place c.args.stored.now in
    let stopped = c.in-Err.ensures.err in
    let paid : 0 < c.args.at.left = omega (arith, c.if-at-eq0.false) in
    let bits = ap (λ len. 8 * len) (c.len.ensures ∙ c.map_next.ensures.keeps.len) in
    no_more
    (ends_stopped c.args.run.now c.args.listing (g.S.Space.view c.map_next.new.space) list c.args.elements.now.last
    c.args.at c.in-Err.stop stopped.after c.element_end.result since c.map_next.ensures.keeps.failures c.requires.on
    c.requires.due paid stopped.stops
    (λ ends. c.element_end.ensures.dropped list refl refl ends
    ∙ ap (λ bits. ended_at list c.args.elements.now.last c.args.listing c.args.at.place bits) bits)
    c.element_end.ensures.stopped)
    (Keeps-refl _)
