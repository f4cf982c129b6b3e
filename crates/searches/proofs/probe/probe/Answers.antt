-- `probe`: the attempt is a run of the type with the steps that it is allowed.
use Rattle.std.proofs.Common.{◌≤◌, refl, subst}
use Rattle.command_line.specs.declared.ask.Ask.{Ask}
use Rattle.records.proofs.Mapped.{is_held}
use Rattle.searches.proofs.Probes.{has_hit, has_miss}
use Rattle.searches.proofs.probe.probe.Goals as goal

pub held_end-end-requires : goal.held_end-end-requires
held_end-end-requires g c =
    is_held _ (g.S.Space.view c.args.space.now) _ c.in-Ok.steps (g.met.S.Space.short c.args.space.now)
    c.in-Ok.ensures.ok

pub returns-in-Ok-clause-ok : goal.returns-in-Ok-clause-ok
returns-in-Ok-clause-ok g c = λ first since.
    let h = c.in-Ok.ensures.ok in
    has_hit c.args.hunt.now first _ c.args.at c.args.sought.now c.args.id _
    (record { table = refl; same_id = refl; terms = refl; ask = c.ask_in-ask.ensures }) since _ c.in-Ok.steps _ h
    (c.held_end-end.ensures h.value h.there).is_end

pub returns-in-Ok-clause-forward : goal.returns-in-Ok-clause-forward
returns-in-Ok-clause-forward g c =
    let h = c.in-Ok.ensures.ok in
    subst (λ (ask : Ask). ask.start ≤ c.held_end-end.result) c.ask_in-ask.ensures
    (c.held_end-end.ensures h.value h.there).forward

pub returns-in-Err-clause-err : goal.returns-in-Err-clause-err
returns-in-Err-clause-err g c = λ first since.
    has_miss c.args.hunt.now first _ c.args.at c.args.sought.now c.args.id _
    (record { table = refl; same_id = refl; terms = refl; ask = c.ask_in-ask.ensures }) since _ _
    c.attempt_with.ensures.keeps c.in-Err.ensures.err
