-- `try_start`: the search goes on after a value or an attempt that was stopped, or ends as it must.
use Rattle.std.proofs.Common.{◌≡◌, ◌*◌, refl, sym, ap, subst, arith}
use Rattle.std.proofs.lemmas.Result.{err_from_is_err_and}
use Rattle.command_line.specs.declared.ask.Ask.{Ask}
use Rattle.first_numbers.proofs.Screened.{sieve_since}
use Rattle.first_numbers.specs.Screens.{IsSieve}
use Rattle.poke_batch.specs.TypeRuns.{run_type}
use Rattle.records.proofs.Mapped.{is_held}
use Rattle.searches.specs.Trial.{GoesOn}
use Rattle.searches.specs.declared.search.Reach.{Reach}
use Rattle.searches.proofs.Trials.{ends_stopped, ends_unput, finds_value, passes}
use Rattle.searches.proofs.trial.try_start.Goals as goal

pub write_held-requires : goal.write_held-requires
write_held-requires g c =
    is_held _ (g.S.Space.view c.args.space.now) _ c.in-Ok.steps (g.met.S.Space.short c.args.space.now)
    c.in-Ok.ensures.ok

pub returns-in_err-end-in-Ok-clause-err : goal.returns-in_err-end-in-Ok-clause-err
returns-in_err-end-in-Ok-clause-err g c = λ first since.
    let p = err_from_is_err_and c.from_residual.result c.from_residual.ensures.1 in
    let h = c.in-Ok.ensures.ok in
    rw (p.1, p.2)
    (ends_unput c.args.run.now c.args.search first c.args.at h (g.S.Space.view c.attempt.new.space)
    (g.S.Space.view c.write_held.new.space)
    (record { table = refl; id = refl; terms = refl; ask = c.ask_for-ask.ensures })
    since c.attempt.ensures.keeps c.write_held.ensures.keeps c.requires.on _ _ _
    (c.in_err-end-in-Ok.ensures.err h.value h.there))

pub after_value-requires-clause-forward : goal.after_value-requires-clause-forward
after_value-requires-clause-forward g c =
    let h = c.in-Ok.ensures.ok in
    let put = c.in_ok-end-in-Ok.ensures.ok h.value h.there in
    let start : c.ask_for-ask.result.start ≡ c.args.at.place =
    ap (λ (ask : Ask). ask.start) c.ask_for-ask.ensures in
    omega (arith, put.is_end, put.forward, start)

pub returns-in_ok-end-in-Ok-clause-ok : goal.returns-in_ok-end-in-Ok-clause-ok
returns-in_ok-end-in-Ok-clause-ok g c = λ first since.
    let h = c.in-Ok.ensures.ok in
    subst (λ (next : Reach). GoesOn c.args.run.now c.args.search first c.args.at (g.O.Write.contents c.args.out.now)
    (g.O.Write.contents c.write_held.new.out) next) (sym c.after_value.ensures)
    (finds_value c.args.run.now c.args.search first c.args.at h (g.S.Space.view c.attempt.new.space)
    (g.S.Space.view c.write_held.new.space)
    (record { table = refl; id = refl; terms = refl; ask = c.ask_for-ask.ensures })
    since c.attempt.ensures.keeps c.write_held.ensures.keeps c.requires.on (8 * c.len-bits.result)
    (ap (λ len. 8 * len) c.len-bits.ensures) _ _ c.in_ok-end-in-Ok.end
    (c.in_ok-end-in-Ok.ensures.ok h.value h.there))

pub returns-in-Err-clause-ok : goal.returns-in-Err-clause-ok
returns-in-Err-clause-ok g c = λ first since.
    passes c.args.run.now c.args.search first c.args.at c.in-Err.ensures.err
    (record { table = refl; id = refl; terms = refl; ask = c.ask_for-ask.ensures })
    since c.requires.on (8 * c.len-bits.result) (ap (λ len. 8 * len) c.len-bits.ensures)
    (g.O.Write.contents c.args.out.now) c.go_past.result c.go_past.ensures.ok

pub returns-in-Err-clause-err : goal.returns-in-Err-clause-err
returns-in-Err-clause-err g c = λ first since.
    ends_stopped c.args.run.now c.args.search first c.args.at c.in-Err.ensures.err
    (record { table = refl; id = refl; terms = refl; ask = c.ask_for-ask.ensures })
    since c.attempt.ensures.keeps c.requires.on (8 * c.len-bits.result) (ap (λ len. 8 * len) c.len-bits.ensures)
    (g.O.Write.contents c.args.out.now) c.go_past.result c.go_past.ensures.err

pub attempt-requires-clause-sieve : goal.attempt-requires-clause-sieve
attempt-requires-clause-sieve g c =
    subst
    (λ (ask : Ask). IsSieve (run_type c.args.run.now) (g.S.Space.view c.args.space.now) ask.order c.args.sieve.now)
    (sym c.ask_for-ask.ensures) c.requires.sieve

pub returns-in_err-end-in-Ok-clause-sieve : goal.returns-in_err-end-in-Ok-clause-sieve
returns-in_err-end-in-Ok-clause-sieve g c =
    subst (λ (ask : Ask). IsSieve (run_type c.args.run.now) (g.S.Space.view c.write_held.new.space) ask.order
    c.attempt.new.sieve) c.ask_for-ask.ensures
    (sieve_since _ _ _ c.write_held.ensures.keeps c.attempt.ensures.sieve)

pub returns-in_ok-end-in-Ok-clause-sieve : goal.returns-in_ok-end-in-Ok-clause-sieve
returns-in_ok-end-in-Ok-clause-sieve g c =
    subst (λ (ask : Ask). IsSieve (run_type c.args.run.now) (g.S.Space.view c.write_held.new.space) ask.order
    c.attempt.new.sieve) c.ask_for-ask.ensures
    (sieve_since _ _ _ c.write_held.ensures.keeps c.attempt.ensures.sieve)

pub returns-in-Err-clause-sieve : goal.returns-in-Err-clause-sieve
returns-in-Err-clause-sieve g c =
    subst (λ (ask : Ask). IsSieve (run_type c.args.run.now) (g.S.Space.view c.attempt.new.space) ask.order
    c.attempt.new.sieve) c.ask_for-ask.ensures c.attempt.ensures.sieve
