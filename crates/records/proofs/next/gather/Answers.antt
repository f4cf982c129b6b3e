-- `gather`: the text begins with what separates it from the one before, and the run writes after that.
use Rattle.std.proofs.Common.{◌≡◌, ◌∙◌, [], ◌∷◌, ℕ, List, Some, sym, ap, subst}
use Rattle.std.specs.Prelude.{Bool, if◌then◌else◌}
use Rattle.std.proofs.lemmas.Result.{err_from_is_err_and}
use Rattle.poke_batch.specs.TypeRuns.{TellsValue}
use Rattle.records.specs.Next.{IsUntold, has_outcome, lacks_memory}
use Rattle.records.specs.Records.{separator}
use Rattle.run_parts.specs.Outcomes.{EndsAs}
use Rattle.run_parts.specs.declared.outcome.Outcome.{Outcome}
use Rattle.run_parts.specs.declared.outcome.Outcome.TheVariants.{Done}
use Rattle.value_store.specs.Refs.{value_shown}
use Rattle.records.proofs.next.gather.Goals as goal

pub returns-in_err-begin-clause-err : goal.returns-in_err-begin-clause-err
returns-in_err-begin-clause-err g c =
    let p = err_from_is_err_and c.from_residual.result c.from_residual.ensures.1 in
    rw (p.1, p.2, c.in_err-begin.ensures.err) lacks_memory

pub returns-in-Done-clause-ok : goal.returns-in-Done-clause-ok
returns-in-Done-clause-ok g c =
    let begun : c.begin.new.text.items ≡ separator c.args.listing c.args.run.now.ask.now.mode c.args.before =
    c.in_ok-begin.ensures.ok ∙ ap (λ (b : Bool). if b then 10 ∷ [] else []) c.starts_apart-apart.ensures in
    subst (λ (text : List ℕ). EndsAs (TellsValue c.args.run.now (g.S.Space.view c.args.space.now)
    (g.S.Space.view c.tell_value.new.space) (value_shown c.args.value)) Done (Some text)
    (Some c.tell_value.new.out.items)) begun c.in-Done.ensures.tells

pub returns-in_default-clause-err : goal.returns-in_default-clause-err
returns-in_default-clause-err g c =
    let begun : c.begin.new.text.items ≡ separator c.args.listing c.args.run.now.ask.now.mode c.args.before =
    c.in_ok-begin.ensures.ok ∙ ap (λ (b : Bool). if b then 10 ∷ [] else []) c.starts_apart-apart.ensures in
    subst (λ (ended : Outcome). IsUntold c.args.run.now c.args.listing c.args.before (g.S.Space.view c.args.space.now)
    (g.S.Space.view c.tell_value.new.space) (value_shown c.args.value) ended) (sym c.in_memory.ensures)
    (has_outcome c.in_default.not-Done
    (subst (λ (text : List ℕ). EndsAs (TellsValue c.args.run.now (g.S.Space.view c.args.space.now)
    (g.S.Space.view c.tell_value.new.space) (value_shown c.args.value)) c.tell_value.result (Some text)
    (Some c.tell_value.new.out.items)) begun c.tell_value.ensures.tells))
