-- `gather_parts`: what the run prints, from an empty text on, if the terms request it.
use Rattle.std.proofs.Common.{◌∙◌, ℕ, List, Some, sym, subst}
use Rattle.poke_batch.specs.TypeRuns.{TellsValue}
use Rattle.run_parts.specs.Outcomes.{EndsAs}
use Rattle.run_parts.specs.declared.outcome.Outcome.{Outcome}
use Rattle.run_parts.specs.declared.outcome.Outcome.TheVariants.{Done}
use Rattle.searches.specs.Written.{LacksLine, has_outcome, no_parts, some_parts}
use Rattle.value_store.specs.Refs.{value_shown}
use Rattle.searches.proofs.line.gather_parts.Goals as goal

pub returns-then-not-has_parts-clause-ok : goal.returns-then-not-has_parts-clause-ok
returns-then-not-has_parts-clause-ok g c = no_parts (sym c.has_parts.ensures ∙ c.if-not-has_parts.true)

pub returns-in-Done-clause-ok : goal.returns-in-Done-clause-ok
returns-in-Done-clause-ok g c =
    some_parts (sym c.has_parts.ensures ∙ c.if-not-has_parts.false)
    (subst (λ (text : List ℕ). EndsAs (TellsValue c.args.run.now (g.S.Space.view c.args.space.now)
    (g.S.Space.view c.tell_value.new.space) (value_shown c.args.value)) Done (Some text)
    (Some c.tell_value.new.out.items)) c.clear.ensures.items c.in-Done.ensures.tells)

pub returns-in_default : goal.returns-in_default
returns-in_default g c = record {
  ok = tt;
  err = subst (λ (ended : Outcome). LacksLine c.args.run.now (g.S.Space.view c.args.space.now)
      (g.S.Space.view c.tell_value.new.space) (value_shown c.args.value) ended) (sym c.in_memory.ensures)
      (has_outcome (sym c.has_parts.ensures ∙ c.if-not-has_parts.false) c.in_default.not-Done
      (subst (λ (text : List ℕ). EndsAs (TellsValue c.args.run.now (g.S.Space.view c.args.space.now)
      (g.S.Space.view c.tell_value.new.space) (value_shown c.args.value)) c.tell_value.result (Some text)
      (Some c.tell_value.new.out.items)) c.clear.ensures.items c.tell_value.ensures.tells));
  keeps = c.tell_value.ensures.keeps;
}
