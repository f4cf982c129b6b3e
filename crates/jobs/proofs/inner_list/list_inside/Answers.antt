use Rattle.std.proofs.Common.{arith, subst, sym, ◌≡◌, ◌∙◌, true}
use Rattle.std.proofs.KnownBytes.{Keeps-refl}
use Rattle.pickle_types.specs.Types.{PokeType}
use Rattle.poke_batch.specs.RunsUnder.{LacksPart}
use Rattle.type_parts.specs.CanHave.{can_have_requested}
use Rattle.jobs.specs.Tasks.{elements_due, no_list, no_part, no_resume, no_space}
use Rattle.jobs.proofs.Holding.{holds_more, if_not_some, no_text}
use Rattle.jobs.proofs.Inner.{found_at, is_false}
use Rattle.jobs.proofs.inner_list.list_inside.Goals as goal

pub returns-in-Ok-None-clause-lists : goal.returns-in-Ok-None-clause-lists
returns-in-Ok-None-clause-lists g c = λ asked. record {
  after = g.S.Space.view c.args.space.now;
  failures = omega arith;
  holds = no_text _ _ _ _ (no_list (sym (rw c.in-Ok-None.field-0-is at c.in-Ok-None.ensures.is))) (Keeps-refl _);
}

pub returns-in-Err-clause-lists : goal.returns-in-Err-clause-lists
returns-in-Err-clause-lists g c = λ asked. record {
  after = g.S.Space.view c.args.space.now;
  failures = omega arith;
  holds = no_text _ _ _ _ no_space (Keeps-refl _);
}

pub returns-in-Some-clause-lists : goal.returns-in-Some-clause-lists
returns-in-Some-clause-lists g c =
    let Lacks : PokeType → Type 0 = λ type. LacksPart type c.args.run.now.terms.now c.in-Some.outcome in
    λ asked. record {
      after = g.S.Space.view c.args.space.now;
      failures = omega arith;
      holds = no_text _ _ _ _
          (no_part (found_at _ c.in-Ok-Some.inner _ c.in-Ok-Some.field-0-is c.in-Ok-Some.ensures.is)
          (subst Lacks c.element_of-element.ensures.is c.in-Some.ensures.some)) (Keeps-refl _);
    }

pub returns-then-is_bounded-clause-lists : goal.returns-then-is_bounded-clause-lists
returns-then-is_bounded-clause-lists g c = λ asked. record {
  after = g.S.Space.view c.args.space.now;
  failures = omega arith;
  holds = no_text _ _ _ _
      (no_resume (found_at _ c.in-Ok-Some.inner _ c.in-Ok-Some.field-0-is c.in-Ok-Some.ensures.is)
      (is_false _ (sym c.is_bounded.ensures ∙ c.if-is_bounded.true)) (sym c.is_some.ensures ∙ c.if-is_some.true))
      (Keeps-refl _);
}

pub returns-clause-lists : goal.returns-clause-lists
returns-clause-lists g c =
    let Can : PokeType → Type 0 = λ type. can_have_requested c.args.run.now.terms.now type ≡ true in
    let does = c.list_elements.ensures.lists in
    λ asked. record {
      after = does.after;
      failures = does.failures;
      holds = holds_more _ _ _ _ _
          (λ lines end due. elements_due
          (found_at _ c.in-Ok-Some.inner _ c.in-Ok-Some.field-0-is c.in-Ok-Some.ensures.is)
          (subst Can c.element_of-element.ensures.is
          (if_not_some c.refuse_parts.result c.in_default.not-Some c.refuse_parts.ensures.none)) due)
          does.holds;
    }
