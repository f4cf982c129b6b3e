use Rattle.std.proofs.Common.{◌≡◌, ◌∙◌, ◌+◌, ◌-◌, [], Result, Err, refl, sym, ap, inl, inr, take, drop, arith, subst, drop-drop, take_all}
use Rattle.std.proofs.lemmas.Result.{err_from_is_err_and}
use Rattle.command_line.specs.Patterns.{parts_of, ArePartsText, IsPartText}
use Rattle.command_line.specs.StepCuts.{MayFollow}
use Rattle.command_line.proofs.PathTexts.{rest_is}
use Rattle.command_line.proofs.PatternTexts.{text_more, no_steps}
use Rattle.command_line.proofs.pattern.read_steps.Goals as goal

still_err : {A B E : Type 0} (a b : E) → ◌≡◌ {A = Result A E} (Err a) (Err b) → ◌≡◌ {A = Result B E} (Err a) (Err b)
still_err a b e = let same : a ≡ b = cc in ap Err same

pub loop-done-init : goal.loop-done-init
loop-done-init c = record {
  within = omega arith;
  so_far = subst (λ items. ArePartsText [] (parts_of items)) (sym c.new-steps.ensures.items) (tt, refl);
  begins = inl refl;
}

pub loop-done-preserved : goal.loop-done-preserved
loop-done-preserved c =
    let done = c.loop-done.done in
    let n = c.step_len.result in
    record {
      within = omega (arith, c.step_len.ensures.most);
      so_far = text_more c.args.text.now done (done + n) c.loop-done.steps.items c.add.new.steps.items c.in_ok-step.step
          (omega arith) c.loop-done.invariant.so_far c.in_ok-step.ensures.ok c.in_ok-add.ensures.ok;
      begins = inr (subst MayFollow (ap (drop n) (rest_is c.args.text.now done c.loop-done.invariant.within)
          ∙ drop-drop n done c.args.text.now) c.step_len.ensures.next);
    }

pub returns-in_err-step-clause-form : goal.returns-in_err-step-clause-form
returns-in_err-step-clause-form c = λ e steps h.
    let p = err_from_is_err_and c.from_residual.result c.from_residual.ensures.1 in
    let size : c.loop-done.done + c.step_len.result - c.loop-done.done ≡ c.step_len.result = omega arith in
    let rest = rest_is c.args.text.now c.loop-done.done c.loop-done.invariant.within in
    no_steps c.args.text.now _ c.loop-done.done c.step_len.result c.loop-done.steps.items c.loop-done-test.true rest
    c.loop-done.invariant.so_far
    c.loop-done.invariant.begins c.step_len.ensures.least c.step_len.ensures.most c.step_len.ensures.within
    c.step_len.ensures.next
    (λ step is. c.in_err-step.ensures.form (still_err _ _ (ap Err (sym p.2) ∙ sym p.1 ∙ e)) step
    (subst (λ text. IsPartText text step)
    (ap (take c.step_len.result) rest ∙ ap (λ k. take k (drop c.loop-done.done c.args.text.now)) (sym size)) is))
    steps h

pub returns-clause-ok : goal.returns-clause-ok
returns-clause-ok c =
    subst (λ text. ArePartsText text (parts_of c.loop-done.steps.items))
    (take_all c.loop-done.done c.args.text.now (omega arith)) c.loop-done.invariant.so_far
