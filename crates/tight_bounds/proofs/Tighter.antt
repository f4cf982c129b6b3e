-- The tighter bound is a bound on steps, and never above the other one.
use Rattle.std.proofs.Common.{◌≡◌, ℕ, ◌+◌, ◌*◌, ◌≤◌, length, Result, Ok, Err, refl, subst, arith}
use Rattle.pickle_meaning.specs.Answer.{in_time, too_long}
use Rattle.pickle_meaning.specs.Values.{Value, end_of}
use Rattle.pickle_meaning.specs.Clauses.{FaultAt}
use Rattle.pickle_meaning.specs.Means.{Means}
use Rattle.mapping_plans.proofs.OnBits.{outcomes_bounded}
use Rattle.mapping_plans.proofs.Widths.{means_inside}
use Rattle.tight_bounds.specs.Tight.{grain, own, fixed, rate, attempt, tight}
use Rattle.tight_bounds.specs.Laws.{AnswersAreOutcomes, OutcomesAreTight, TightIsLess}
use Rattle.tight_bounds.proofs.Sums.{in_steps}
use Rattle.tight_bounds.proofs.Spent.{Spent, grain_positive, fixed_less}
use Rattle.tight_bounds.proofs.Spending.{means_spent}

in_all : (m f r o a s k : ℕ) (x : Result Value FaultAt) → f ≤ a → ((v : Value) → x ≡ Ok v → end_of v ≤ m) →
    Spent end_of m f r o a s x k → grain * k ≤ a + r * m
in_all m f r o a s k (Ok v) less inside h = let g = h 0 m (omega arith) (inside v refl) in omega arith
in_all m f r o a s k (Err e) less inside h = let g = h 0 (omega arith) (omega arith) in omega arith

pub outcomes_tight : OutcomesAreTight
unfolding tight
outcomes_tight bits ty order levels s r k j h =
    let m = length bits in
    let c = (outcomes_bounded bits ty order levels s r k j h).steps in
    let g = in_all m (fixed ty m) (rate ty m) (own ty) (attempt ty m) s k r (fixed_less ty m)
    (λ v is. means_inside (subst (λ x. Means bits ty order levels s x k j) is h)) (means_spent h) in
    let t = in_steps grain k (attempt ty m + rate ty m * m) grain_positive g in
    omega arith

pub answers_outcomes : AnswersAreOutcomes
answers_outcomes bits ty order s limit r k j enough (in_time means within) = means
answers_outcomes bits ty order s limit _ _ _ enough (too_long {r} {k} {j} means beyond more) =
    let t = outcomes_tight bits ty order _ s r k j means in
    absurd (omega arith)

pub tight_less : TightIsLess
unfolding tight
tight_less ty m = omega arith
