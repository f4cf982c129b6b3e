-- The first numbers of a type are read one after the other.
use Rattle.std.proofs.Common.{◌≡◌, ℕ, ◌+◌, ◌<◌, List, [], ◌∷◌, ◌++◌, Option, Bool, true, false, Result, Ok, Err, get_or, length, take, refl, sym, ap, ◌∙◌, subst, arith}
use Rattle.std.specs.Option.{option_map}
use Rattle.std.proofs.lemmas.List.{map-append, take_more}
use Rattle.bit_space.specs.Bits.{bits_of}
use Rattle.bit_space.specs.SpaceView.{Keeps, SpaceView, known_bits}
use Rattle.first_numbers.specs.declared.number.FirstNumber.{FirstNumber as HeldNumber}
use Rattle.first_numbers.specs.Held.{AreNear, IsNear, number_shown, numbers_shown}
use Rattle.first_numbers.proofs.Near.{near_at}
use Rattle.bit_space.specs.declared.order.Order.{Order}
use Rattle.bit_space.specs.Reading.{MayRead}
use Rattle.pickle_meaning.specs.Arithmetic.{Computed}
use Rattle.pickle_meaning.specs.declared.faults.MapFaultKind.{MapFaultKind}
use Rattle.pickle_meaning.specs.declared.faults.MapFaultKind.TheVariants as fault
use Rattle.pickle_meaning.specs.Clauses.{constraint, satisfied}
use Rattle.pickle_meaning.specs.Evaluation.{truth_of}
use Rattle.pickle_meaning.specs.Means.{ordered}
use Rattle.value_store.specs.Scalars.{computed_of}
use Rattle.first_numbers.specs.declared.judge.Judged.{Judged}
use Rattle.first_numbers.specs.Judged.{IsJudged, is_failed, is_untrue, told}
use Rattle.first_numbers.specs.Layouts.{FirstNumber}
use Rattle.first_numbers.specs.Reads.{FailsIn, FailsSo}
use Rattle.first_numbers.proofs.Alike.{failed_at, not_true, told_same}
use Rattle.first_numbers.proofs.Judging.{most}
use Rattle.first_numbers.specs.Runs.{AllFail, Fails, judged, none_fail, one_fails}

untrue_fails : (t : Result Bool MapFaultKind) → is_untrue t ≡ true → satisfied 0 t ≡ Err (fault.Constraint, 0)
untrue_fails (Ok false) e = refl
untrue_fails (Ok true) e = not_true e
untrue_fails (Err kind) e = not_true e

failed_fails : (c : Computed) → is_failed c ≡ true → failed_at 0 c ≡ Err (fault.Constraint, 0)
failed_fails (Ok x) e = untrue_fails (truth_of x) e
failed_fails (Err kind) e = not_true e

-- a number whose constraint comes to 0 fails
pub comes_to_zero : (x : FirstNumber) (n : ℕ) (judgement : Judged) → IsJudged judgement (judged x n) →
    is_failed (computed_of judgement.value) ≡ true → judgement.steps < most → FailsSo x n judgement.steps
unfolding constraint
comes_to_zero x n judgement h is few =
    let counts = h.steps in
    record {
      fails = record {
        is_zero = told_same 0 (judged x n).outcome
            ∙ failed_fails (told (judged x n).outcome)
            (subst (λ (c : Computed). is_failed c ≡ true) h.value is);
      };
      counts = omega (arith, counts, few);
    }

-- one more number fails
pub more_fail : (known : Option (List ℕ)) (order : Order) (s : ℕ) (xs : List FirstNumber) (x : FirstNumber) (k n : ℕ) →
    AllFail known order s xs k → MayRead known (ordered x.order order) (s + x.place) x.numeral.number.width n →
    Fails x n → AllFail known order s (xs ++ x ∷ []) (k + (judged x n).steps)
more_fail known order s [] x _ n none_fail may fails =
    subst (AllFail known order s (x ∷ [])) (omega arith) (one_fails n may fails none_fail)
more_fail known order s (y ∷ ys) x _ n (one_fails {k = k} m may' fails' rest) may fails =
    subst (AllFail known order s (y ∷ (ys ++ x ∷ []))) (omega arith)
    (one_fails m may' fails' (more_fail known order s ys x k n rest may fails))

-- one of the numbers is near the start
pub item_near : (need : ℕ) (xs ys : List HeldNumber) (i : ℕ) (x : HeldNumber) → ys ≡ xs →
    AreNear need (numbers_shown xs) → i < length ys → x ≡ get_or ys i x → IsNear need (number_shown x)
item_near need xs ys i x same near lt is =
    subst (λ y. IsNear need (number_shown y)) (sym is)
    (near_at need ys i x (subst (λ zs. AreNear need (numbers_shown zs)) (sym same) near) lt)

-- the numbers so far fail, and one more
pub next_fails : (first now : SpaceView) (order : Order) (start : ℕ) (xs : List HeldNumber) (i : ℕ) (x : HeldNumber)
    (k more : ℕ) → Keeps first now → i < length xs → x ≡ get_or xs i x →
    AllFail (known_bits first) order start (numbers_shown (take i xs)) k →
    FailsIn now order start (number_shown x) more →
    AllFail (known_bits first) order start (numbers_shown (take (i + 1) xs)) (k + more)
next_fails first now order start xs i x k more keeps lt is fail h =
    let may : MayRead (known_bits first) (ordered x.order order) (start + x.place) x.numeral.number.width h.number =
    subst
    (λ o. MayRead (option_map bits_of o) (ordered x.order order) (start + x.place) x.numeral.number.width h.number)
    keeps.bytes h.may in
    let all = more_fail (known_bits first) order start (numbers_shown (take i xs)) (number_shown x) k h.number fail may
    h.fails in
    let counted : AllFail (known_bits first) order start (numbers_shown (take i xs) ++ number_shown x ∷ []) (k + more) =
    subst (λ n. AllFail (known_bits first) order start (numbers_shown (take i xs) ++ number_shown x ∷ []) (k + n))
    (sym h.counts) all in
    let longer : take (i + 1) xs ≡ take i xs ++ x ∷ [] =
    take_more xs i x lt ∙ ap (λ y. take i xs ++ y ∷ []) (sym is) in
    subst (λ ys. AllFail (known_bits first) order start ys (k + more))
    (sym (ap numbers_shown longer ∙ map-append number_shown (take i xs) (x ∷ []))) counted
