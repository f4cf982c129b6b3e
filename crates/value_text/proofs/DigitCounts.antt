-- The digits of a number, and how many it has.
use Rattle.std.proofs.Common.{◌≡◌, ℕ, zero, suc, ◌+◌, ◌*◌, ◌/◌, ◌%◌, ◌^◌, ◌<◌, ◌≤◌, List, [], ◌∷◌, ◌++◌, take, drop, length, decimal, ◌∙◌, ap, sym, subst, arith, append_assoc, length-append, take-add}
use Rattle.itoa.proofs.Decimal.{pair, decimal_pair}
use Rattle.std.proofs.Math.Seq.{take-append_seam}
use Rattle.std.proofs.lemmas.Fmt.{decimal_digit, decimal_step, decimal_nonempty, length-decimal-le}

power_positive : (k : ℕ) → 1 ≤ 10 ^ k
power_positive zero = omega arith
power_positive (suc k) = omega (arith, power_positive k)

least_digits : (k n : ℕ) → 10 ^ k ≤ n → n < 2 ^ 64 → k + 1 ≤ length (decimal n)
least_digits zero n low high = decimal_nonempty n high
least_digits (suc k) n low high =
    let long : length (decimal n) ≡ length (decimal (n / 10)) + 1 =
    ap length (decimal_step n (omega (arith, low, power_positive k)) high) ∙ length-append _ _ in
    omega (arith, long, least_digits k (n / 10) (omega (arith, low)) (omega arith))

pub digits_of_power : (k n : ℕ) → 10 ^ k ≤ n → n < 10 * 10 ^ k → n < 2 ^ 64 → length (decimal n) ≡ k + 1
digits_of_power k n low high fits =
    omega (arith, least_digits k n low fits, length-decimal-le (suc k) n (omega arith) (omega (arith, high)) fits)

three_digits : (n : ℕ) → 100 ≤ n → n < 1000
    → decimal n ≡ (48 + n / 100) ∷ (48 + n % 100 / 10) ∷ (48 + n % 100 % 10) ∷ []
three_digits n low high =
    decimal_pair n low (omega (arith, high))
    ∙ ap (λ s. s ++ pair (n % 100)) (decimal_digit (n / 100) (omega (arith, high)))

-- three digits that are laid out in two steps
pub laid_in_steps : (n : ℕ) (line first all : List ℕ) → 100 ≤ n → n < 1000 → first ≡ line ++ (48 + n / 100) ∷ []
    → all ≡ first ++ (48 + n % 100 / 10) ∷ (48 + n % 100 % 10) ∷ [] → all ≡ line ++ decimal n
laid_in_steps n line first all low high e f =
    f ∙ ap (λ s. s ++ (48 + n % 100 / 10) ∷ (48 + n % 100 % 10) ∷ []) e ∙ append_assoc line _ _
    ∙ ap (λ s. line ++ s) (sym (three_digits n low high))

pub longest : (n : ℕ) → n < 2 ^ 64 → length (decimal n) ≤ 20
longest n h = length-decimal-le 20 n (omega arith) (omega arith) h

-- digits that are laid out right after the first `at` bytes
pub laid_out : (at from end : ℕ) (old new digits : List ℕ) → at + length digits ≡ end → from + length digits ≡ end →
    drop from new ≡ digits ++ drop end old → take from new ≡ take from old → take end new ≡ take at old ++ digits
laid_out at from end old new digits e f written before =
    let same : from ≡ at = omega (arith, e, f) in
    subst (λ k. take k new ≡ take at old ++ digits) e
    (take-add at (length digits) new
    ∙ ap (λ s. take at new ++ take (length digits) s) (subst (λ k. drop k new ≡ digits ++ drop end old) same written)
    ∙ ap (λ s. s ++ take (length digits) (digits ++ drop end old)) (subst (λ k. take k new ≡ take k old) same before)
    ∙ ap (λ s. take at old ++ s) (take-append_seam digits (drop end old)))
