-- Signed numbers of 128 bits, as they are passed and tested.
use Rattle.std.proofs.Common.{◌≡◌, pow_mono, ℕ, zero, suc, ◌-◌, ◌*◌, ◌<◌, ◌≤◌, ◌^◌, Bool, true, false, ℤ, pos, negsuc, ◌*ℤ◌, neg_ℤ, nat_abs, ◌/◌, ◌%◌, to_z, of_z, refl, sym, ap, ◌∙◌, arith}
use Rattle.std.proofs.Common.{lit<}
use Rattle.std.proofs.Common.{◌⊎◌, inl, inr}
use Rattle.std.proofs.lemmas.Bool.{cases_eq, eq-eqb, ne_eqb}
use Rattle.std.specs.Prelude.{nat_eq, unsigned_abs, int_div, int_rem}
use Rattle.std.proofs.lemmas.Int.{to_z-of_z, fits_signed_mul, fits_signed_from_abs}
use Rattle.std.proofs.Math.Nat.{div-le_self, mod-le}
use mir.Syntax.{w128}
use mir.Val.{SFits}
use Rattle.std.specs.Prelude.{Ok}
use Rattle.pickle_types.specs.declared.integer.IntegerType.{IntegerType}
use Rattle.pickle_types.specs.Sound.{IsSmall}
use Rattle.pickle_meaning.specs.Values.{IntegerLabel, OffsetLabel}
use Rattle.pickle_meaning.specs.Arithmetic.{Computed, is_zero, brought, modulo, brought_integer, brought_offset}

-- what holds of an argument that was passed
pub passed : {A : Type 0} (f : ℤ → A) (z : ℤ) (r : A) → SFits w128 z → r ≡ f (to_z w128 (of_z w128 z)) → r ≡ f z
passed f z r fits e = e ∙ ap f (to_z-of_z w128 z fits)

pub zero_bits : (y : ℤ) → SFits w128 y → of_z w128 y ≡ 0 → is_zero y ≡ true
zero_bits y fits e = let is : y ≡ pos 0 = sym (to_z-of_z w128 y fits) ∙ ap (to_z w128) e in rw is refl

pub some_bits : (y : ℤ) → (of_z w128 y ≡ 0 → ⊥) → is_zero y ≡ false
some_bits (pos zero) h = absurd (h refl)
some_bits (pos (suc n)) h = refl
some_bits (negsuc n) h = refl

small_abs : (s : Bool) (x : ℤ) → IsSmall s x → unsigned_abs x ≤ 2 ^ 64
small_abs true (pos n) h = omega (arith, h)
small_abs true (negsuc n) h = omega (arith, h)
small_abs false (pos n) h = omega (arith, h)
small_abs false (negsuc n) h = absurd h

signed_abs : (x : ℤ) → IsSmall true x → unsigned_abs x ≤ 2 ^ 63
signed_abs (pos n) h = omega (arith, h)
signed_abs (negsuc n) h = omega (arith, h)

pub product_fits : (x y : ℤ) → IsSmall true x → IsSmall true y → SFits w128 (x *ℤ y)
product_fits x y h k = fits_signed_mul w128 x y (2 ^ 63) (2 ^ 63) (signed_abs x h) (signed_abs y k) (lit< tt)

abs_neg : (n : ℕ) → unsigned_abs (neg_ℤ (pos n)) ≡ n
abs_neg zero = refl
abs_neg (suc n) = refl

quotient_abs : (x y : ℤ) → unsigned_abs (int_div x y) ≤ unsigned_abs x
quotient_abs (pos a) (pos b) = div-le_self a b
quotient_abs (pos a) (negsuc b) = rw (abs_neg (a / suc b)) (div-le_self a (suc b))
quotient_abs (negsuc a) (pos b) = rw (abs_neg (suc a / b)) (div-le_self (suc a) b)
quotient_abs (negsuc a) (negsuc b) = div-le_self (suc a) (suc b)

pub remainder_fits : (s : Bool) (x y : ℤ) → IsSmall s x → SFits w128 (int_rem x y)
remainder_fits s x y h = fits_signed_from_abs w128 (int_rem x y) (let a = remainder_abs x y in
    let b = small_abs s x h in let c : 2 ^ 64 < 2 ^ 127 = lit< tt in omega (arith, a, b, c))
  where
    remainder_abs : (x y : ℤ) → unsigned_abs (int_rem x y) ≤ unsigned_abs x
    remainder_abs (pos a) d = mod-le a (nat_abs d)
    remainder_abs (negsuc a) d = rw (abs_neg (suc a % nat_abs d)) (mod-le (suc a) (nat_abs d))

pub quotient_fits : (s : Bool) (x y : ℤ) → IsSmall s x → SFits w128 (int_div x y)
quotient_fits s x y h = fits_signed_from_abs w128 (int_div x y) (let a = quotient_abs x y in let b = small_abs s x h in
    let c : 2 ^ 64 < 2 ^ 127 = lit< tt in omega (arith, a, b, c))

-- what holds of a product that was passed
pub passed_product : {A : Type 0} (f : ℤ → A) (x y : ℤ) (r : A) → SFits w128 x → SFits w128 y → SFits w128 (x *ℤ y) →
    r ≡ f (to_z w128 (of_z w128 (to_z w128 (of_z w128 x) *ℤ to_z w128 (of_z w128 y)))) → r ≡ f (x *ℤ y)
passed_product f x y r fx fy fits e =
    let same : to_z w128 (of_z w128 x) *ℤ to_z w128 (of_z w128 y) ≡ x *ℤ y =
    rw (to_z-of_z w128 x fx, to_z-of_z w128 y fy) refl in
    e ∙ ap (λ z. f (to_z w128 (of_z w128 z))) same ∙ ap f (to_z-of_z w128 (x *ℤ y) fits)

pub unsigned_product : (number : IntegerType) (x y : ℤ) (low : ℕ) → number.signed ≡ false → IsSmall false x →
    IsSmall false y → low ≡ (nat_abs x * nat_abs y) % 2 ^ number.width →
    ◌≡◌ {A = Computed} (Ok (IntegerLabel (pos low) number)) (brought_integer number (x *ℤ y))
unfolding brought modulo
unsigned_product number (pos a) (pos b) low s h k e = rw (s, e) refl
unsigned_product number (pos a) (negsuc b) low s h k e = absurd k
unsigned_product number (negsuc a) y low s h k e = absurd h

pub below_64 : (s : Bool) (x : ℤ) → IsSmall s x → unsigned_abs x ≤ 2 ^ 64 - 1
below_64 true (pos n) h = omega (arith, h)
below_64 true (negsuc n) h = omega (arith, h)
below_64 false (pos n) h = omega (arith, h)
below_64 false (negsuc n) h = absurd h

pub shift_fits : (s : Bool) (x : ℤ) (n : ℕ) → IsSmall s x → n < 64 → SFits w128 (x *ℤ pos (2 ^ n))
shift_fits s x n h lt = fits_signed_mul w128 x (pos (2 ^ n)) (2 ^ 64 - 1) (2 ^ 63) (below_64 s x h)
    (let h : 2 ^ n ≤ 2 ^ 63 = pow_mono {j = 63} (omega arith) in h) (lit< tt)

pub zero_test : (x : ℤ) → SFits w128 x → nat_eq (of_z w128 x) 0 ≡ is_zero x
zero_test x fits = elim (cases_eq (of_z w128 x)
    0) [ inl e ↦ eq-eqb _ _ e ∙ sym (zero_bits x fits e) | inr ne ↦ ne_eqb _ _ ne ∙ sym (some_bits x ne) ]

pub mixed_fits : (s t : Bool) (x y : ℤ) → IsSmall s x → IsSmall t y → (s ≡ true) ⊎ (t ≡ true) → SFits w128 (x *ℤ y)
mixed_fits s t x y h k (inl e) =
    fits_signed_mul w128 x y (2 ^ 63) (2 ^ 64 - 1) (signed_abs x (rw e at h)) (below_64 t y k) (lit< tt)
mixed_fits s t x y h k (inr e) =
    fits_signed_mul w128 x y (2 ^ 64 - 1) (2 ^ 63) (below_64 s x h) (signed_abs y (rw e at k)) (lit< tt)

pub unsigned_scaled : (number : IntegerType) (unit : ℕ) (x y : ℤ) (low : ℕ) → number.signed ≡ false → IsSmall false x →
    IsSmall false y → low ≡ (nat_abs x * nat_abs y) % 2 ^ number.width →
    ◌≡◌ {A = Computed} (Ok (OffsetLabel (pos low) number unit)) (brought_offset number unit (x *ℤ y))
unfolding brought modulo
unsigned_scaled number unit (pos a) (pos b) low s h k e = rw (s, e) refl
unsigned_scaled number unit (pos a) (negsuc b) low s h k e = absurd k
unsigned_scaled number unit (negsuc a) y low s h k e = absurd h

pub small_fits : (s : Bool) (x : ℤ) → IsSmall s x → SFits w128 x
small_fits s x h =
    fits_signed_from_abs w128 x (let a = small_abs s x h in let c : 2 ^ 64 < 2 ^ 127 = lit< tt in omega (arith, a, c))
