-- Numbers modulo a power of two.
use Rattle.std.proofs.Common.{◌≡◌, pow_mono, ℕ, suc, Bool, true, false, ◌-◌, ◌*◌, ◌<◌, ◌≤◌, ◌^◌, ◌%◌, ℤ, pos, negsuc, ◌<ℤ◌, ◌≤ℤ◌, nat_abs, refl, ◌∙◌, arith}
use Rattle.std.specs.Prelude.{bit_and, ◌-ℤ◌, if◌then◌else◌, nat_le}
use Rattle.std.proofs.lemmas.Nat.{and_mask, one_shl}
use Rattle.std.proofs.lemmas.Int.{ints}
use Rattle.std.proofs.Math.Nat.{mod-eq_of_lt}
use Rattle.std.proofs.lemmas.Bool.{lt-leb}
use Rattle.bit_space.specs.Bits.{twos_complement}
use Rattle.pickle_types.specs.declared.integer.IntegerType.{IntegerType}
use Rattle.pickle_meaning.specs.Arithmetic.{modulo, with_sign, converted}

pub modulo_positive : (width : ℕ) (z : ℤ) → (z <ℤ pos 0 → ⊥) → modulo width z ≡ nat_abs z % 2 ^ width
unfolding modulo
modulo_positive width (pos n) h = refl
modulo_positive width (negsuc n) h = absurd (h (omega (arith, ints)))

pub modulo_negative : (width : ℕ) (z : ℤ) → z <ℤ pos 0 → modulo width z ≡ 2 ^ width - 1 - (nat_abs z - 1) % 2 ^ width
unfolding modulo
modulo_negative width (pos n) h = absurd (omega (arith, ints, h))
modulo_negative width (negsuc n) h = let e : suc n - 1 ≡ n = omega arith in rw e refl

-- the last digits, cut out with a mask
pub low_mask : (n k w : ℕ) → k < w → bit_and n (1 * 2 ^ k % 2 ^ w - 1) ≡ n % 2 ^ k
low_mask n k w h = rw (one_shl k w h) (and_mask n k)

no_sign : (b : Bool) (type : IntegerType) (n : ℕ) → type.signed ≡ b → n < 2 ^ (type.width - 1) →
    with_sign type n ≡ pos n
unfolding with_sign
no_sign true type n e h = rw (e, lt-leb _ _ h) refl
no_sign false type n e h = rw e refl

-- a number in the lower half of a type's range stays itself
pub lower_half : (type : IntegerType) (z : ℤ) → 1 ≤ type.width → pos 0 ≤ℤ z → z <ℤ pos (2 ^ (type.width - 1)) →
    converted type z ≡ z
unfolding converted modulo
lower_half type (pos n) some from below =
    let lt : n < 2 ^ (type.width - 1) = omega (arith, ints, below) in
    let whole : n < 2 ^ type.width =
    let p : 2 ^ (type.width - 1) ≤ 2 ^ type.width = pow_mono {j = type.width} (omega arith) in omega (arith, lt, p) in
    rw (mod-eq_of_lt whole) (no_sign type.signed type n refl lt)
lower_half type (negsuc n) some from below = absurd (omega (arith, ints, from))

-- a number of a type has the digits that it was made of

below_zero : (n q : ℕ) → n < q → (pos n -ℤ pos q) <ℤ pos 0
below_zero n q less = omega (arith, ints, less)

abs_below : (n q : ℕ) → n < q → nat_abs (pos n -ℤ pos q) ≡ q - n
abs_below n q less = omega (arith, ints, less)

negative_again : (width n : ℕ) → n < 2 ^ width → modulo width (pos n -ℤ pos (2 ^ width)) ≡ n
negative_again width n less =
    let q = 2 ^ width in
    let own = modulo_negative width (pos n -ℤ pos q) (below_zero n q less) in
    let size = abs_below n q less in
    let small : nat_abs (pos n -ℤ pos q) - 1 < q = omega (arith, size, less) in
    own ∙ omega (arith, mod-eq_of_lt small, size, less)

positive_again : (width n : ℕ) → n < 2 ^ width → modulo width (pos n) ≡ n
unfolding modulo
positive_again width n less = mod-eq_of_lt less

half_again : (upper : Bool) (width n : ℕ) → n < 2 ^ width →
    modulo width (if upper then pos n -ℤ pos (2 ^ width) else pos n) ≡ n
half_again true width n less = negative_again width n less
half_again false width n less = positive_again width n less

sign_again : (signed : Bool) (width n : ℕ) → n < 2 ^ width →
    modulo width (if signed then twos_complement width n else pos n) ≡ n
sign_again true width n less = half_again (nat_le (2 ^ (width - 1)) n) width n less
sign_again false width n less = positive_again width n less

pub digits_again : (type : IntegerType) (n : ℕ) → n < 2 ^ type.width → modulo type.width (with_sign type n) ≡ n
unfolding with_sign
digits_again type n less = sign_again type.signed type.width n less
