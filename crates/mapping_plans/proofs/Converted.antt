-- A number of a type that was read is in the range of the type.
use Rattle.std.proofs.Common.{◌≡◌, ℕ, ◌-◌, ◌^◌, ◌<◌, ◌≤◌, Bool, true, false, pos, ◌<ℤ◌, nat_abs, ap, ◌∙◌, arith}
use Rattle.std.specs.Prelude.{◌-ℤ◌, if◌then◌else◌, nat_le}
use Rattle.std.proofs.lemmas.Int.{ints}
use Rattle.std.proofs.Math.Nat.{mod-eq_of_lt}
use Rattle.bit_space.specs.Bits.{twos_complement}
use Rattle.pickle_types.specs.declared.integer.IntegerType.{IntegerType}
use Rattle.pickle_meaning.specs.Arithmetic.{modulo, with_sign, converted}
use Rattle.value_store.proofs.Moduli.{modulo_negative}

below_zero : (n q : ℕ) → n < q → (pos n -ℤ pos q) <ℤ pos 0
below_zero n q less = omega (arith, ints, less)

abs_below : (n q : ℕ) → n < q → nat_abs (pos n -ℤ pos q) ≡ q - n
abs_below n q less = omega (arith, ints, less)

digits_again : (width n : ℕ) → n < 2 ^ width → modulo width (pos n -ℤ pos (2 ^ width)) ≡ n
digits_again width n less =
    let q = 2 ^ width in
    let own = modulo_negative width (pos n -ℤ pos q) (below_zero n q less) in
    let size = abs_below n q less in
    let small : nat_abs (pos n -ℤ pos q) - 1 < q = omega (arith, size, less) in
    let rest = mod-eq_of_lt small in
    own ∙ omega (arith, rest, size, less)

positive_again : (width n : ℕ) → n < 2 ^ width → modulo width (pos n) ≡ n
unfolding modulo
positive_again width n less = mod-eq_of_lt less

-- the digits of a number with a sign
signed_again : (b : Bool) (width n : ℕ) → n < 2 ^ width →
    modulo width (if b then pos n -ℤ pos (2 ^ width) else pos n) ≡ n
signed_again true width n less = digits_again width n less
signed_again false width n less = positive_again width n less

sign_again : (b : Bool) (width n : ℕ) → n < 2 ^ width →
    modulo width (if b then twos_complement width n else pos n) ≡ n
sign_again true width n less = signed_again (nat_le (2 ^ (width - 1)) n) width n less
sign_again false width n less = positive_again width n less

pub converted_again : (type : IntegerType) (n : ℕ) → 1 ≤ type.width → n < 2 ^ type.width →
    converted type (with_sign type n) ≡ with_sign type n
unfolding converted with_sign
converted_again type n some less = ap (with_sign type) (sign_again type.signed type.width n less)
