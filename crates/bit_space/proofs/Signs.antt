-- The digits of a number in either order, and its sign.
use Rattle.std.proofs.Common.{◌≡◌, ◌↔◌, ℕ, zero, suc, ◌+◌, ◌-◌, ◌*◌, ◌^◌, ◌<◌, ◌<ℤ◌, Bool, true, false, List, [], ◌∷◌, length, take, drop, reverse, refl, sym, ap, ◌∙◌, arith}
use Rattle.std.specs.Prelude.{nat_le, if◌then◌else◌, pos, ◌-ℤ◌}
use Rattle.std.specs.List.{concat}
use Rattle.std.proofs.lemmas.Bool.{lt-leb, le-leb}
use Rattle.std.proofs.lemmas.Int.{ints}
use Rattle.std.proofs.lemmas.List.{append-nil, length-append, take-append-drop}
use Rattle.std.proofs.Math.Nat.{pow-succ'}
use Rattle.bit_space.specs.declared.order.Order.{Order}
use Rattle.bit_space.specs.declared.order.Order.TheVariants.{Big, Little}
use Rattle.bit_space.specs.Bits.{AreDigits, numeral_onto, numeral, groups_from, digits, number, signed_numeral, twos_complement}
use Rattle.bit_space.proofs.Digits.{digits_both, digits_front, digits_back, numeral_below, onto_numeral}
use Rattle.bit_space.proofs.Turned.{last_in_front}

length_if : (small : Bool) (bits : List ℕ) (rest : List (List ℕ)) →
    length (concat (reverse rest)) ≡ length (drop 8 bits) →
    length (concat (reverse (if small then bits ∷ [] else take 8 bits ∷ rest))) ≡ length bits
length_if true bits rest e = ap length (append-nil bits)
length_if false bits rest e =
    let w : length (take 8 bits) + length (drop 8 bits) ≡ length bits = sym (length-append (take 8 bits) (drop 8 bits))
    ∙ ap length (take-append-drop 8 bits) in
    rw (last_in_front (take 8 bits) rest, length-append (concat (reverse rest)) (take 8 bits), e) (omega (arith, w))

length_groups : (n : ℕ) (bits : List ℕ) → length (concat (reverse (groups_from n bits))) ≡ length bits
unfolding groups_from
length_groups zero bits = ap length (append-nil bits)
length_groups (suc n) bits =
    length_if (nat_le (length bits) 8) bits (groups_from n (drop 8 bits)) (length_groups n (drop 8 bits))

digits_if : (small : Bool) (bits : List ℕ) (rest : List (List ℕ)) → AreDigits bits → AreDigits (concat (reverse rest)) →
    AreDigits (concat (reverse (if small then bits ∷ [] else take 8 bits ∷ rest)))
digits_if true bits rest h g = rw (append-nil bits) h
digits_if false bits rest h g =
    rw (last_in_front (take 8 bits) rest) (digits_both (concat (reverse rest)) (take 8 bits) g (digits_front 8 bits h))

digits_groups : (n : ℕ) (bits : List ℕ) → AreDigits bits → AreDigits (concat (reverse (groups_from n bits)))
unfolding groups_from
digits_groups zero bits h = rw (append-nil bits) h
digits_groups (suc n) bits h = digits_if (nat_le (length bits) 8) bits (groups_from n (drop 8 bits)) h
    (digits_groups n (drop 8 bits) (digits_back 8 bits h))

-- a number has as many digits as bits
pub length-digits : (order : Order) (bits : List ℕ) → length (digits order bits) ≡ length bits
unfolding digits
length-digits Big bits = refl
length-digits Little bits = length_groups (length bits) bits

pub digits_digits : (order : Order) (bits : List ℕ) → AreDigits bits → AreDigits (digits order bits)
unfolding digits
digits_digits Big bits h = h
digits_digits Little bits h = digits_groups (length bits) bits h

-- a number is below two to the power of its bits
pub number_of_bits_below : (order : Order) (bits : List ℕ) → AreDigits bits → number order bits < 2 ^ length bits
unfolding number
number_of_bits_below order bits h =
    rw (sym (length-digits order bits)) (numeral_below (digits order bits) (digits_digits order bits h))

-- ---- two's complement

sign_plus : (n p q m : ℕ) → n < p → m ≡ n → (if nat_le p m then pos m -ℤ pos q else pos m) ≡ pos n -ℤ pos (0 * p)
sign_plus n p q m h f =
    let t : nat_le p m ≡ false = lt-leb p m (omega (arith, h, f)) in
    rw (t, f) (omega (arith, ints))

same_difference : (n k m q : ℕ) → m + k ≡ n + q → pos n -ℤ pos k ≡ pos m -ℤ pos q
same_difference n k m q e = omega (arith, ints)

sign_minus : (n p q m : ℕ) → q ≡ 2 * p → m ≡ p + n →
    (if nat_le p m then pos m -ℤ pos q else pos m) ≡ pos n -ℤ pos (1 * p)
sign_minus n p q m e f =
    let t : nat_le p m ≡ true = le-leb p m (omega (arith, f)) in
    rw t (same_difference m q n (1 * p) (omega (arith, e, f)))

-- the sign from the number without one
pub signed_from : (xs : List ℕ) → AreDigits xs → twos_complement (length xs) (numeral xs) ≡ signed_numeral xs
unfolding signed_numeral numeral_onto
signed_from [] h = refl
signed_from (zero ∷ xs) h =
    let w : suc (length xs) - 1 ≡ length xs = omega arith in
    rw w (sign_plus (numeral xs) (2 ^ length xs) (2 ^ suc (length xs)) (numeral (0 ∷ xs)) (numeral_below xs h.1) refl)
signed_from (suc zero ∷ xs) h =
    let w : suc (length xs) - 1 ≡ length xs = omega arith in
    rw w (sign_minus (numeral xs) (2 ^ length xs) (2 ^ suc (length xs)) (numeral (1 ∷ xs)) (pow-succ' 2 (length xs))
    (onto_numeral 1 xs ∙ omega arith))
signed_from (suc (suc d) ∷ xs) h = absurd (omega (arith, h.0))

pub first_digit_signs : (order : Order) (bits : List ℕ) → AreDigits bits →
    twos_complement (length bits) (number order bits) ≡ signed_numeral (digits order bits)
unfolding number
first_digit_signs order bits h =
    rw (sym (length-digits order bits)) (signed_from (digits order bits) (digits_digits order bits h))

not_below : (n p : ℕ) → (pos n -ℤ pos (0 * p)) <ℤ pos 0 → ⊥
not_below n p h = omega (arith, ints, h)

below : (n p : ℕ) → n < p → (pos n -ℤ pos (1 * p)) <ℤ pos 0
below n p h = omega (arith, ints, h)

pub negative_starts_with_one : (first : ℕ) (rest : List ℕ) → AreDigits (first ∷ rest) →
    (signed_numeral (first ∷ rest) <ℤ pos 0) ↔ (first ≡ 1)
unfolding signed_numeral
negative_starts_with_one zero rest h =
    (λ less. absurd (not_below (numeral rest) (2 ^ length rest) less), λ e. absurd (omega (arith, e)))
negative_starts_with_one (suc zero) rest h =
    (λ less. refl, λ e. below (numeral rest) (2 ^ length rest) (numeral_below rest h.1))
negative_starts_with_one (suc (suc d)) rest h = absurd (omega (arith, h.0))
