-- Binary digits, what their numerals come to, and the bits of bytes.
use Rattle.std.proofs.Common.{◌≡◌, ℕ, zero, suc, ◌+◌, ◌-◌, ◌*◌, ◌/◌, ◌%◌, ◌^◌, ◌<◌, ◌≤◌, List, [], ◌∷◌, ◌++◌, length, take, drop, refl, sym, ap, ◌∙◌, arith, rules}
use Rattle.std.specs.Prelude.{slice_range}
use Rattle.std.proofs.lemmas.Nat.{pow_pos, pow-add, shr_high, mod_low, mod-pow-add, mod_below}
use Rattle.std.proofs.Math.Nat.{pow-succ', mul-add-div_right, mul-le-mul_left}
use Rattle.std.proofs.lemmas.List.{length-append, take-append-drop, drop-drop, append_assoc, append-nil, drop_at, drop-take, take-take, length-drop, length-take-le}
use Rattle.std.proofs.Math.Seq.{take-append-add}
use Rattle.std.proofs.lemmas.Grind.{common_steps}
use Rattle.bit_space.specs.Bits.{binary, bits_of, AreDigits, numeral_onto, numeral}

pub digits_both : (xs ys : List ℕ) → AreDigits xs → AreDigits ys → AreDigits (xs ++ ys)
digits_both [] ys h g = g
digits_both (x ∷ xs) ys h g = (h.0, digits_both xs ys h.1 g)

pub digits_front : (n : ℕ) (xs : List ℕ) → AreDigits xs → AreDigits (take n xs)
digits_front zero xs h = tt
digits_front (suc n) [] h = tt
digits_front (suc n) (x ∷ xs) h = (h.0, digits_front n xs h.1)

pub digits_back : (n : ℕ) (xs : List ℕ) → AreDigits xs → AreDigits (drop n xs)
digits_back zero xs h = h
digits_back (suc n) [] h = tt
digits_back (suc n) (x ∷ xs) h = digits_back n xs h.1

-- ---- numerals

numeral_of_nothing : (n p : ℕ) → p ≡ 1 → n ≡ n * p + 0
numeral_of_nothing n p e = rw e (omega arith)

numeral_step : (n d p q tail : ℕ) → q ≡ 2 * p → (2 * n + d) * p + tail ≡ n * q + ((2 * 0 + d) * p + tail)
numeral_step n d p q tail e = rw e (omega arith)

-- digits after others that came to n
pub onto_numeral : (n : ℕ) (xs : List ℕ) → numeral_onto n xs ≡ n * 2 ^ length xs + numeral xs
unfolding numeral_onto
onto_numeral n [] = numeral_of_nothing n (2 ^ 0) refl
onto_numeral n (d ∷ xs) =
    onto_numeral (2 * n + d) xs
    ∙ numeral_step n d (2 ^ length xs) (2 ^ suc (length xs)) (numeral_onto 0 xs) (pow-succ' 2 (length xs))
    ∙ ap (λ t. n * 2 ^ suc (length xs) + t) (sym (onto_numeral (2 * 0 + d) xs))

pub onto_both : (n : ℕ) (xs ys : List ℕ) → numeral_onto n (xs ++ ys) ≡ numeral_onto (numeral_onto n xs) ys
unfolding numeral_onto
onto_both n [] ys = refl
onto_both n (x ∷ xs) ys = onto_both (2 * n + x) xs ys

pub numeral_both : (xs ys : List ℕ) → numeral (xs ++ ys) ≡ numeral xs * 2 ^ length ys + numeral ys
numeral_both xs ys = onto_both 0 xs ys ∙ onto_numeral (numeral xs) ys

below_step : (d p q tail : ℕ) → q ≡ 2 * p → d < 2 → tail < p → d * p + tail < q
below_step d p q tail e h g =
    let l : p * d ≤ p * 1 = mul-le-mul_left p (omega arith) in
    omega arith

pub numeral_below : (xs : List ℕ) → AreDigits xs → numeral xs < 2 ^ length xs
unfolding numeral_onto
numeral_below [] h = omega arith
numeral_below (d ∷ xs) h =
    rw (onto_numeral (2 * 0 + d) xs) (below_step (2 * 0 + d) (2 ^ length xs) (2 ^ suc (length xs)) (numeral_onto 0 xs)
    (pow-succ' 2 (length xs)) (omega (arith, h.0)) (numeral_below xs h.1))

-- the digits between others, by their numeral
pub numeral_between : (front middle back : List ℕ) → AreDigits middle → AreDigits back →
    numeral (front ++ (middle ++ back)) / 2 ^ length back % 2 ^ length middle ≡ numeral middle
numeral_between front middle back h g =
    rw (
      sym (append_assoc front middle back),
      numeral_both (front ++ middle) back,
      shr_high (numeral (front ++ middle)) (length back) (numeral back) (numeral_below back g),
      numeral_both front middle,
    )
    (mod_low (numeral front) (length middle) (numeral middle) (numeral_below middle h))

-- ---- the digits of a number

pub length-binary : (width n : ℕ) → length (binary width n) ≡ width
unfolding binary
length-binary zero n = refl
length-binary (suc width) n = ap suc (length-binary width n)

pub binary_digits : (width n : ℕ) → AreDigits (binary width n)
unfolding binary
binary_digits zero n = tt
binary_digits (suc width) n = (mod_below (n / 2 ^ width) 2 (omega arith), binary_digits width n)

numeral_digit : (n width : ℕ) → (0 + n / 2 ^ width % 2) * 2 ^ width + n % 2 ^ width ≡ n % 2 ^ suc width
numeral_digit n width =
    let e : 1 + width ≡ suc width = omega arith in
    let h : n % 2 ^ (1 + width) ≡ (n / 2 ^ width % 2 ^ 1) * 2 ^ width + n % 2 ^ width = mod-pow-add n 1 width in
    let g : n % 2 ^ suc width ≡ (n / 2 ^ width % 2) * 2 ^ width + n % 2 ^ width = rw (sym e) h in
    omega arith

mod_one : (n : ℕ) → n % 1 ≡ 0
mod_one n = omega arith

pub numeral_binary : (width n : ℕ) → numeral (binary width n) ≡ n % 2 ^ width
unfolding binary numeral_onto
numeral_binary zero n = sym (mod_one n)
numeral_binary (suc width) n =
    onto_numeral (0 + n / 2 ^ width % 2) (binary width n)
    ∙ rw (length-binary width n, numeral_binary width n) (numeral_digit n width)

high_digit : (width i a n : ℕ) → (a * 2 ^ (i + (1 + width)) + n) / 2 ^ width % 2 ≡ n / 2 ^ width % 2
high_digit width i a n =
    let p : a * 2 ^ (i + (1 + width)) + n ≡ (a * 2 ^ i * 2) * 2 ^ width + n =
    rw (pow-add 2 i (1 + width), pow-add 2 1 width) (omega arith) in
    rw (p, mul-add-div_right (pow_pos width) (a * 2 ^ i * 2) n) (omega arith)

high_digit_at : (width j i a n : ℕ) → j ≡ i + (1 + width) → (a * 2 ^ j + n) / 2 ^ width % 2 ≡ n / 2 ^ width % 2
high_digit_at width j i a n e = rw e (high_digit width i a n)

-- digits above a place do not count below it
pub binary_high : (width j a n : ℕ) → width ≤ j → binary width (a * 2 ^ j + n) ≡ binary width n
unfolding binary
binary_high zero j a n h = refl
binary_high (suc width) j a n h =
    let e : (a * 2 ^ j + n) / 2 ^ width % 2 ≡ n / 2 ^ width % 2 =
    high_digit_at width j (j - suc width) a n (omega arith) in
    rw (e, binary_high width j a n (omega arith)) refl

pub numeral_first : (d p tail : ℕ) → (2 * 0 + d) * p + tail ≡ d * p + tail
numeral_first d p tail = omega arith

-- digits are those of their numeral
pub binary_numeral : (xs : List ℕ) → AreDigits xs → binary (length xs) (numeral xs) ≡ xs
unfolding binary numeral_onto
binary_numeral [] h = refl
binary_numeral (d ∷ xs) h =
    let e : numeral (d ∷ xs) ≡ d * 2 ^ length xs + numeral xs = onto_numeral (2 * 0 + d) xs
    ∙ numeral_first d (2 ^ length xs) (numeral xs) in
    let f : (d * 2 ^ length xs + numeral xs) / 2 ^ length xs ≡ d =
    shr_high d (length xs) (numeral xs) (numeral_below xs h.1) in
    let g : d % 2 ≡ d = omega (arith, h.0) in
    rw (e, f, g, binary_high (length xs) (length xs) d (numeral xs) (omega arith), binary_numeral xs h.1) refl

pub binary_numeral_at : (width : ℕ) (xs : List ℕ) → length xs ≡ width → AreDigits xs → binary width (numeral xs) ≡ xs
binary_numeral_at width xs e h = rw (sym e) (binary_numeral xs h)

-- ---- the bits of bytes

eight_more : (n : ℕ) → 8 + 8 * n ≡ 8 * suc n
eight_more n = omega arith

pub length-bits_of : (bytes : List ℕ) → length (bits_of bytes) ≡ 8 * length bytes
unfolding bits_of
length-bits_of [] = refl
length-bits_of (byte ∷ bytes) = length-append (binary 8 byte) (bits_of bytes)
    ∙ rw (length-binary 8 byte, length-bits_of bytes) (eight_more (length bytes))

pub bits_of_digits : (bytes : List ℕ) → AreDigits (bits_of bytes)
unfolding bits_of
bits_of_digits [] = tt
bits_of_digits (byte ∷ bytes) =
    digits_both (binary 8 byte) (bits_of bytes) (binary_digits 8 byte) (bits_of_digits bytes)

pub bits_of_both : (xs ys : List ℕ) → bits_of (xs ++ ys) ≡ bits_of xs ++ bits_of ys
unfolding bits_of
bits_of_both [] ys = refl
bits_of_both (x ∷ xs) ys = ap (λ t. binary 8 x ++ t) (bits_of_both xs ys)
    ∙ sym (append_assoc (binary 8 x) (bits_of xs) (bits_of ys))

-- one more byte at the end
pub numeral_byte : (xs : List ℕ) (byte : ℕ) → byte < 256 →
    numeral (bits_of (xs ++ byte ∷ [])) ≡ numeral (bits_of xs) * 256 + byte
unfolding bits_of
numeral_byte xs byte h =
    let e : bits_of (xs ++ byte ∷ []) ≡ bits_of xs ++ (binary 8 byte ++ []) = bits_of_both xs (byte ∷ []) in
    rw (
      e,
      append-nil (binary 8 byte),
      numeral_both (bits_of xs) (binary 8 byte),
      length-binary 8 byte,
      numeral_binary 8 byte,
    ) (omega arith)

take_nothing : (n : ℕ) → take {A = ℕ} n [] ≡ []
take_nothing n = search (rules, common_steps)

drop_nothing : (n : ℕ) → drop {A = ℕ} n [] ≡ []
drop_nothing n = search (rules, common_steps)

take_over : (m n : ℕ) (xs ys : List ℕ) → length xs ≡ m → take (m + n) (xs ++ ys) ≡ xs ++ take n ys
take_over m n xs ys e = rw (sym e) (take-append-add xs ys n)

drop_over : (m n : ℕ) (xs ys : List ℕ) → length xs ≡ m → drop (m + n) (xs ++ ys) ≡ drop n ys
drop_over m n xs ys e = sym (drop-drop n m (xs ++ ys)) ∙ ap (λ t. drop n t) (drop_at xs ys m e)

pub bits_of-take : (n : ℕ) (bytes : List ℕ) → bits_of (take n bytes) ≡ take (8 * n) (bits_of bytes)
unfolding bits_of
bits_of-take zero bytes = refl
bits_of-take (suc n) [] = sym (take_nothing (8 * suc n))
bits_of-take (suc n) (byte ∷ bytes) =
    rw (bits_of-take n bytes, sym (eight_more n))
    (sym (take_over 8 (8 * n) (binary 8 byte) (bits_of bytes) (length-binary 8 byte)))

pub bits_of-drop : (n : ℕ) (bytes : List ℕ) → bits_of (drop n bytes) ≡ drop (8 * n) (bits_of bytes)
unfolding bits_of
bits_of-drop zero bytes = refl
bits_of-drop (suc n) [] = sym (drop_nothing (8 * suc n))
bits_of-drop (suc n) (byte ∷ bytes) =
    rw (bits_of-drop n bytes, sym (eight_more n))
    (sym (drop_over 8 (8 * n) (binary 8 byte) (bits_of bytes) (length-binary 8 byte)))

pub bits_of-range : (bytes : List ℕ) (i j : ℕ) →
    bits_of (slice_range bytes i j) ≡ slice_range (bits_of bytes) (8 * i) (8 * j)
bits_of-range bytes i j =
    let e : 8 * (j - i) ≡ 8 * j - 8 * i = omega arith in
    rw (bits_of-take (j - i) (drop i bytes), bits_of-drop i bytes, e) refl

-- a part of a part
pub range_of_range : (xs : List ℕ) (i j a b : ℕ) → a ≤ b → i + b ≤ j →
    slice_range (slice_range xs i j) a b ≡ slice_range xs (i + a) (i + b)
range_of_range xs i j a b h g =
    let e : i + b - (i + a) ≡ b - a = omega arith in
    let f : j - i ≡ a + (j - i - a) = omega arith in
    let t : drop a (take (j - i) (drop i xs)) ≡ take (j - i - a) (drop a (drop i xs)) =
    ap (λ n. drop a (take n (drop i xs))) f ∙ drop-take a (j - i - a) (drop i xs) in
    let l : b - a ≤ j - i - a = omega arith in
    rw (e, t, take-take (b - a) (j - i - a) (drop a (drop i xs)) l, drop-drop a i xs) refl

numeral_part : (xs front middle back : List ℕ) (width behind : ℕ) → xs ≡ front ++ (middle ++ back)
    → length middle ≡ width → length back ≡ behind → AreDigits middle → AreDigits back
    → numeral xs / 2 ^ behind % 2 ^ width ≡ numeral middle
numeral_part xs front middle back width behind e m b h g = rw (e, sym m, sym b) (numeral_between front middle back h g)

-- the numeral of a part, from that of the whole
pub numeral_range : (xs : List ℕ) (lead width behind : ℕ) → AreDigits xs → lead + width + behind ≡ length xs →
    numeral xs / 2 ^ behind % 2 ^ width ≡ numeral (slice_range xs lead (lead + width))
numeral_range xs lead width behind h e =
    let w : lead + width - lead ≡ width = omega arith in
    let rest : length (drop lead xs) ≡ width + behind = omega (arith, length-drop lead xs) in
    rw w (numeral_part xs (take lead xs) (take width (drop lead xs)) (drop width (drop lead xs)) width behind
    (rw (take-append-drop width (drop lead xs), take-append-drop lead xs) refl)
    (length-take-le width (drop lead xs) (omega (arith, rest)))
    (omega (arith, length-drop width (drop lead xs), rest))
    (digits_front width (drop lead xs) (digits_back lead xs h))
    (digits_back width (drop lead xs) (digits_back lead xs h)))
