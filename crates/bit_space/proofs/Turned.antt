-- Little order by whole numbers: the last group first, then the groups before it, the nearest first.
use Rattle.std.proofs.Common.{◌≡◌, ℕ, zero, suc, ◌+◌, ◌-◌, ◌*◌, ◌/◌, ◌%◌, ◌^◌, ◌<◌, ◌≤◌, List, [], ◌∷◌, ◌++◌, length, take, drop, reverse, true, false, refl, sym, ◌∙◌, subst, arith}
use Rattle.std.specs.Prelude.{nat_le}
use Rattle.std.specs.List.{concat}
use Rattle.std.proofs.lemmas.Nat.{pow_pos, pow-add, shr_high, mod_low, mod_below}
use Rattle.std.proofs.lemmas.Bool.{le-leb, lt-leb}
use Rattle.std.proofs.lemmas.Grind.{reverse_onto}
use Rattle.std.proofs.lemmas.List.Folds.{concat-append}
use Rattle.std.proofs.lemmas.List.{append-nil, length-take-le, length-drop, drop-drop, take-append-drop}
use Rattle.std.proofs.Math.Seq.{take-add}
use Rattle.std.proofs.Math.Pow.{pow_mono}
use Rattle.std.proofs.Math.Nat.{mod-eq_of_lt}
use Rattle.bit_space.specs.declared.order.Order.{Order}
use Rattle.bit_space.specs.declared.order.Order.TheVariants.{Big, Little}
use Rattle.bit_space.specs.Bits.{binary, AreDigits, numeral, groups_from, digits, number}
use Rattle.bit_space.proofs.Digits.{digits_front, digits_back, numeral_below, numeral_both, binary_digits, length-binary, numeral_binary}

-- `value`, followed by the last `count` groups of 8 bits of `rest`, the last one first
unfoldable pub turned : ℕ → ℕ → ℕ → ℕ
turned zero rest value = value
turned (suc count) rest value = turned count (rest / 256) (value * 256 + rest % 256)

eight_more_bits : (count : ℕ) → 2 ^ (8 * suc count) ≡ 256 * 2 ^ (8 * count)
eight_more_bits count =
    let e : 8 * suc count ≡ 8 + 8 * count = omega arith in
    rw (e, pow-add 2 8 (8 * count)) refl

-- the front group of `rest` comes last
pub turned_front : (count b m v : ℕ) → b < 256 → m < 2 ^ (8 * count) →
    turned (suc count) (b * 2 ^ (8 * count) + m) v ≡ turned count m v * 256 + b
unfolding turned
turned_front zero b m v h g =
    let e : m ≡ 0 = omega (arith, g) in
    rw e (omega arith)
turned_front (suc count) b m v h g =
    let e : 2 ^ (8 * suc count) ≡ 256 * 2 ^ (8 * count) = eight_more_bits count in
    let q : (b * 2 ^ (8 * suc count) + m) / 256 ≡ b * 2 ^ (8 * count) + m / 256 = rw e (omega arith) in
    let r : (b * 2 ^ (8 * suc count) + m) % 256 ≡ m % 256 = rw e (omega arith) in
    let l : m / 256 < 2 ^ (8 * count) = omega (arith, g) in
    rw (q, r) (turned_front count b (m / 256) (v * 256 + m % 256) h l)

-- at most 8 bits are one group
one_group : (n last : ℕ) (xs : List ℕ) → length xs ≡ 8 * 0 + last → last ≤ 8 → groups_from n xs ≡ xs ∷ []
unfolding groups_from
one_group zero last xs e h = refl
one_group (suc n) last xs e h =
    let t : nat_le (length xs) 8 ≡ true = le-leb (length xs) 8 (omega arith) in
    rw t refl

-- more than 8 bits are a group of 8, and the groups of the rest
first_group : (n : ℕ) (xs : List ℕ) → 8 < length xs → groups_from (suc n) xs ≡ take 8 xs ∷ groups_from n (drop 8 xs)
unfolding groups_from
first_group n xs h =
    let t : nat_le (length xs) 8 ≡ false = lt-leb (length xs) 8 h in
    rw t refl

pub last_in_front : (g : List ℕ) (gs : List (List ℕ)) → concat (reverse (g ∷ gs)) ≡ concat (reverse gs) ++ g
last_in_front g gs = rw (reverse_onto gs g [], concat-append (reverse gs) (g ∷ []), append-nil g) refl

little_step : (count n last : ℕ) (xs : List ℕ) → length xs ≡ 8 * suc count + last → 0 < last → AreDigits xs
    → numeral (concat (reverse (groups_from n (drop 8 xs))))
    ≡ turned count (numeral (take (8 * count) (drop 8 xs))) (numeral (drop (8 * count) (drop 8 xs)))
    → numeral (concat (reverse (groups_from (suc n) xs)))
    ≡ turned (suc count) (numeral (take (8 * suc count) xs)) (numeral (drop (8 * suc count) xs))
little_step count n last xs e h d ih =
    let f : length (take 8 xs) ≡ 8 = length-take-le 8 xs (omega arith) in
    let r : length (drop 8 xs) ≡ 8 * count + last = omega (arith, length-drop 8 xs) in
    let m : length (take (8 * count) (drop 8 xs)) ≡ 8 * count = length-take-le (8 * count) (drop 8 xs) (omega arith) in
    let k : 8 * suc count ≡ 8 + 8 * count = omega arith in
    let t : take (8 + 8 * count) xs ≡ take 8 xs ++ take (8 * count) (drop 8 xs) = take-add 8 (8 * count) xs in
    let front : numeral (take 8 xs) < 256 =
    subst (λ j. numeral (take 8 xs) < 2 ^ j) f (numeral_below (take 8 xs) (digits_front 8 xs d)) in
    let mid : numeral (take (8 * count) (drop 8 xs)) < 2 ^ (8 * count) =
    subst (λ j. numeral (take (8 * count) (drop 8 xs)) < 2 ^ j) m
    (numeral_below (take (8 * count) (drop 8 xs)) (digits_front (8 * count) (drop 8 xs) (digits_back 8 xs d))) in
    let left : numeral (concat (reverse (groups_from (suc n) xs))) ≡ turned count
    (numeral (take (8 * count) (drop 8 xs))) (numeral (drop (8 * count) (drop 8 xs))) * 256 + numeral (take 8 xs) =
    rw (
      first_group n xs (omega arith),
      last_in_front (take 8 xs) (groups_from n (drop 8 xs)),
      numeral_both (concat (reverse (groups_from n (drop 8 xs)))) (take 8 xs),
      f,
      ih,
    ) refl in
    let right : turned (suc count) (numeral (take (8 * suc count) xs)) (numeral (drop (8 * suc count) xs))
    ≡ turned (suc count) (numeral (take 8 xs) * 2 ^ (8 * count) + numeral (take (8 * count) (drop 8 xs)))
    (numeral (drop (8 * count) (drop 8 xs))) =
    rw (k, t, numeral_both (take 8 xs) (take (8 * count) (drop 8 xs)), m, drop-drop (8 * count) 8 xs) refl in
    left ∙ sym (turned_front count (numeral (take 8 xs)) (numeral (take (8 * count) (drop 8 xs)))
    (numeral (drop (8 * count) (drop 8 xs))) front mid)
    ∙ sym right

-- what little order makes of bits, by whole numbers
pub little_from : (count n last : ℕ) (xs : List ℕ) → count ≤ n → length xs ≡ 8 * count + last → 0 < last
    → last ≤ 8 → AreDigits xs
    → numeral (concat (reverse (groups_from n xs)))
    ≡ turned count (numeral (take (8 * count) xs)) (numeral (drop (8 * count) xs))
unfolding turned
little_from zero n last xs c e h g d = rw (one_group n last xs e g, append-nil xs) refl
little_from (suc count) zero last xs c e h g d = absurd (omega arith)
little_from (suc count) (suc n) last xs c e h g d =
    little_step count n last xs e h d
    (little_from count n last (drop 8 xs) (omega arith) (omega (arith, length-drop 8 xs)) h g (digits_back 8 xs d))

parts_of_number : (front back : List ℕ) (n last : ℕ) → n ≡ numeral (front ++ back) → length back ≡ last →
    AreDigits back → (n / 2 ^ last ≡ numeral front) × (n % 2 ^ last ≡ numeral back)
parts_of_number front back n last e b h =
    rw (e, numeral_both front back, sym b) (
      shr_high (numeral front) (length back) (numeral back) (numeral_below back h),
      mod_low (numeral front) (length back) (numeral back) (numeral_below back h),
    )

-- the number in little order of bits that come to n in big order
pub little_number : (count last width n : ℕ) → width ≡ 8 * count + last → 0 < last → last ≤ 8 → n < 2 ^ width →
    number Little (binary width n) ≡ turned count (n / 2 ^ last) (n % 2 ^ last)
unfolding number digits
little_number count last width n e h g f =
    let xs : List ℕ = binary width n in
    let l : length xs ≡ 8 * count + last = length-binary width n ∙ e in
    let whole : take (8 * count) xs ++ drop (8 * count) xs ≡ xs = take-append-drop (8 * count) xs in
    let value : n ≡ numeral xs = sym (numeral_binary width n ∙ mod-eq_of_lt f) in
    let parts = parts_of_number (take (8 * count) xs) (drop (8 * count) xs) n last (rw whole value)
    (omega (arith, length-drop (8 * count) xs, l)) (digits_back (8 * count) xs (binary_digits width n)) in
    rw (parts.0, parts.1) (little_from count (length xs) last xs (omega (arith, l)) l h g (binary_digits width n))

pub turned_below : (count rest v j : ℕ) → v < 2 ^ j → turned count rest v < 2 ^ (j + 8 * count)
unfolding turned
turned_below zero rest v j h =
    let e : j + 8 * 0 ≡ j = omega arith in
    rw e h
turned_below (suc count) rest v j h =
    let e : j + 8 * suc count ≡ 8 + j + 8 * count = omega arith in
    let p : 2 ^ (8 + j) ≡ 256 * 2 ^ j = pow-add 2 8 j in
    let l : v * 256 + rest % 256 < 2 ^ (8 + j) = rw p (omega arith) in
    rw e (turned_below count (rest / 256) (v * 256 + rest % 256) (8 + j) l)

-- a number has no more digits than bits
pub number_below : (order : Order) (width n : ℕ) → 0 < width → n < 2 ^ width → number order (binary width n) < 2 ^ width
unfolding number digits
number_below Big width n h g = rw (numeral_binary width n ∙ mod-eq_of_lt g) g
number_below Little width n h g =
    let count : ℕ = (width - 1) / 8 in
    let last : ℕ = width - 8 * count in
    let e : width ≡ 8 * count + last = omega arith in
    let f : last + 8 * count ≡ width = omega arith in
    let t : turned count (n / 2 ^ last) (n % 2 ^ last) < 2 ^ (last + 8 * count) =
    turned_below count (n / 2 ^ last) (n % 2 ^ last) last (mod_below n (2 ^ last) (pow_pos last)) in
    rw (little_number count last width n e (omega arith) (omega arith) g) (rw f at t)

-- a number of at most 8 bits is the same in both orders
pub short_number : (order : Order) (width n : ℕ) → 0 < width → width ≤ 8 → n < 2 ^ width →
    number order (binary width n) ≡ n
unfolding number digits turned
short_number Big width n h g f = numeral_binary width n ∙ mod-eq_of_lt f
short_number Little width n h g f = little_number 0 width width n (omega arith) h g f ∙ mod-eq_of_lt f

-- one more group
pub turn_value : (v rest last counter : ℕ) → v < 2 ^ (last + 8 * counter) →
    v * 256 + rest % 256 < 2 ^ (last + 8 * (counter + 1))
turn_value v rest last counter h =
    let e : last + 8 * (counter + 1) ≡ 8 + (last + 8 * counter) = omega arith in
    let p : 2 ^ (8 + (last + 8 * counter)) ≡ 256 * 2 ^ (last + 8 * counter) = pow-add 2 8 (last + 8 * counter) in
    rw (e, p) (omega arith)

pub turn_more : (groups counter rest v total : ℕ) → counter < groups → turned (groups - counter) rest v ≡ total →
    turned (groups - (counter + 1)) (rest / 256) (v * 256 + rest % 256) ≡ total
unfolding turned
turn_more groups counter rest v total h e =
    let f : groups - counter ≡ suc (groups - (counter + 1)) = omega arith in
    rw f at e

pub turn_all : (groups counter rest v total : ℕ) → groups ≤ counter →
    turned (groups - counter) rest v ≡ total → v ≡ total
unfolding turned
turn_all groups counter rest v total h e =
    let f : groups - counter ≡ 0 = omega arith in
    rw f at e

-- a number of at most 64 bits
pub within_64 : (n k : ℕ) → k ≤ 64 → n < 2 ^ k → n < 2 ^ 64
within_64 n k h g = omega (arith, pow_mono {i = k} {j = 64} h)
