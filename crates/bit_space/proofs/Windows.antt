-- A window of a space's bytes, and the numbers of its bits.
use Rattle.std.proofs.Common.{◌≡◌, ℕ, ◌+◌, ◌-◌, ◌*◌, ◌/◌, ◌%◌, ◌^◌, ◌<◌, ◌≤◌, List, [], length, take, drop, get_or, Option, Some, None, refl, sym, subst, arith}
use Rattle.std.specs.Prelude.{slice_range, option_map, bit_and}
use Rattle.std.proofs.lemmas.Nat.{one_shl, and_mask}
use Rattle.std.proofs.lemmas.List.{length-take-le, length-drop, take_all, take_more}
use Rattle.std.proofs.Math.Pow.{pow_mono}
use Rattle.bit_space.specs.declared.order.Order.{Order}
use Rattle.bit_space.specs.Bits.{binary, bits_of, AreDigits, numeral, numeral_onto, number}
use Rattle.bit_space.specs.Reading.{MayRead}
use Rattle.bit_space.proofs.Digits.{digits_front, digits_back, bits_of_digits, length-bits_of, bits_of-range, range_of_range, numeral_below, numeral_byte, numeral_range, binary_numeral_at}
use Rattle.bit_space.proofs.Turned.{number_below, short_number}

pub length-range : (xs : List ℕ) (i n : ℕ) → i + n ≤ length xs → length (slice_range xs i (i + n)) ≡ n
length-range xs i n h =
    let e : i + n - i ≡ n = omega arith in
    rw e (length-take-le n (drop i xs) (omega (arith, length-drop i xs)))

pub range_digits : (xs : List ℕ) (i j : ℕ) → AreDigits xs → AreDigits (slice_range xs i j)
range_digits xs i j h = digits_front (j - i) (drop i xs) (digits_back i xs h)

-- the numeral of some bits of a window
pub window_below : (window : List ℕ) (lead width cut : ℕ) → lead + width ≤ 8 * length window →
    cut ≡ numeral (slice_range (bits_of window) lead (lead + width)) → cut < 2 ^ width
window_below window lead width cut h e =
    let xs : List ℕ = slice_range (bits_of window) lead (lead + width) in
    let l : length xs ≡ width = length-range (bits_of window) lead width (omega (arith, length-bits_of window)) in
    rw e (subst (λ k. numeral xs < 2 ^ k) l
    (numeral_below xs (range_digits (bits_of window) lead (lead + width) (bits_of_digits window))))

pub known_bytes : (o : Option (List ℕ)) (bits : List ℕ) → option_map bits_of o ≡ Some bits →
    (bytes : List ℕ) × (o ≡ Some bytes) × (bits ≡ bits_of bytes)
known_bytes None bits e = cc
known_bytes (Some bytes) bits e = (bytes, refl, cc)

-- the bits of a window stand in the space where the window does
window_bits : (bytes window : List ℕ) (first count lead width position : ℕ)
    → window ≡ slice_range bytes first (first + count) → lead + width ≤ 8 * count → position ≡ 8 * first + lead
    → slice_range (bits_of window) lead (lead + width) ≡ slice_range (bits_of bytes) position (position + width)
window_bits bytes window first count lead width position e h p =
    let f : 8 * first + lead + width ≡ 8 * first + (lead + width) = omega arith in
    rw (e, bits_of-range bytes first (first + count), p, f)
    (range_of_range (bits_of bytes) (8 * first) (8 * (first + count)) lead (lead + width) (omega arith) (omega arith))

-- what is made of a window is a number that may be read
pub window_read : (known : Option (List ℕ)) (order : Order) (window : List ℕ)
    (first count lead width position cut n : ℕ)
    → 0 < width → length window ≡ count → lead + width ≤ 8 * count → position ≡ 8 * first + lead
    → cut ≡ numeral (slice_range (bits_of window) lead (lead + width)) → n ≡ number order (binary width cut)
    → ((bytes : List ℕ) → known ≡ Some bytes → window ≡ slice_range bytes first (first + count))
    → MayRead (option_map bits_of known) order position width n
window_read known order window first count lead width position cut n some l h p e f g =
    let xs : List ℕ = slice_range (bits_of window) lead (lead + width) in
    let below : cut < 2 ^ width = window_below window lead width cut (omega arith) e in
    let size : length xs ≡ width = length-range (bits_of window) lead width (omega (arith, length-bits_of window)) in
    let same : binary width cut ≡ xs = rw e
    (binary_numeral_at width xs size (range_digits (bits_of window) lead (lead + width) (bits_of_digits window))) in
    record {
      fits = rw f (number_below order width cut some below);
      exact = λ bits k.
          let b = known_bytes known bits k in
          rw (f, same, b.2, window_bits b.0 window first count lead width position (g b.0 b.1) h p) refl;
    }

-- the numeral of at most n bytes
pub joined_below : (xs : List ℕ) (n : ℕ) → length xs ≤ n → numeral (bits_of xs) < 2 ^ (8 * n)
joined_below xs n h =
    let l : length (bits_of xs) ≤ 8 * n = omega (arith, length-bits_of xs) in
    omega (arith, numeral_below (bits_of xs) (bits_of_digits xs), pow_mono l)

-- one more byte of a window
pub joined_more : (xs : List ℕ) (i d : ℕ) → i < length xs → get_or xs i d < 256 →
    numeral (bits_of (take (i + 1) xs)) ≡ numeral (bits_of (take i xs)) * 256 + get_or xs i d
joined_more xs i d h g = rw (take_more xs i d h) (numeral_byte (take i xs) (get_or xs i d) g)

-- the last byte of a window
pub joined_last : (xs : List ℕ) (n d : ℕ) → length xs ≡ n + 1 → get_or xs n d < 256 →
    numeral (bits_of xs) ≡ numeral (bits_of (take n xs)) * 256 + get_or xs n d
joined_last xs n d h g = subst (λ ys. numeral (bits_of ys) ≡ numeral (bits_of (take n xs)) * 256 + get_or xs n d)
    (take_all (n + 1) xs (omega (arith, h))) (joined_more xs n d (omega (arith, h)) g)

-- the numeral of nothing
pub joined_none : 0 ≡ numeral (bits_of [])
unfolding bits_of numeral_onto
joined_none = refl

-- the byte of a window of one byte is the numeral of its bits
byte_cut : (window : List ℕ) (d : ℕ) → length window ≡ 1 → get_or window 0 d < 256 →
    get_or window 0 d ≡ numeral (slice_range (bits_of window) 0 (0 + 8))
byte_cut window d h g =
    let l : length (bits_of window) ≤ 8 = omega (arith, h, length-bits_of window) in
    let e : numeral (bits_of window) ≡ numeral (bits_of []) * 256 + get_or window 0 d = joined_last window 0 d h g in
    rw (take_all 8 (bits_of window) l) (omega (arith, e, joined_none))

-- and it may be read in either order
pub byte_read : (known : Option (List ℕ)) (order : Order) (window : List ℕ) (first position d : ℕ) → length window ≡ 1
    → get_or window 0 d < 256 → position ≡ 8 * first
    → ((bytes : List ℕ) → known ≡ Some bytes → window ≡ slice_range bytes first (first + 1))
    → MayRead (option_map bits_of known) order position 8 (get_or window 0 d)
byte_read known order window first position d l h p g =
    window_read known order window first 1 0 8 position (get_or window 0 d) (get_or window 0 d) (omega arith) l
    (omega arith) (omega (arith, p)) (byte_cut window d l h)
    (sym (short_number order 8 (get_or window 0 d) (omega arith) (omega arith) h)) g

-- a mask of the low bits
pub low_bits : (n k w : ℕ) → k < w → bit_and n (1 * 2 ^ k % 2 ^ w - 1) ≡ n % 2 ^ k
low_bits n k w h = rw (one_shl k w h) (and_mask n k)

-- bits cut out of a window by a shift and a mask
pub cut_bits : (window : List ℕ) (lead width all : ℕ) → lead + width ≤ 8 * length window → width ≤ 64
    → all ≡ numeral (bits_of window)
    → bit_and (all / 2 ^ (8 * length window - lead - width)) (1 * 2 ^ width % 2 ^ 128 - 1)
    ≡ numeral (slice_range (bits_of window) lead (lead + width))
cut_bits window lead width all h g e =
    rw (low_bits (all / 2 ^ (8 * length window - lead - width)) width 128 (omega arith), e)
    (numeral_range (bits_of window) lead width (8 * length window - lead - width) (bits_of_digits window)
    (omega (arith, length-bits_of window)))
