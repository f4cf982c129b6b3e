-- The bytes of a number, and where they are in a file.
use Rattle.std.proofs.Common.{◌≡◌, ℕ, zero, suc, ◌+◌, ◌-◌, ◌*◌, ◌/◌, ◌%◌, ◌^◌, ◌<◌, ◌≤◌, List, [], ◌∷◌, Option, Some, None, length, take, drop, reverse, get_or, pow_mono, refl, sym, ap, ◌∙◌, subst, arith}
use Rattle.std.specs.Prelude.{slice_range}
use Rattle.std.specs.List.{concat}
use Rattle.std.specs.Option.{option_map}
use Rattle.std.proofs.lemmas.Bool.{le-leb, lt-leb}
use Rattle.std.proofs.lemmas.List.{append-nil, get_or-drop, get_or-take}
use Rattle.std.proofs.lemmas.Nat.{pow-add, pow_pos, shr-shr, shr_high}
use Rattle.std.proofs.lemmas.Option.{none-some, same_Some}
use Rattle.std.proofs.Math.Nat.{mul-lt-mul_of_pos_right}
use Rattle.std.proofs.Math.Seq.{drop-cons}
use Rattle.bit_space.specs.Bits.{binary, bits_of, digits, groups_from, number, numeral}
use Rattle.bit_space.specs.Reading.{MayRead}
use Rattle.bit_space.specs.declared.order.Order.{Order}
use Rattle.bit_space.specs.declared.order.Order.TheVariants.{Big, Little}
use Rattle.bit_space.proofs.Digits.{bits_of-drop, bits_of-range, bits_of-take, bits_of_digits, length-bits_of, numeral_binary, numeral_both, numeral_byte, numeral_range}
use Rattle.bit_space.proofs.Signs.{number_of_bits_below}
use Rattle.bit_space.proofs.Turned.{last_in_front}
use Rattle.bit_space.proofs.Windows.{joined_none, length-range}
use Rattle.first_numbers.specs.Screens.{byte_at, place_of}

-- ---- big-endian

one_byte : (byte : ℕ) → byte < 256 → numeral (bits_of (byte ∷ [])) ≡ byte
one_byte byte small =
    let more = numeral_byte [] byte small in
    let none = joined_none in
    omega (arith, more, none)

one_of : (window : List ℕ) (j d : ℕ) → j < length window → slice_range window j (j + 1) ≡ get_or window j d ∷ []
one_of window j d inside =
    let one : j + 1 - j ≡ 1 = omega arith in
    rw (one, drop-cons window j d inside) refl

byte_of_big : (window : List ℕ) (j d : ℕ) → j < length window → get_or window j d < 256 →
    numeral (bits_of window) / 2 ^ (8 * (length window - 1 - j)) % 256 ≡ get_or window j d
byte_of_big window j d inside small =
    let size = length-bits_of window in
    let cut = numeral_range (bits_of window) (8 * j) 8 (8 * (length window - 1 - j)) (bits_of_digits window)
    (omega (arith, size, inside)) in
    let end : 8 * j + 8 ≡ 8 * (j + 1) = omega arith in
    cut
    ∙ ap (λ e. numeral (slice_range (bits_of window) (8 * j) e)) end
    ∙ ap numeral (sym (bits_of-range window j (j + 1)))
    ∙ ap (λ bytes. numeral (bits_of bytes)) (one_of window j d inside)
    ∙ one_byte (get_or window j d) small

-- ---- little-endian

-- the number of bytes, the least significant first
abbrev little : List ℕ → ℕ
little [] = 0
little (b ∷ bs) = little bs * 256 + b % 256

byte_numeral : (b : ℕ) → numeral (bits_of (b ∷ [])) ≡ b % 256
unfolding bits_of
byte_numeral b = ap numeral (append-nil (binary 8 b)) ∙ numeral_binary 8 b

little_bytes : (n b : ℕ) (bs : List ℕ) → length bs ≤ n →
    numeral (concat (reverse (groups_from n (bits_of (b ∷ bs))))) ≡ little (b ∷ bs)
unfolding groups_from
little_bytes zero b [] le = ap numeral (append-nil (bits_of (b ∷ []))) ∙ (let e = byte_numeral b in omega (arith, e))
little_bytes (suc n) b [] le =
    let size : length (bits_of (b ∷ [])) ≤ 8 = let e = length-bits_of (b ∷ []) in omega (arith, e) in
    rw (le-leb (length (bits_of (b ∷ []))) 8 size)
    (ap numeral (append-nil (bits_of (b ∷ []))) ∙ (let e = byte_numeral b in omega (arith, e)))
little_bytes zero b (c ∷ cs) le = absurd (omega (arith, le))
little_bytes (suc n) b (c ∷ cs) le =
    let xs = bits_of (b ∷ c ∷ cs) in
    let front : take 8 xs ≡ bits_of (b ∷ []) = sym (bits_of-take 1 (b ∷ c ∷ cs)) in
    let back : drop 8 xs ≡ bits_of (c ∷ cs) = sym (bits_of-drop 1 (b ∷ c ∷ cs)) in
    let long : 8 < length xs = let e = length-bits_of (b ∷ c ∷ cs) in omega (arith, e) in
    let size = length-bits_of (b ∷ []) in
    let rest = little_bytes n c cs (omega (arith, le)) in
    let mine = byte_numeral b in
    rw (lt-leb (length xs) 8 long, front, back, last_in_front (bits_of (b ∷ [])) (groups_from n (bits_of (c ∷ cs))))
    (numeral_both (concat (reverse (groups_from n (bits_of (c ∷ cs))))) (bits_of (b ∷ []))
    ∙ ap (λ k. numeral (concat (reverse (groups_from n (bits_of (c ∷ cs))))) * 2 ^ k + numeral (bits_of (b ∷ []))) size
    ∙ omega (arith, rest, mine))

little_number : (b : ℕ) (bs : List ℕ) → number Little (bits_of (b ∷ bs)) ≡ little (b ∷ bs)
unfolding number digits
little_number b bs =
    little_bytes (length (bits_of (b ∷ bs))) b bs (let e = length-bits_of (b ∷ bs) in omega (arith, e))

byte_of_little : (window : List ℕ) (j d : ℕ) → j < length window → get_or window j d < 256 →
    little window / 2 ^ (8 * j) % 256 ≡ get_or window j d
byte_of_little [] j d inside small = absurd (omega (arith, inside))
byte_of_little (b ∷ bs) zero d inside small = omega (arith, small)
byte_of_little (b ∷ bs) (suc j) d inside small =
    let more : 8 * suc j ≡ 8 + 8 * j = omega arith in
    let high : (little bs * 256 + b % 256) / 256 ≡ little bs = omega arith in
    ap (λ k. (little bs * 256 + b % 256) / 2 ^ k % 256) more
    ∙ ap (λ n. n % 256) (sym (shr-shr (little bs * 256 + b % 256) 8 (8 * j)))
    ∙ ap (λ n. n / 2 ^ (8 * j) % 256) high
    ∙ byte_of_little bs j d (omega (arith, inside)) small

-- ---- in either order

byte_in : (order : Order) (window : List ℕ) (index d : ℕ) → index < length window →
    get_or window (place_of order (length window) index) d < 256 →
    byte_at (number order (bits_of window)) index ≡ get_or window (place_of order (length window) index) d
unfolding number digits
byte_in Big window index d inside small =
    let same : length window - 1 - (length window - 1 - index) ≡ index = omega (arith, inside) in
    subst (λ i. numeral (bits_of window) / 2 ^ (8 * i) % 256 ≡ get_or window (length window - 1 - index) d) same
    (byte_of_big window (length window - 1 - index) d (omega (arith, inside)) small)
byte_in Little [] index d inside small = absurd (omega (arith, inside))
byte_in Little (b ∷ bs) index d inside small =
    ap (λ n. byte_at n index) (little_number b bs) ∙ byte_of_little (b ∷ bs) index d inside small

-- a number that may be read has this byte
pub record NumberWith (known : Option (List ℕ)) (order : Order) (place width index byte : ℕ) : Type 0 where
  pub value : ℕ
  pub may : MayRead known order place width value
  pub has : byte_at value index ≡ byte

pub place_inside : (order : Order) (count index : ℕ) → index < count → place_of order count index < count
place_inside Big count index inside = omega (arith, inside)
place_inside Little count index inside = inside

-- a number of whole bytes may be read, of which this one is known
pub number_with : (known : Option (List ℕ)) (order : Order) (first count index byte : ℕ) → index < count → byte < 256 →
    ((bytes : List ℕ) → known ≡ Some bytes →
    (first + count ≤ length bytes) × (get_or bytes (first + place_of order count index) byte ≡ byte)) →
    NumberWith (option_map bits_of known) order (8 * first) (8 * count) index byte
number_with None order first count index byte inside small has =
    let eight = pow-add 2 8 (8 * index) in
    let wide : 2 ^ (8 + 8 * index) ≤ 2 ^ (8 * count) = pow_mono (omega (arith, inside)) in
    let some = pow_pos (8 * index) in
    let less = mul-lt-mul_of_pos_right small some in
    record {
      value = byte * 2 ^ (8 * index) + 0;
      may = record {
        fits = omega (arith, eight, wide, less);
        exact = λ bits e. absurd (none-some bits e);
      };
      has = ap (λ n. n % 256) (shr_high byte (8 * index) 0 some) ∙ omega (arith, small);
    }
number_with (Some bytes) order first count index byte inside small has =
    let there = has bytes refl in
    let within = there.0 in
    let window = slice_range bytes first (first + count) in
    let size : length window ≡ count = length-range bytes first count within in
    let bits = length-bits_of window in
    let k = place_of order count index in
    let k_inside = place_inside order count index inside in
    let cut : first + count - first ≡ count = omega arith in
    let read : get_or window k byte ≡ byte =
    get_or-take (first + count - first) (drop first bytes) k byte (omega (arith, k_inside))
    ∙ get_or-drop first bytes k byte ∙ there.1 in
    let here : get_or window (place_of order (length window) index) byte ≡ byte =
    ap (λ n. get_or window (place_of order n index) byte) size ∙ read in
    let below = number_of_bits_below order (bits_of window) (bits_of_digits window) in
    let end : 8 * (first + count) ≡ 8 * first + 8 * count = omega arith in
    record {
      value = number order (bits_of window);
      may = record {
        fits = subst (λ w. number order (bits_of window) < 2 ^ w) (omega (arith, bits, size)) below;
        exact = λ all e.
            ap (number order) (bits_of-range bytes first (first + count)
            ∙ ap (λ to. slice_range (bits_of bytes) (8 * first) to) end
            ∙ ap (λ xs. slice_range xs (8 * first) (8 * first + 8 * count)) (same_Some (bits_of bytes) all e));
      };
      has = byte_in order window index byte (omega (arith, inside, size))
          (subst (λ n. n < 256) (sym here) small) ∙ here;
    }
