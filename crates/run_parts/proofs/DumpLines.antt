-- Laws of the lines of a dump.
use Rattle.std.proofs.Common.{◌≡◌, ℕ, zero, suc, ◌+◌, ◌-◌, ◌*◌, ◌/◌, ◌%◌, ◌^◌, ◌<◌, ◌≤◌, List, [], ◌∷◌, ◌++◌, length, map, Some, None, refl, sym, ◌∙◌, ap, subst, arith, add-one, Option, take, drop, codes, inl, inr}
use Rattle.std.specs.Io.KnownBytes.{Appends}
use Rattle.text_output.specs.Written.{AppendsPart}
use Rattle.std.proofs.KnownBytes.{Appends-trans}
use Rattle.text_output.proofs.Parts.{part_first, part_next}
use Rattle.std.specs.Prelude.{min, slice_range, replicate, bit_and, slice_get}
use Rattle.std.specs.List.{flat_map, range_with_len}
use Rattle.std.specs.Int.Digits.{digits_of}
use Rattle.std.proofs.lemmas.List.{append_assoc, append-nil, length-map, map-append, replicate_more, length-append, flat_map_more, map-id, length-take, length-drop, drop-drop, take_min, take-take, take_all}
use Rattle.std.proofs.lemmas.Slice.{between_is}
use Rattle.std.proofs.lemmas.Bool.{cases_lt}
use Rattle.std.proofs.lemmas.List.FromFn.{map-range_with_len_more}
use Rattle.std.proofs.lemmas.Int.Digits.{digits_of_step, length-digits_of-le, number_lt, number_digits_of, all_below_base_digits_of}
use Rattle.std.proofs.lemmas.Nat.{shr-shr, and_mask, pow-add, div_below}
use Rattle.std.proofs.Math.Nat.{pow-suc, pow-le-pow_right, one-le-pow, div-one, min-eq_left, min-eq_right}
use Rattle.run_parts.specs.DumpText.{place_text, gap, column, columns, shown, line_text, lines_text}
use Rattle.text_output.specs.HexDigits.{hex_digit}

-- the last `count` hexadecimal digits of n
unfoldable pub hex_digits : ℕ → ℕ → List ℕ
hex_digits zero n = []
hex_digits (suc count) n = hex_digits count (n / 16) ++ hex_digit (n % 16) ∷ []

pow_of_16 : (k : ℕ) → 2 ^ (4 * k) ≡ 16 ^ k
pow_of_16 zero = refl
pow_of_16 (suc k) =
    let e : 4 * suc k ≡ 4 * k + 4 = omega arith in
    ap (λ n. 2 ^ n) e ∙ pow-add 2 (4 * k) 4 ∙ ap (λ n. n * 16) (pow_of_16 k) ∙ sym (pow-suc 16 k)

pow_pos_16 : (k : ℕ) → 0 < 16 ^ k
pow_pos_16 k = one-le-pow k 16 (omega arith)

sub_none : (k : ℕ) → k - 0 ≡ k
sub_none k = omega arith

hex_of : ℕ → List ℕ
hex_of n = map hex_digit (digits_of 16 n)

length_hex_of : (n : ℕ) → length (hex_of n) ≡ length (digits_of 16 n)
unfolding hex_of
length_hex_of n = length-map (digits_of 16 n) hex_digit

hex_of_step : (n : ℕ) → 0 < n → hex_of n ≡ hex_of (n / 16) ++ hex_digit (n % 16) ∷ []
unfolding hex_of
hex_of_step n h = ap (map hex_digit) (digits_of_step 16 n (omega arith) h)
    ∙ map-append hex_digit (digits_of 16 (n / 16)) (n % 16 ∷ [])

hex_of_zero : hex_of 0 ≡ []
unfolding hex_of
hex_of_zero = refl

-- so many digits of a number that has no more are its own digits after zeros
padded : (k n : ℕ) → n < 16 ^ k → hex_digits k n ≡ replicate (k - length (hex_of n)) 48 ++ hex_of n
unfolding hex_digits
padded zero n h = let e : n ≡ 0 = omega arith in rw (e, hex_of_zero) refl
padded (suc k) zero h =
    let zeros : hex_digits k 0 ≡ replicate (k - length (hex_of 0)) 48 ++ hex_of 0 = padded k 0 (pow_pos_16 k) in
    let plain : replicate (k - length (hex_of 0)) 48 ++ hex_of 0 ≡ replicate k 48 =
    rw (hex_of_zero, sub_none k) (append-nil (replicate k 48)) in
    ap (λ s. s ++ 48 ∷ []) (zeros ∙ plain) ∙ replicate_more k 48
    ∙ rw (hex_of_zero, add-one, sub_none) (sym (append-nil (replicate (suc k) 48)))
padded (suc k) (suc m) h =
    let low : suc m / 16 < 16 ^ k =
    div_below (suc m) 16 (16 ^ k) (omega arith) (subst (λ x. suc m < x) (pow-suc 16 k) h) in
    let front = padded k (suc m / 16) low in
    let split : hex_of (suc m) ≡ hex_of (suc m / 16) ++ hex_digit (suc m % 16) ∷ [] =
    hex_of_step (suc m) (omega arith) in
    let len : length (hex_of (suc m)) ≡ length (hex_of (suc m / 16)) + 1 =
    ap length split ∙ length-append (hex_of (suc m / 16)) (hex_digit (suc m % 16) ∷ []) in
    let same : suc k - length (hex_of (suc m)) ≡ k - length (hex_of (suc m / 16)) = omega arith in
    ap (λ s. s ++ hex_digit (suc m % 16) ∷ []) front
    ∙ append_assoc (replicate (k - length (hex_of (suc m / 16))) 48) (hex_of (suc m / 16)) (hex_digit (suc m % 16) ∷ [])
    ∙ ap (λ s. replicate (k - length (hex_of (suc m / 16))) 48 ++ s) (sym split)
    ∙ ap (λ n. replicate n 48 ++ hex_of (suc m)) (sym same)

-- a number that needs so many digits has as many
length_needed : (count n : ℕ) → n < 16 ^ count → (0 < count → 16 ^ (count - 1) ≤ n) → length (hex_of n) ≡ count
length_needed count n fits needed =
    let most : length (digits_of 16 n) ≤ count = length-digits_of-le 16 count n (omega arith) fits in
    let least : n < 16 ^ length (digits_of 16 n) =
    subst (λ x. x < 16 ^ length (digits_of 16 n)) (number_digits_of 16 n (omega arith))
    (number_lt 16 (digits_of 16 n) (all_below_base_digits_of 16 n (omega arith))) in
    length_hex_of n ∙ squeeze count (length (digits_of 16 n)) most (λ small.
    let up : 16 ^ length (digits_of 16 n) ≤ 16 ^ (count - 1) = pow-le-pow_right {n = 16} (omega arith) (omega arith) in
    let low : 16 ^ (count - 1) ≤ n = needed (omega arith) in
    omega arith)
  where
    squeeze : (a b : ℕ) → b ≤ a → ¬ (b < a) → b ≡ a
    squeeze a b h k = omega arith

-- the digits of a place, by their count
pub place_is : (count place : ℕ) → 8 ≤ count → place < 2 ^ (4 * count) → (8 < count → 2 ^ (4 * (count - 1)) ≤ place) →
    hex_digits count place ≡ place_text place
unfolding place_text hex_of
place_is count place least fits needed =
    let fits' : place < 16 ^ count = subst (λ x. place < x) (pow_of_16 count) fits in
    let long : 8 < count → length (hex_of place) ≡ count =
    λ h. length_needed count place fits' (λ _. subst (λ x. x ≤ place) (pow_of_16 (count - 1)) (needed h)) in
    let zeros : count - length (hex_of place) ≡ 8 - length (hex_of place) =
    same_zeros count (length (hex_of place)) least long in
    padded count place fits' ∙ ap (λ n. replicate n 48 ++ hex_of place) zeros
  where
    same_zeros : (count n : ℕ) → 8 ≤ count → (8 < count → n ≡ count) → count - n ≡ 8 - n
    same_zeros count n least long = grind arith

-- one digit more
pub digit_more : (place count i : ℕ) → i < count → hex_digits (i + 1) (place / 2 ^ (4 * (count - (i + 1))))
    ≡ hex_digits i (place / 2 ^ (4 * (count - i))) ++ hex_digit (bit_and (place / 2 ^ (4 * (count - 1 - i))) 15) ∷ []
unfolding hex_digits
digit_more place count i h =
    let at : count - suc i ≡ count - 1 - i = omega arith in
    let up : 4 * (count - suc i) + 4 ≡ 4 * (count - i) = omega arith in
    let front : place / 2 ^ (4 * (count - suc i)) / 16 ≡ place / 2 ^ (4 * (count - i)) =
    shr-shr place (4 * (count - suc i)) 4 ∙ ap (λ k. place / 2 ^ k) up in
    let last : place / 2 ^ (4 * (count - suc i)) % 16 ≡ bit_and (place / 2 ^ (4 * (count - 1 - i))) 15 =
    sym (and_mask (place / 2 ^ (4 * (count - suc i))) 4) ∙ ap (λ k. bit_and (place / 2 ^ (4 * k)) 15) at in
    rw (add-one, front, last) refl

-- a column after what stands before it
pub column_some : (old bytes : List ℕ) (i byte high low : ℕ) → slice_get bytes i ≡ Some byte →
    high ≡ hex_digit (byte / 16) → low ≡ hex_digit (byte % 16) →
    old ++ gap i ++ high ∷ [] ++ low ∷ [] ≡ old ++ column bytes i
column_some old bytes i byte high low e h l =
    rw (e, h, l) (ap (λ s. s ++ hex_digit (byte % 16) ∷ []) (append_assoc old (gap i) (hex_digit (byte / 16) ∷ []))
    ∙ append_assoc old (gap i ++ hex_digit (byte / 16) ∷ []) (hex_digit (byte % 16) ∷ [])
    ∙ ap (λ s. old ++ s) (append_assoc (gap i) (hex_digit (byte / 16) ∷ []) (hex_digit (byte % 16) ∷ [])))

pub column_none : (old bytes : List ℕ) (i : ℕ) → slice_get bytes i ≡ None →
    old ++ gap i ++ 32 ∷ [] ++ 32 ∷ [] ≡ old ++ column bytes i
column_none old bytes i e =
    rw e (ap (λ s. s ++ 32 ∷ []) (append_assoc old (gap i) (32 ∷ [])) ∙ append_assoc old (gap i ++ 32 ∷ []) (32 ∷ [])
    ∙ ap (λ s. old ++ s) (append_assoc (gap i) (32 ∷ []) (32 ∷ [])))

-- one column more
pub range_more : (n : ℕ) → range_with_len 0 (n + 1) ≡ range_with_len 0 n ++ n ∷ []
range_more n = sym (map-id (range_with_len 0 (n + 1))) ∙ map-range_with_len_more (λ x. x) 0 n n (omega arith)
    ∙ ap (λ s. s ++ n ∷ []) (map-id (range_with_len 0 n))

pub flat_more : {A : Type 0} (f : ℕ → List A) (now was : List A) (n : ℕ) →
    now ≡ was ++ flat_map f (range_with_len 0 n) → now ++ f n ≡ was ++ flat_map f (range_with_len 0 (n + 1))
flat_more f now was n e = ap (λ s. s ++ f n) e ∙ flat_map_more f was (range_with_len 0 n) n
    ∙ ap (λ s. was ++ flat_map f s) (sym (range_more n))

pub no_digit : (n : ℕ) → [] ≡ hex_digits 0 n
unfolding hex_digits
no_digit n = refl

pub all_digits : (place count i : ℕ) → i ≡ count → hex_digits i (place / 2 ^ (4 * (count - i))) ≡ hex_digits count place
all_digits place count i e =
    let none : 4 * (count - i) ≡ 0 = omega arith in
    rw (e, none_left count, div-one) refl
  where
    none_left : (count : ℕ) → 4 * (count - count) ≡ 0
    none_left count = omega arith

-- a line by its pieces
pub line_is : (b c d e f g h : List ℕ) (place : ℕ) (bytes : List ℕ) → b ≡ place_text place → c ≡ b ++ 58 ∷ [] →
    d ≡ c ++ columns bytes → e ≡ d ++ 32 ∷ [] → f ≡ e ++ 32 ∷ [] → g ≡ f ++ map shown bytes → h ≡ g ++ 10 ∷ [] →
    h ≡ line_text place bytes
unfolding line_text
line_is b c d e f g h place bytes pb pc pd pe pf pg ph =
    rw (ph, pg, pf, pe, pd, pc, pb) (ap (λ s. s ++ map shown bytes ++ 10 ∷ [])
    (append_assoc (place_text place ++ 58 ∷ [] ++ columns bytes) (32 ∷ []) (32 ∷ [])))

pub Appends-nil : (contents : Option (List ℕ)) → Appends contents contents []
Appends-nil None = tt
Appends-nil (Some xs) = sym (append-nil xs)

-- a line is not empty, so nothing is a part of it
pub line_part_none : (contents : Option (List ℕ)) (place : ℕ) (bytes : List ℕ) →
    AppendsPart contents contents (line_text place bytes)
unfolding line_text
line_part_none contents place bytes = record {
  taken = [];
  rest = line_text place bytes;
  appends = Appends-nil contents;
  whole = refl;
  more = omega (
    arith,
    length-append (place_text place ++ codes ":" ++ columns bytes ++ codes "  " ++ map shown bytes) (10 ∷ []),
  );
}

take_twice : (m n : ℕ) (xs : List ℕ) → take m (take n xs) ≡ take (min m n) xs
take_twice m n xs = elim (cases_lt m n) [
  | inl h ↦ take-take m n xs (omega arith) ∙ ap (λ k. take k xs) (sym (min-eq_left (omega arith)))
  | inr h ↦
      take_all m (take n xs) (omega (arith, length-take n xs)) ∙ ap (λ k. take k xs) (sym (min-eq_right (omega arith)))
]

-- the bytes of a line, and of the range that it is a line of
line_bytes : (all : List ℕ) (from size i : ℕ) → take 16 (drop (16 * i) (take size (drop from all)))
    ≡ take (min 16 (min (from + size) (length all) - (from + 16 * i))) (drop (from + 16 * i) all)
line_bytes all from size i =
    let rest = drop (from + 16 * i) all in
    let cut : drop (16 * i) (take size (drop from all)) ≡ take (size - 16 * i) rest =
    sym (between_is (drop from all) (16 * i) size) ∙ ap (take (size - 16 * i)) (drop-drop (16 * i) from all) in
    let bound : min (min 16 (size - 16 * i)) (length rest) ≡ min 16 (min (from + size) (length all) - (from + 16 * i)) =
    ap (min (min 16 (size - 16 * i))) (length-drop (from + 16 * i) all) ∙ least size from i (length all) in
    ap (take 16) cut ∙ take_twice 16 (size - 16 * i) rest ∙ sym (take_min (min 16 (size - 16 * i)) rest)
    ∙ ap (λ k. take k rest) bound
  where
    least : (size from i len : ℕ) →
        min (min 16 (size - 16 * i)) (len - (from + 16 * i)) ≡ min 16 (min (from + size) len - (from + 16 * i))
    least size from i len = omega arith

pub line_piece : (all : List ℕ) (from size i end count : ℕ) → end ≡ min (from + size) (length all) →
    count ≡ min (end - (from + 16 * i)) 16 →
    slice_range all (from + 16 * i) (from + 16 * i + count) ≡ take 16 (drop (16 * i) (take size (drop from all)))
line_piece all from size i end count e n =
    let same : from + 16 * i + count - (from + 16 * i) ≡ min 16 (min (from + size) (length all) - (from + 16 * i)) =
    omega arith in
    ap (λ k. take k (drop (from + 16 * i) all)) same ∙ sym (line_bytes all from size i)

-- the lines of a range, by their number
lines_counted : (place n : ℕ) (bytes : List ℕ) → n ≡ (length bytes + 15) / 16 →
    flat_map (λ line. line_text (place + 16 * line) (take 16 (drop (16 * line) bytes))) (range_with_len 0 n)
    ≡ lines_text place bytes
unfolding lines_text
lines_counted place n bytes e =
    ap (λ k. flat_map (λ line. line_text (place + 16 * line) (take 16 (drop (16 * line) bytes))) (range_with_len 0 k)) e

pub line_count : (all : List ℕ) (from size end n : ℕ) → end ≡ min (from + size) (length all) →
    n ≡ (end - from) / 16 + min 1 ((end - from) % 16) → n ≡ (length (take size (drop from all)) + 15) / 16
line_count all from size end n e h =
    let len : length (take size (drop from all)) ≡ end - from =
    length-take size (drop from all) ∙ ap (min size) (length-drop from all) ∙ cut_length size from (length all) end e in
    h ∙ rounded (end - from) ∙ ap (λ k. (k + 15) / 16) (sym len)
  where
    cut_length : (size from len end : ℕ) → end ≡ min (from + size) len → min size (len - from) ≡ end - from
    cut_length size from len end e = omega arith

    rounded : (n : ℕ) → n / 16 + min 1 (n % 16) ≡ (n + 15) / 16
    rounded n = omega arith

flat_next : {A : Type 0} (f : ℕ → List A) (n : ℕ) →
    flat_map f (range_with_len 0 (n + 1)) ≡ flat_map f (range_with_len 0 n) ++ f n
flat_next f n = sym (flat_more f (flat_map f (range_with_len 0 n)) [] n refl)

-- a list by pieces, cut at one of them
flat_cut : {A : Type 0} (f : ℕ → List A) (i d n : ℕ) → n ≡ i + 1 + d →
    (rest : List A) × (flat_map f (range_with_len 0 n) ≡ flat_map f (range_with_len 0 i) ++ f i ++ rest)
flat_cut f i zero n e =
    let last : n ≡ i + 1 = omega arith in (
      [],
      ap (λ k. flat_map f (range_with_len 0 k)) last ∙ flat_next f i
          ∙ sym (append-nil (flat_map f (range_with_len 0 i) ++ f i)),
    )
flat_cut f i (suc d) n e =
    let last : n ≡ (i + 1 + d) + 1 = omega arith in
    let before = flat_cut f i d (i + 1 + d) refl in (
      before.0 ++ f (i + 1 + d),
      ap (λ k. flat_map f (range_with_len 0 k)) last ∙ flat_next f (i + 1 + d) ∙ ap (λ s. s ++ f (i + 1 + d)) before.1
          ∙ append_assoc (flat_map f (range_with_len 0 i) ++ f i) before.0 (f (i + 1 + d)),
    )

-- the text of a line, of a range of bytes
line_in : ℕ → ℕ → List ℕ → ℕ → List ℕ
line_in from size all i = line_text (from + 16 * i) (take 16 (drop (16 * i) (take size (drop from all))))

-- what a writer has after some of the lines
pub lines_begun : ℕ → ℕ → List ℕ → ℕ → List ℕ
lines_begun from size all i = flat_map (line_in from size all) (range_with_len 0 i)

pub no_line : (from size : ℕ) (all : List ℕ) → lines_begun from size all 0 ≡ []
unfolding lines_begun
no_line from size all = refl

pub line_more : (a b c : Option (List ℕ)) (all : List ℕ) (from size i end count : ℕ)
    → end ≡ min (from + size) (length all) → count ≡ min (end - (from + 16 * i)) 16
    → Appends a b (lines_begun from size all i)
    → Appends b c (line_text (from + 16 * i) (slice_range all (from + 16 * i) (from + 16 * i + count)))
    → Appends a c (lines_begun from size all (i + 1))
unfolding lines_begun line_in
line_more a b c all from size i end count e n h g =
    let piece = line_piece all from size i end count e n in
    subst (λ s. Appends a c s) (sym (flat_next (line_in from size all) i))
    (Appends-trans a b c _ _ h (subst (λ s. Appends b c (line_text (from + 16 * i) s)) piece g))

lines_all : (all : List ℕ) (from size end n : ℕ) → end ≡ min (from + size) (length all) →
    n ≡ (end - from) / 16 + min 1 ((end - from) % 16) →
    lines_begun from size all n ≡ lines_text from (take size (drop from all))
unfolding lines_begun line_in
lines_all all from size end n e h =
    lines_counted from n (take size (drop from all)) (line_count all from size end n e h)

pub lines_done : (a b : Option (List ℕ)) (all : List ℕ) (from size end n i : ℕ) → end ≡ min (from + size) (length all)
    → n ≡ (end - from) / 16 + min 1 ((end - from) % 16) → i ≡ n
    → Appends a b (lines_begun from size all i) → Appends a b (lines_text from (take size (drop from all)))
lines_done a b all from size end n i e h k g =
    subst (λ s. Appends a b s) (ap (lines_begun from size all) k ∙ lines_all all from size end n e h) g

pub line_failed : (a b c : Option (List ℕ)) (all : List ℕ) (from size i end count n : ℕ)
    → end ≡ min (from + size) (length all) → count ≡ min (end - (from + 16 * i)) 16
    → n ≡ (end - from) / 16 + min 1 ((end - from) % 16) → i < n
    → Appends a b (lines_begun from size all i)
    → AppendsPart b c (line_text (from + 16 * i) (slice_range all (from + 16 * i) (from + 16 * i + count)))
    → AppendsPart a c (lines_text from (take size (drop from all)))
unfolding lines_begun line_in
line_failed a b c all from size i end count n e m k lt h g =
    let piece = line_piece all from size i end count e m in
    let cut = flat_cut (line_in from size all) i (n - (i + 1)) n (omega arith) in
    let part = part_first a c _ cut.0
    (part_next a b c _ _ h (subst (λ s. AppendsPart b c (line_text (from + 16 * i) s)) piece g)) in
    subst (λ s. AppendsPart a c s) (sym cut.1 ∙ lines_all all from size end n e k) part
