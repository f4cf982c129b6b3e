-- Numbers are cut by the rules.
use Rattle.std.proofs.Common.{◌≡◌, ℕ, suc, ◌+◌, ◌<◌, ◌≤◌, Bool, true, false, cond, ltb, List, [], ◌∷◌, ◌++◌, length, take, drop, get_or, refl, sym, ap, ◌∙◌, subst, arith, inl, inr, not, ◌||◌, ◌&&◌, Option, Some, None, Result, Ok, Err, append_assoc, length-append}
use Rattle.std.specs.Prelude.{◌⊎◌, ◌==◌, slice_index}
use Rattle.std.specs.List.{prefix_len}
use Rattle.std.proofs.lemmas.List.{get_or-drop, take-append-drop}
use Rattle.std.proofs.lemmas.List.Folds.{length-prefix_len}
use Rattle.std.proofs.Math.Seq.{drop-append_seam, take-append_seam}
use Rattle.std.proofs.lemmas.Bool.{eqb-true, ne_eqb, lt-ltb, ltb-true, cases_Bool, and_parts, or_cases, cases_eq, and_left, and_right}
use Rattle.pickle_syntax.specs.declared.lexer.bytes.Class.TheVariants as class
use Rattle.pickle_syntax.specs.declared.lexer.fault.LexFaultKind.TheVariants.{BadNumber}
use Rattle.pickle_syntax.specs.declared.lexer.numbers.Suffix as code
use Rattle.pickle_tree.specs.declared.tree.Number.{Number}
use Rattle.pickle_syntax.specs.Bytes.{Fault, digit_of, is_in}
use Rattle.pickle_syntax.specs.Numbers.{Read, base_of, start_of, value_after, width_of, is_sign, suffix_of, suffix_at, has_value, typed, checked, digits_at, number_at}
use Rattle.pickle_syntax.specs.Pieces.{AllIn, begins, Suffix, NoSuffix, SignLetter, WidthLetter, SignAndWidth, WidthAndSign, suffix_bytes, suffix_signed, suffix_width, width_for, IsSuffix, IsPrefix, Decimal, Hexadecimal, Octal, Binary, IsNumber}
use Rattle.pickle_syntax.proofs.Classes.{run_is, run_all, run_stops}
use Rattle.pickle_syntax.proofs.Chains.{chosen}
use Rattle.pickle_syntax.proofs.Letters.{word_digit, word_bit, width_sign, word_x, word_o, word_b, digit_x, digit_o, digit_b, sign_x, sign_o, sign_b, sign_bit, width_x, width_o, after_sign, after_width, after_word}

-- the width that a suffix names, or 0
width_or_none : Option ℕ → ℕ
width_or_none None = 0
width_or_none (Some w) = w

-- what the code finds where a suffix stands
abbrev written : Suffix → code.Suffix
written s = record { signed = suffix_signed s; width = width_or_none (suffix_width s); len = length (suffix_bytes s) }

-- a suffix is read
suffix_reads : (s : Suffix) (after : List ℕ) → IsSuffix s → begins class.Word after ≡ false →
    suffix_at (suffix_bytes s ++ after) ≡ written s
unfolding suffix_of width_or_none
suffix_reads NoSuffix after is ends = rw (after_sign after ends, after_width after ends) refl
suffix_reads (SignLetter u) after is ends = rw (is, after_width after ends) refl
suffix_reads (WidthLetter w) after is ends =
    rw (width_sign w is, ne_eqb (width_of w) 0 (λ e. omega (arith, e, is)), after_sign after ends) refl
suffix_reads (SignAndWidth u w) after is ends = rw (is.0, ne_eqb (width_of w) 0 (λ e. omega (arith, e, is.1))) refl
suffix_reads (WidthAndSign w u) after is ends =
    rw (width_sign w is.0, ne_eqb (width_of w) 0 (λ e. omega (arith, e, is.0)), is.1) refl

typed_is : (value : ℕ) (s : Suffix) → IsSuffix s →
    typed value (written s) ≡ width_for (suffix_width s) (suffix_signed s) value
unfolding width_or_none
typed_is value NoSuffix is = refl
typed_is value (SignLetter u) is = refl
typed_is value (WidthLetter w) is = rw (ne_eqb (width_of w) 0 (λ e. omega (arith, e, is))) refl
typed_is value (SignAndWidth u w) is = rw (ne_eqb (width_of w) 0 (λ e. omega (arith, e, is.1))) refl
typed_is value (WidthAndSign w u) is = rw (ne_eqb (width_of w) 0 (λ e. omega (arith, e, is.0))) refl

byte_behind : (part rest : List ℕ) → slice_index (part ++ rest) (length part) ≡ slice_index rest 0
byte_behind part rest =
    let e : length part + 0 ≡ length part = omega arith in
    let f : get_or (drop (length part) (part ++ rest)) 0 0 ≡ get_or (part ++ rest) (length part + 0) 0 =
    get_or-drop (length part) (part ++ rest) 0 0 in
    sym (ap (λ (l : List ℕ). get_or l 0 0) (sym (drop-append_seam part rest)) ∙ f
    ∙ ap (λ (k : ℕ). get_or (part ++ rest) k 0) e)

-- the type of a number
abbrev typed_number : ℕ → Suffix → Number
typed_number value s = record { value = value; width = typed value (written s); signed = suffix_signed s }

same_number : (n : Number) (v w : ℕ) (s : Bool) → v ≡ n.value → w ≡ n.width → s ≡ n.signed →
    record { value = v; width = w; signed = s } ≡ n
same_number n v w s ev ew es = rw (ev, ew, es) refl

typed_same : (n : Number) (value : ℕ) (s : Suffix) → IsSuffix s → n.value ≡ value → n.signed ≡ suffix_signed s →
    n.width ≡ width_for (suffix_width s) n.signed n.value → typed value (written s) ≡ n.width
typed_same n value s is ev es ew = typed_is value s is ∙ sym (ew ∙ rw (es, ev) refl)

number_same : (n : Number) (value : ℕ) (s : Suffix) → IsSuffix s → n.value ≡ value → n.signed ≡ suffix_signed s →
    n.width ≡ width_for (suffix_width s) n.signed n.value → typed_number value s ≡ n
number_same n value s is ev es ew =
    same_number n value (typed value (written s)) (suffix_signed s) (sym ev) (typed_same n value s is ev es ew) (sym es)

-- the digits, the suffix and what follows
checked_ok : (at value : ℕ) (s : code.Suffix) (end next : ℕ) → is_in class.Word next ≡ false →
    has_value s.signed (typed value s) value ≡ true →
    checked at value s end next ≡ Ok (record { value = value; width = typed value s; signed = s.signed }, end + s.len)
checked_ok at value s end next apart held = rw (apart, held) refl

-- the parts of what stands behind a prefix, by name
digits_join : (at base start : ℕ) (digits after : List ℕ) (len value : ℕ) (s : code.Suffix) (next : ℕ) →
    len ≡ prefix_len (is_in (class.Digit base)) digits → after ≡ drop len digits → s ≡ suffix_at after →
    value ≡ value_after base 0 (take len digits) → next ≡ slice_index after s.len →
    digits_at at base start digits ≡ checked at value s (start + len) next
digits_join at base start digits after len value s next e1 e2 e3 e4 e5 = rw (e5, e4, e3, e2, e1) refl

no_digits : (base : ℕ) (s : Suffix) (after : List ℕ) → base ≤ 16 → begins (class.Digit base) (suffix_bytes s) ≡ false →
    begins class.Word after ≡ false → begins (class.Digit base) (suffix_bytes s ++ after) ≡ false
no_digits base NoSuffix [] low ends apart = refl
no_digits base NoSuffix (c ∷ after) low ends apart = word_digit c base low apart
no_digits base (SignLetter u) after low ends apart = ends
no_digits base (WidthLetter w) after low ends apart = ends
no_digits base (SignAndWidth u w) after low ends apart = ends
no_digits base (WidthAndSign w u) after low ends apart = ends

digit_in : (base d : ℕ) → digit_of d < base → is_in (class.Digit base) d ≡ true
digit_in base d h = rw (lt-ltb (digit_of d) base h) refl

digits_read : (at base start : ℕ) (digits : List ℕ) (s : Suffix) (after : List ℕ) (n : Number) → base ≤ 16 →
    AllIn (class.Digit base) digits → begins (class.Digit base) (suffix_bytes s) ≡ false → IsSuffix s →
    begins class.Word after ≡ false → n.value ≡ value_after base 0 digits → n.signed ≡ suffix_signed s →
    n.width ≡ width_for (suffix_width s) n.signed n.value → has_value n.signed n.width n.value ≡ true →
    digits_at at base start (digits ++ (suffix_bytes s ++ after))
    ≡ Ok (n, start + length digits + length (suffix_bytes s))
digits_read at base start digits s after n low all ends is apart ev es ew held =
    let tail = suffix_bytes s ++ after in
    let len : length digits ≡ prefix_len (is_in (class.Digit base)) (digits ++ tail) =
    sym (run_is (class.Digit base) digits tail all (no_digits base s after low ends apart)) in
    let joined : digits_at at base start (digits ++ tail)
    ≡ checked at (value_after base 0 digits) (written s) (start + length digits) (slice_index after 0) =
    digits_join at base start (digits ++ tail) tail (length digits) (value_after base 0 digits) (written s)
    (slice_index after 0) len (sym (drop-append_seam digits tail)) (sym (suffix_reads s after is apart))
    (ap (value_after base 0) (sym (take-append_seam digits tail))) (sym (byte_behind (suffix_bytes s) after)) in
    let same : typed_number (value_after base 0 digits) s ≡ n =
    number_same n (value_after base 0 digits) s is ev es ew in
    let fits : has_value (suffix_signed s) (typed (value_after base 0 digits) (written s)) (value_after base 0 digits)
    ≡ true = ap (λ (m : Number). has_value m.signed m.width m.value) same ∙ held in
    joined ∙ checked_ok at (value_after base 0 digits) (written s) (start + length digits) (slice_index after 0)
    (after_word after apart) fits ∙ ap (λ (m : Number). Ok (m, start + length digits + length (suffix_bytes s))) same

-- two bytes that make no prefix behind a `0`
record IsNoPrefix (c d : ℕ) : Type 0 where
  x : (c == 120 || c == 88) ≡ false
  o : (c == 111 || c == 79) ≡ false
  b : ((c == 98 || c == 66) && ltb (digit_of d) 2) ≡ false

either : (t : Bool) (n : ℕ) → cond t n n ≡ n
either true n = refl
either false n = refl

ten : (bytes : List ℕ) → IsNoPrefix (slice_index bytes 1) (slice_index bytes 2) → base_of bytes ≡ 10
ten bytes k = rw (k.x, k.o, k.b) (either (not (slice_index bytes 0 == 48)) 10)

none_after : (after : List ℕ) (d : ℕ) → begins class.Word after ≡ false → IsNoPrefix (slice_index after 0) d
none_after [] d apart = record { x = refl; o = refl; b = refl }
none_after (c ∷ after) d apart = record {
  x = word_x c apart;
  o = word_o c apart;
  b = and_left (c == 98 || c == 66) (ltb (digit_of d) 2) (word_b c apart);
}

none_sign : (u d : ℕ) → is_sign u ≡ true → IsNoPrefix u d
none_sign u d is =
    record { x = sign_x u is; o = sign_o u is; b = and_left (u == 98 || u == 66) (ltb (digit_of d) 2) (sign_b u is) }

none_width : (w d : ℕ) → 0 < width_of w → ltb (digit_of d) 2 ≡ false → IsNoPrefix w d
none_width w d is bit =
    record { x = width_x w is; o = width_o w is; b = and_right (w == 98 || w == 66) (ltb (digit_of d) 2) bit }

after_bit : (after : List ℕ) → begins class.Word after ≡ false → ltb (digit_of (slice_index after 0)) 2 ≡ false
after_bit [] apart = refl
after_bit (c ∷ after) apart = word_bit c apart

none_suffix : (s : Suffix) (after : List ℕ) → IsSuffix s → begins class.Word after ≡ false →
    IsNoPrefix (slice_index (suffix_bytes s ++ after) 0) (slice_index (suffix_bytes s ++ after) 1)
none_suffix NoSuffix after is apart = none_after after (slice_index after 1) apart
none_suffix (SignLetter u) after is apart = none_sign u (slice_index after 0) is
none_suffix (WidthLetter w) after is apart = none_width w (slice_index after 0) is (after_bit after apart)
none_suffix (SignAndWidth u w) after is apart = none_sign u w is.0
none_suffix (WidthAndSign w u) after is apart = none_width w u is.0 (sign_bit u is.1)

none_digits : (digits : List ℕ) (s : Suffix) (after : List ℕ) → AllIn (class.Digit 10) digits → IsSuffix s →
    begins class.Word after ≡ false → IsNoPrefix (slice_index (digits ++ (suffix_bytes s ++ after)) 0)
    (slice_index (digits ++ (suffix_bytes s ++ after)) 1)
none_digits [] s after all is apart = none_suffix s after is apart
none_digits (d ∷ digits) s after all is apart =
    let e = slice_index (digits ++ (suffix_bytes s ++ after)) 0 in
    record {
      x = digit_x d all.0;
      o = digit_o d all.0;
      b = and_left (d == 98 || d == 66) (ltb (digit_of e) 2) (digit_b d all.0);
    }

-- the base of a prefix before a digit
behind_zero : (letter first base : ℕ) (rest : List ℕ) → ((base ≡ 16) × ((letter ≡ 120) ⊎ (letter ≡ 88)))
    ⊎ (((base ≡ 8) × ((letter ≡ 111) ⊎ (letter ≡ 79))) ⊎ ((base ≡ 2) × ((letter ≡ 98) ⊎ (letter ≡ 66)))) →
    digit_of first < base → base_of (48 ∷ letter ∷ first ∷ rest) ≡ base
behind_zero letter first base rest (inl (e, inl f)) digit =
    rw (e, f, lt-ltb (digit_of first) 16 (omega (arith, e, digit))) refl
behind_zero letter first base rest (inl (e, inr f)) digit =
    rw (e, f, lt-ltb (digit_of first) 16 (omega (arith, e, digit))) refl
behind_zero letter first base rest (inr (inl (e, inl f))) digit =
    rw (e, f, lt-ltb (digit_of first) 8 (omega (arith, e, digit))) refl
behind_zero letter first base rest (inr (inl (e, inr f))) digit =
    rw (e, f, lt-ltb (digit_of first) 8 (omega (arith, e, digit))) refl
behind_zero letter first base rest (inr (inr (e, inl f))) digit =
    rw (e, f, lt-ltb (digit_of first) 2 (omega (arith, e, digit))) refl
behind_zero letter first base rest (inr (inr (e, inr f))) digit =
    rw (e, f, lt-ltb (digit_of first) 2 (omega (arith, e, digit))) refl

-- the digits behind a prefix are read
from_base : (at base start : ℕ) (bytes digits : List ℕ) → base_of bytes ≡ base → start_of base ≡ start →
    drop start bytes ≡ digits → number_at at bytes ≡ digits_at at base start digits
unfolding number_at
from_base at base start bytes digits e f g = rw (e, f, g) refl

prefix_reads : (at base : ℕ) (prefix : List ℕ) (first : ℕ) (rest : List ℕ) → IsPrefix base prefix →
    digit_of first < base → (base ≡ 10 → IsNoPrefix (slice_index rest 0) (slice_index rest 1)) →
    number_at at (prefix ++ first ∷ rest) ≡ digits_at at base (length prefix) (first ∷ rest)
prefix_reads at base prefix first rest (Decimal e f) digit none =
    rw f (from_base at base 0 (first ∷ rest) (first ∷ rest) (ten (first ∷ rest) (none e) ∙ sym e) (rw e refl) refl)
prefix_reads at base prefix first rest (Hexadecimal e (inl f)) digit none =
    rw f (from_base at base 2 (48 ∷ 120 ∷ first ∷ rest) (first ∷ rest)
    (behind_zero 120 first base rest (inl (e, inl refl)) digit) (rw e refl) refl)
prefix_reads at base prefix first rest (Hexadecimal e (inr f)) digit none =
    rw f (from_base at base 2
    (48 ∷ 88 ∷ first ∷ rest) (first ∷ rest) (behind_zero 88 first base rest (inl (e, inr refl)) digit) (rw e refl) refl)
prefix_reads at base prefix first rest (Octal e (inl f)) digit none =
    rw f (from_base at base 2 (48 ∷ 111 ∷ first ∷ rest) (first ∷ rest)
    (behind_zero 111 first base rest (inr (inl (e, inl refl))) digit) (rw e refl) refl)
prefix_reads at base prefix first rest (Octal e (inr f)) digit none =
    rw f (from_base at base 2 (48 ∷ 79 ∷ first ∷ rest) (first ∷ rest)
    (behind_zero 79 first base rest (inr (inl (e, inr refl))) digit) (rw e refl) refl)
prefix_reads at base prefix first rest (Binary e (inl f)) digit none =
    rw f (from_base at base 2 (48 ∷ 98 ∷ first ∷ rest) (first ∷ rest)
    (behind_zero 98 first base rest (inr (inr (e, inl refl))) digit) (rw e refl) refl)
prefix_reads at base prefix first rest (Binary e (inr f)) digit none =
    rw f (from_base at base 2 (48 ∷ 66 ∷ first ∷ rest) (first ∷ rest)
    (behind_zero 66 first base rest (inr (inr (e, inr refl))) digit) (rw e refl) refl)

low_base : (base : ℕ) (prefix : List ℕ) → IsPrefix base prefix → base ≤ 16
low_base base prefix (Decimal e f) = omega (arith, e)
low_base base prefix (Hexadecimal e f) = omega (arith, e)
low_base base prefix (Octal e f) = omega (arith, e)
low_base base prefix (Binary e f) = omega (arith, e)

pub number_reads : (at : ℕ) (n : Number) (front after : List ℕ) → IsNumber n front → begins class.Word after ≡ false →
    number_at at (front ++ after) ≡ Ok (n, length front)
number_reads at n front after k apart =
    let tail = suffix_bytes k.suffix ++ after in
    let digits = k.first ∷ k.digits in
    let low = low_base k.base k.prefix k.prefixed in
    let all : AllIn (class.Digit k.base) digits = (digit_in k.base k.first k.digit, k.more) in
    let regroup : front ++ after ≡ k.prefix ++ k.first ∷ (k.digits ++ tail) =
    ap (λ (l : List ℕ). l ++ after) k.written ∙ append_assoc (k.prefix ++ digits) (suffix_bytes k.suffix) after
    ∙ append_assoc k.prefix digits tail in
    let size : length k.prefix + length digits + length (suffix_bytes k.suffix) ≡ length front =
    omega (
      arith,
      ap length k.written,
      length-append (k.prefix ++ digits) (suffix_bytes k.suffix),
      length-append k.prefix digits,
    ) in
    let none : k.base ≡ 10 → IsNoPrefix (slice_index (k.digits ++ tail) 0) (slice_index (k.digits ++ tail) 1) =
    λ e.
    none_digits k.digits k.suffix after (subst (λ (b : ℕ). AllIn (class.Digit b) k.digits) e k.more) k.suffixed apart in
    rw regroup (prefix_reads at k.base k.prefix k.first (k.digits ++ tail) k.prefixed k.digit none
    ∙ digits_read at k.base (length k.prefix) digits k.suffix after n low all k.ends k.suffixed apart k.value
    k.signed k.width k.held
    ∙ ap (λ (m : ℕ). Ok (n, m)) size)

-- a suffix at the front, the longest
record SuffixFront (bytes : List ℕ) : Type 0 where
  suffix : Suffix
  more : List ℕ
  whole : bytes ≡ suffix_bytes suffix ++ more
  is : IsSuffix suffix
  reads : suffix_at bytes ≡ written suffix

above : (n : ℕ) → (n ≡ 0 → ⊥) → 0 < n
above n h = omega (arith, h)

suffix_front : (bytes : List ℕ) → SuffixFront bytes
unfolding suffix_of width_or_none
suffix_front [] = record { suffix = NoSuffix; more = []; whole = refl; is = tt; reads = refl }
suffix_front (c ∷ []) = elim (cases_Bool (is_sign c)) [
  | inl sign ↦ record { suffix = SignLetter c; more = []; whole = refl; is = sign; reads = rw sign refl }
  | inr other ↦ elim (cases_eq (width_of c) 0) [
    | inl none ↦ record { suffix = NoSuffix; more = c ∷ []; whole = refl; is = tt; reads = rw (other, none) refl }
    | inr some ↦ record {
      suffix = WidthLetter c;
      more = [];
      whole = refl;
      is = above (width_of c) some;
      reads = rw (other, ne_eqb (width_of c) 0 some) refl;
    }
  ]
]
suffix_front (c ∷ d ∷ rest) = elim (cases_Bool (is_sign c)) [
  | inl sign ↦ elim (cases_eq (width_of d) 0) [
    | inl none ↦
        record { suffix = SignLetter c; more = d ∷ rest; whole = refl; is = sign; reads = rw (sign, none) refl }
    | inr some ↦ record {
      suffix = SignAndWidth c d;
      more = rest;
      whole = refl;
      is = (sign, above (width_of d) some);
      reads = rw (sign, ne_eqb (width_of d) 0 some) refl;
    }
  ]
  | inr other ↦ elim (cases_eq (width_of c) 0) [
    | inl none ↦ record { suffix = NoSuffix; more = c ∷ d ∷ rest; whole = refl; is = tt; reads = rw (other, none) refl }
    | inr some ↦ elim (cases_Bool (is_sign d)) [
      | inl sign ↦ record {
        suffix = WidthAndSign c d;
        more = rest;
        whole = refl;
        is = (above (width_of c) some, sign);
        reads = rw (other, ne_eqb (width_of c) 0 some, sign) refl;
      }
      | inr none ↦ record {
        suffix = WidthLetter c;
        more = d ∷ rest;
        whole = refl;
        is = above (width_of c) some;
        reads = rw (other, ne_eqb (width_of c) 0 some, none) refl;
      }
    ]
  ]
]

-- what a number that was read says
checked_is : (a b : Bool) (x y : Read) (f : Fault) → cond {A = Result Read Fault} (a || not b) (Err f) (Ok x) ≡ Ok y →
    (a ≡ false) × (b ≡ true) × (x ≡ y)
checked_is true b x y f e = absurd cc
checked_is false true x y f e = (refl, refl, cc)
checked_is false false x y f e = absurd cc

checked_bad : (a b : Bool) (x : Read) (f g : Fault) →
    cond {A = Result Read Fault} (a || not b) (Err f) (Ok x) ≡ Err g → f ≡ g
checked_bad true b x f g e = cc
checked_bad false true x f g e = absurd cc
checked_bad false false x f g e = cc

width_is : (n : Number) (value : ℕ) (s : Suffix) → IsSuffix s → typed_number value s ≡ n →
    n.width ≡ width_for (suffix_width s) n.signed n.value
width_is n value s is e =
    subst (λ (m : Number). m.width ≡ width_for (suffix_width s) m.signed m.value) e (typed_is value s is)

word_behind : (after : List ℕ) → is_in class.Word (slice_index after 0) ≡ false → begins class.Word after ≡ false
word_behind [] e = refl
word_behind (c ∷ after) e = e

suffix_ends : (base : ℕ) (s : Suffix) (more : List ℕ) → begins (class.Digit base) (suffix_bytes s ++ more) ≡ false →
    begins (class.Digit base) (suffix_bytes s) ≡ false
suffix_ends base NoSuffix more e = refl
suffix_ends base (SignLetter u) more e = e
suffix_ends base (WidthLetter w) more e = e
suffix_ends base (SignAndWidth u w) more e = e
suffix_ends base (WidthAndSign w u) more e = e

-- the digits, the suffix and what follows, where a number was read
record DigitsFront (base start len : ℕ) (n : Number) (digits run after : List ℕ) : Type 0 where
  suffix : Suffix
  more : List ℕ
  whole : after ≡ suffix_bytes suffix ++ more
  is : IsSuffix suffix
  ends : begins (class.Digit base) (suffix_bytes suffix) ≡ false
  apart : begins class.Word more ≡ false
  value : n.value ≡ value_after base 0 run
  signed : n.signed ≡ suffix_signed suffix
  width : n.width ≡ width_for (suffix_width suffix) n.signed n.value
  held : has_value n.signed n.width n.value ≡ true
  size : start + length run + length (suffix_bytes suffix) ≡ len

digits_front : (at base start : ℕ) (digits : List ℕ) (n : Number) (len : ℕ) →
    digits_at at base start digits ≡ Ok (n, len) →
    DigitsFront base start len n digits (take (prefix_len (is_in (class.Digit base)) digits) digits)
    (drop (prefix_len (is_in (class.Digit base)) digits) digits)
digits_front at base start digits n len e =
    let k = prefix_len (is_in (class.Digit base)) digits in
    let run = take k digits in
    let after = drop k digits in
    let value = value_after base 0 run in
    let f = suffix_front after in
    let s = f.suffix in
    let next : slice_index f.more 0 ≡ slice_index after (length (suffix_bytes s)) =
    sym (ap (λ (l : List ℕ). slice_index l (length (suffix_bytes s))) f.whole ∙ byte_behind (suffix_bytes s) f.more) in
    let joined : digits_at at base start digits ≡ checked at value (written s) (start + k) (slice_index f.more 0) =
    digits_join at base start digits after k value (written s) (slice_index f.more 0) refl refl
    (sym f.reads) refl next in
    let both =
    checked_is (is_in class.Word (slice_index f.more 0)) (has_value (suffix_signed s) (typed value (written s)) value)
    (typed_number value s, start + k + length (suffix_bytes s)) (n, len) (BadNumber, at) (sym joined ∙ e) in
    let same : typed_number value s ≡ n = ap (λ (x : Read). x.0) both.2 in
    let long : start + k + length (suffix_bytes s) ≡ len = ap (λ (x : Read). x.1) both.2 in
    let size : length run ≡ k = length-prefix_len (is_in (class.Digit base)) digits in
    record {
      suffix = s;
      more = f.more;
      whole = f.whole;
      is = f.is;
      ends = suffix_ends base s f.more
          (ap (begins (class.Digit base)) (sym f.whole) ∙ run_stops (class.Digit base) digits);
      apart = word_behind f.more both.0;
      value = sym (ap (λ (m : Number). m.value) same);
      signed = sym (ap (λ (m : Number). m.signed) same);
      width = width_is n value s f.is same;
      held = ap (λ (m : Number). has_value m.signed m.width m.value) (sym same) ∙ both.1;
      size = omega (arith, size, long);
    }

digits_bad : (at base start : ℕ) (digits : List ℕ) (f : Fault) →
    digits_at at base start digits ≡ Err f → f ≡ (BadNumber, at)
digits_bad at base start digits f e =
    let k = prefix_len (is_in (class.Digit base)) digits in
    let s = suffix_at (drop k digits) in
    let value = value_after base 0 (take k digits) in
    sym (checked_bad (is_in class.Word (slice_index (drop k digits) s.len)) (has_value s.signed (typed value s) value)
    (record { value = value; width = typed value s; signed = s.signed }, start + k + s.len) (BadNumber, at) f e)

pub number_bad : (at : ℕ) (bytes : List ℕ) (f : Fault) → number_at at bytes ≡ Err f → f ≡ (BadNumber, at)
unfolding number_at
number_bad at bytes f e =
    digits_bad at (base_of bytes) (start_of (base_of bytes)) (drop (start_of (base_of bytes)) bytes) f e

-- the prefix at the front of bytes that begin with a digit
record BaseFront (bytes : List ℕ) : Type 0 where
  base : ℕ
  prefix : List ℕ
  first : ℕ
  rest : List ℕ
  whole : bytes ≡ prefix ++ first ∷ rest
  is : base_of bytes ≡ base
  start : start_of base ≡ length prefix
  prefixed : IsPrefix base prefix
  digit : digit_of first < base

three : (b : ℕ) (rest : List ℕ) (k : ℕ) → k ≤ 16 → digit_of (slice_index (b ∷ rest) 2) < k →
    (r : List ℕ) × (b ∷ rest ≡ b ∷ slice_index (b ∷ rest) 1 ∷ slice_index (b ∷ rest) 2 ∷ r)
three b [] k low h = absurd (omega (arith, h))
three b (c ∷ []) k low h = absurd (omega (arith, h))
three b (c ∷ d ∷ r) k low h = (r, refl)

same_letter : (b : ℕ) (rest : List ℕ) (first x : ℕ) (r : List ℕ) → b ∷ rest ≡ b ∷ slice_index (b ∷ rest) 1 ∷ first ∷ r →
    b ≡ 48 → slice_index (b ∷ rest) 1 ≡ x → b ∷ rest ≡ 48 ∷ x ∷ first ∷ r
same_letter b rest first x r e nought letter = e ∙ rw (letter, nought) refl

not_not : (t : Bool) → not t ≡ false → t ≡ true
not_not true e = refl
not_not false e = absurd cc

module _ (b : ℕ) (rest : List ℕ) where
  abbrev whole_bytes : List ℕ
  whole_bytes = b ∷ rest

  abbrev second : ℕ
  second = slice_index (b ∷ rest) 1

  abbrev third : ℕ
  third = slice_index (b ∷ rest) 2

  letter_front : (base x : ℕ) → base ≤ 16 → base_of whole_bytes ≡ base → start_of base ≡ 2 →
      IsPrefix base (48 ∷ x ∷ []) → b ≡ 48 → second ≡ x → digit_of third < base → BaseFront whole_bytes
  letter_front base x low is start prefixed nought letter digit =
      let more = three b rest base low digit in
      record {
        base = base;
        prefix = 48 ∷ x ∷ [];
        first = third;
        rest = more.0;
        whole = same_letter b rest third x more.0 more.1 nought letter;
        is = is;
        start = start;
        prefixed = prefixed;
        digit = digit;
      }

  plain_front : base_of whole_bytes ≡ 10 → digit_of b < 10 → BaseFront whole_bytes
  plain_front is digit = record {
    base = 10;
    prefix = [];
    first = b;
    rest = rest;
    whole = refl;
    is = is;
    start = refl;
    prefixed = Decimal refl refl;
    digit = digit;
  }

  base_front : digit_of b < 10 → BaseFront whole_bytes
  base_front digit =
      elim (chosen (not (b == 48)) 10 _ (base_of whole_bytes) refl) [
        | inl e ↦ plain_front (sym e.1) digit
        | inr nought ↦ elim (chosen ((second == 120 || second == 88) && ltb (digit_of third) 16) 16 _
            (base_of whole_bytes) nought.1) [
              | inl e ↦ (let both = and_parts (second == 120 || second == 88) (ltb (digit_of third) 16) e.0 in
                  let d = ltb-true (digit_of third) 16 both.1 in
                  let z = eqb-true b 48 (not_not (b == 48) nought.0) in
                  elim (or_cases (second == 120) (second == 88) both.0) [
                    | inl x ↦ letter_front 16 120 (omega arith) (sym e.1) refl (Hexadecimal refl (inl refl)) z
                        (eqb-true second 120 x) d
                    | inr x ↦ letter_front 16 88 (omega arith) (sym e.1) refl (Hexadecimal refl (inr refl)) z
                        (eqb-true second 88 x) d
                  ])
              | inr m1 ↦ elim (chosen ((second == 111 || second == 79) && ltb (digit_of third) 8) 8 _
                  (base_of whole_bytes) m1.1) [
                    | inl e ↦ (let both = and_parts (second == 111 || second == 79) (ltb (digit_of third) 8) e.0 in
                        let d = ltb-true (digit_of third) 8 both.1 in
                        let z = eqb-true b 48 (not_not (b == 48) nought.0) in
                        elim (or_cases (second == 111) (second == 79) both.0) [
                          | inl x ↦ letter_front 8 111 (omega arith) (sym e.1) refl (Octal refl (inl refl)) z
                              (eqb-true second 111 x) d
                          | inr x ↦ letter_front 8 79 (omega arith) (sym e.1) refl (Octal refl (inr refl)) z
                              (eqb-true second 79 x) d
                        ])
                    | inr m2 ↦ elim (chosen ((second == 98 || second == 66) && ltb (digit_of third) 2) 2 10
                        (base_of whole_bytes) m2.1) [
                          | inl e ↦ (let both = and_parts (second == 98 || second == 66) (ltb (digit_of third) 2) e.0 in
                              let d = ltb-true (digit_of third) 2 both.1 in
                              let z = eqb-true b 48 (not_not (b == 48) nought.0) in
                              elim (or_cases (second == 98) (second == 66) both.0) [
                                | inl x ↦ letter_front 2 98 (omega arith) (sym e.1) refl (Binary refl (inl refl)) z
                                    (eqb-true second 98 x) d
                                | inr x ↦ letter_front 2 66 (omega arith) (sym e.1) refl (Binary refl (inr refl)) z
                                    (eqb-true second 66 x) d
                              ])
                          | inr m3 ↦ plain_front (sym m3.1) digit
                        ]
                  ]
            ]
      ]

-- a number at the front
pub record NumberFront (n : Number) (len : ℕ) (bytes : List ℕ) : Type 0 where
  pub front : List ℕ
  pub after : List ℕ
  pub whole : bytes ≡ front ++ after
  pub size : length front ≡ len
  pub is : IsNumber n front
  pub apart : begins class.Word after ≡ false

long : (n : ℕ) → 1 + n ≡ suc n
long n = omega arith

-- a digit and the digits behind it
run_first : (base first : ℕ) (rest : List ℕ) → digit_of first < base →
    take (prefix_len (is_in (class.Digit base)) (first ∷ rest)) (first ∷ rest)
    ≡ first ∷ take (prefix_len (is_in (class.Digit base)) rest) rest
run_first base first rest digit =
    rw (lt-ltb (digit_of first) base digit, long (prefix_len (is_in (class.Digit base)) rest)) refl

number_joins : (base len : ℕ) (prefix : List ℕ) (first : ℕ) (rest run after : List ℕ) (n : Number) (digits : List ℕ) →
    IsPrefix base prefix → digit_of first < base → first ∷ rest ≡ run ++ after → run ≡ first ∷ digits →
    AllIn (class.Digit base) digits → DigitsFront base (length prefix) len n (first ∷ rest) run after →
    NumberFront n len (prefix ++ first ∷ rest)
number_joins base len prefix first rest run after n digits prefixed digit whole runs all k =
    let front : List ℕ = prefix ++ first ∷ digits ++ suffix_bytes k.suffix in
    let tail : run ++ after ≡ (first ∷ digits) ++ (suffix_bytes k.suffix ++ k.more) =
    ap (λ (l : List ℕ). run ++ l) k.whole ∙ ap (λ (l : List ℕ). l ++ (suffix_bytes k.suffix ++ k.more)) runs in
    let joined : prefix ++ first ∷ rest ≡ front ++ k.more =
    ap (λ (l : List ℕ). prefix ++ l) (whole ∙ tail)
    ∙ sym (append_assoc prefix (first ∷ digits) (suffix_bytes k.suffix ++ k.more))
    ∙ sym (append_assoc (prefix ++ first ∷ digits) (suffix_bytes k.suffix) k.more) in
    record {
      front = front;
      after = k.more;
      whole = joined;
      size = omega (
        arith,
        k.size,
        ap length runs,
        length-append (prefix ++ first ∷ digits) (suffix_bytes k.suffix),
        length-append prefix (first ∷ digits),
      );
      is = record {
        base = base;
        prefix = prefix;
        first = first;
        digits = digits;
        suffix = k.suffix;
        written = refl;
        prefixed = prefixed;
        digit = digit;
        more = all;
        ends = k.ends;
        suffixed = k.is;
        value = k.value ∙ ap (value_after base 0) runs;
        signed = k.signed;
        width = k.width;
        held = k.held;
      };
      apart = k.apart;
    }

pub number_front : (at b : ℕ) (rest : List ℕ) (n : Number) (len : ℕ) → digit_of b < 10 →
    number_at at (b ∷ rest) ≡ Ok (n, len) → NumberFront n len (b ∷ rest)
number_front at b rest n len digit e =
    let f = base_front b rest digit in
    let dropped : drop (length f.prefix) (b ∷ rest) ≡ f.first ∷ f.rest = ap (drop (length f.prefix)) f.whole
    ∙ drop-append_seam f.prefix (f.first ∷ f.rest) in
    let joined : number_at at (b ∷ rest) ≡ digits_at at f.base (length f.prefix) (f.first ∷ f.rest) =
    from_base at f.base (length f.prefix) (b ∷ rest) (f.first ∷ f.rest) f.is f.start dropped in
    let k = digits_front at f.base (length f.prefix) (f.first ∷ f.rest) n len (sym joined ∙ e) in
    let len_of = prefix_len (is_in (class.Digit f.base)) (f.first ∷ f.rest) in
    subst (NumberFront n len) (sym f.whole)
    (number_joins f.base len f.prefix f.first f.rest (take len_of (f.first ∷ f.rest)) (drop len_of (f.first ∷ f.rest)) n
    (take (prefix_len (is_in (class.Digit f.base)) f.rest) f.rest) f.prefixed f.digit
    (sym (take-append-drop len_of (f.first ∷ f.rest))) (run_first f.base f.first f.rest f.digit)
    (run_all (class.Digit f.base) f.rest) k)
