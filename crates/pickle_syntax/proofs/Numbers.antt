-- The value of digits.
use Rattle.std.proofs.Common.{◌≡◌, ℕ, ◌+◌, ◌*◌, ◌-◌, ◌<◌, ◌≤◌, ◌^◌, Bool, true, false, cond, eqb, List, [], ◌∷◌, drop, length, get_or, refl, ap, ◌∙◌, arith, ◌≢◌, Some, None, inl, inr, not, ◌||◌, Result, Ok, Err, length-drop}
use Rattle.std.proofs.lemmas.Bool.{le-ltb, lt-ltb, cases_lt, cases_eq}
use Rattle.std.proofs.lemmas.List.{at_drop_more, at_drop_all}
use Rattle.std.proofs.Math.Nat.{mul-le-mul_left}
use Rattle.pickle_syntax.specs.Bytes.{digit_of, is_in, Fault}
use Rattle.pickle_syntax.specs.Numbers.{value_after, next_value, in_64, typed, has_value, checked, Read, base_of, start_of, suffix_at, number_at}
use Rattle.std.specs.Prelude.{slice_index, take}
use Rattle.std.specs.List.{prefix_len}
use Rattle.pickle_syntax.specs.declared.lexer.numbers.Suffix.{Suffix}
use Rattle.pickle_syntax.specs.declared.lexer.bytes.Class.TheVariants as class
use Rattle.pickle_syntax.specs.declared.lexer.fault.LexFaultKind.TheVariants.{BadNumber}
use Rattle.std.proofs.Math.Pow.{pow_mono}

none_above : (v : ℕ) → in_64 v ≡ None → 2 ^ 64 ≤ v
none_above v e = elim (cases_lt v
    (2 ^ 64)) [ inl lt ↦ absurd (let t : in_64 v ≡ Some v = rw (lt-ltb v (2 ^ 64) lt) refl in cc) | inr le ↦ le ]

-- more digits make no number smaller
pub value_grows : (base before : ℕ) (digits : List ℕ) → 1 ≤ base → before ≤ value_after base before digits
unfolding value_after
value_grows base before [] pos = omega arith
value_grows base before (d ∷ digits) pos =
    let more = mul-le-mul_left before pos in
    elim (eqb d 95) as (λ b. before ≤ value_after base (cond b before (before * base + digit_of d)) digits) [
      | true ↦ value_grows base before digits pos
      | false ↦ omega (arith, value_grows base (before * base + digit_of d) digits pos, more)
    ]

pub value_step : (base before i : ℕ) (digits : List ℕ) → i < length digits → value_after base before (drop i digits)
    ≡ value_after base (next_value base before (get_or digits i 0)) (drop (i + 1) digits)
unfolding value_after
value_step base before i digits lt = at_drop_more (value_after base before) digits i 0 lt

pub value_end : (base before i : ℕ) (digits : List ℕ) → length digits ≤ i →
    value_after base before (drop i digits) ≡ before
unfolding value_after
value_end base before i digits le = at_drop_all (value_after base before) digits i le

-- a value that 64 bits don't hold isn't held with more digits
pub value_none : (base before i : ℕ) (digits : List ℕ) → 1 ≤ base → i < length digits →
    in_64 (next_value base before (get_or digits i 0)) ≡ None → in_64 (value_after base before (drop i digits)) ≡ None
value_none base before i digits pos lt is =
    let grows = value_grows base (next_value base before (get_or digits i 0)) (drop (i + 1) digits) pos in
    rw (
      value_step base before i digits lt,
      le-ltb (value_after base (next_value base before (get_or digits i 0)) (drop (i + 1) digits))
          (2 ^ 64) (omega (arith, grows, none_above _ is)),
    ) refl

pub ruleset value_steps = (value_step, value_end, value_none)

-- a number that 64 bits don't hold has no type
has_bits : (signed : Bool) (width : ℕ) → width ≤ 64 → cond signed (width - 1) width ≤ 64
has_bits true width low = omega arith
has_bits false width low = low

typed_low : (value : ℕ) (s : Suffix) → s.width ≤ 64 → typed value s ≤ 64
typed_low value s low =
    elim (eqb s.width 0) as (λ b. cond (not b) s.width (cond (has_value s.signed 32 value) 32 64) ≤ 64) [
      | true ↦
          elim (has_value s.signed 32 value) as (λ b. cond b 32 64 ≤ 64) [ true ↦ omega arith | false ↦ omega arith ]
      | false ↦ low
    ]

abbrev bad : ℕ → Result Read Fault
bad at = Err (BadNumber, at)

pub too_large : (at value : ℕ) (s : Suffix) (end next : ℕ) → s.width ≤ 64 → in_64 value ≡ None →
    checked at value s end next ≡ Err (BadNumber, at)
too_large at value s end next low none =
    let bits : cond s.signed (typed value s - 1) (typed value s) ≤ 64 =
    has_bits s.signed (typed value s) (typed_low value s low) in
    let power : 2 ^ cond s.signed (typed value s - 1) (typed value s) ≤ 2 ^ 64 = pow_mono bits in
    let large : 2 ^ 64 ≤ value = none_above value none in
    let never : has_value s.signed (typed value s) value ≡ false =
    le-ltb value (2 ^ cond s.signed (typed value s - 1) (typed value s)) (omega (arith, power, large)) in
    elim (is_in class.Word next) as (λ b. cond (b || not (has_value s.signed (typed value s) value))
    (Err (BadNumber, at)) (Ok (record { value = value; width = typed value s; signed = s.signed }, end + s.len))
    ≡ bad at) [
      | true ↦ refl
      | false ↦ rw never refl
    ]

pub held : (v x : ℕ) → Some x ≡ in_64 v → x ≡ v
held v x e = elim (cases_lt v (2 ^ 64)) [
  | inl lt ↦ (let t : in_64 v ≡ Some v = rw (lt-ltb v (2 ^ 64) lt) refl in cc)
  | inr le ↦ absurd (let t : in_64 v ≡ None = rw (le-ltb v (2 ^ 64) le) refl in cc)
]

pub ruleset number_steps = (too_large, held)

-- the parts of a number, by name
pub number_joins : (at : ℕ) (bytes : List ℕ) (base start : ℕ) (digits after : List ℕ) (len value : ℕ) (s : Suffix)
    (next : ℕ) → base ≡ base_of bytes → start ≡ start_of base → digits ≡ drop start bytes →
    len ≡ prefix_len (is_in (class.Digit base)) digits → after ≡ drop len digits → s ≡ suffix_at after →
    value ≡ value_after base 0 (take len digits) → next ≡ slice_index after s.len →
    checked at value s (start + len) next ≡ number_at at bytes
unfolding number_at
number_joins at bytes base start digits after len value s next e1 e2 e3 e4 e5 e6 e7 e8 =
    rw (e8, e7, e6, e5, e4, e3, e2, e1) refl

pub number_long : (bytes digits : List ℕ) (base start len : ℕ) → digits ≡ drop start bytes →
    digit_of (slice_index bytes 0) < 10 → (base ≡ 10 → start ≡ 0) → (base ≢ 10 → start ≡ 2) →
    (is_in (class.Digit base) (slice_index digits 0) ≡ true → 0 < length digits → 1 ≤ len) → 1 ≤ start + len
number_long bytes digits base start len is digit none some moves =
    elim (cases_eq base 10) [
      | inl ten ↦ omega (arith, moves (runs ten (none ten)) (there (none ten)))
      | inr other ↦ omega (arith, some other)
    ]
  where
    same : start ≡ 0 → digits ≡ bytes
    same e = is ∙ ap (λ (n : ℕ). drop n bytes) e

    runs : base ≡ 10 → start ≡ 0 → is_in (class.Digit base) (slice_index digits 0) ≡ true
    runs ten e = rw (ten, same e, lt-ltb (digit_of (slice_index bytes 0)) 10 digit) refl

    holds : (l : List ℕ) → digit_of (slice_index l 0) < 10 → 0 < length l
    holds [] h = absurd (omega arith)
    holds (b ∷ l) h = omega arith

    there : start ≡ 0 → 0 < length digits
    there e = rw (same e) (holds bytes digit)

pub number_room : (bytes digits after : List ℕ) (base start len more : ℕ) → digits ≡ drop start bytes →
    len ≤ length digits → after ≡ drop len digits → (base ≢ 10 → 2 ≤ length bytes) → (base ≡ 10 → start ≡ 0) →
    start ≤ 2 → more ≤ length after → start + len + more ≤ length bytes
number_room bytes digits after base start len more is within behind there none low fits =
    let l : length digits ≡ length bytes - start = ap length is ∙ length-drop start bytes in
    let m : length after ≡ length digits - len = ap length behind ∙ length-drop len digits in
    elim (cases_eq base 10) [
      | inl ten ↦ omega (arith, none ten, l, m)
      | inr other ↦ omega (arith, there other, l, m)
    ]
