-- The value of digits, step by step.
use Rattle.std.proofs.Common.{◌≡◌, ℕ, ◌+◌, ◌*◌, ◌<◌, ◌≤◌, ◌^◌, true, false, cond, eqb, List, [], ◌∷◌, drop, length, get_or, refl, arith, Some, None, inl, inr}
use Rattle.std.proofs.lemmas.Bool.{le-ltb, lt-ltb, cases_lt}
use Rattle.std.proofs.lemmas.List.{at_drop_more, at_drop_all}
use Rattle.std.proofs.Math.Nat.{mul-le-mul_left}
use Rattle.value_notes.specs.Blanks.{digit_of}
use Rattle.value_notes.specs.Numerals.{value_after, next_value, in_64}

none_above : (v : ℕ) → in_64 v ≡ None → 2 ^ 64 ≤ v
none_above v e = elim (cases_lt v
    (2 ^ 64)) [ inl lt ↦ absurd (let t : in_64 v ≡ Some v = rw (lt-ltb v (2 ^ 64) lt) refl in cc) | inr le ↦ le ]

-- more digits make no number smaller
value_grows : (base before : ℕ) (digits : List ℕ) → 1 ≤ base → before ≤ value_after base before digits
unfolding value_after
value_grows base before [] pos = omega arith
value_grows base before (d ∷ digits) pos =
    let more = mul-le-mul_left before pos in
    elim (eqb d 95) as (λ b. before ≤ value_after base (cond b before (before * base + digit_of d)) digits) [
      | true ↦ value_grows base before digits pos
      | false ↦ omega (arith, value_grows base (before * base + digit_of d) digits pos, more)
    ]

pub value_step : (base before i : ℕ) (digits : List ℕ) → i < length digits → value_after base before (drop i digits)
    ≡ value_after base (next_value base before (get_or digits i 0)) (drop (i + 1) digits)
unfolding value_after
value_step base before i digits lt = at_drop_more (value_after base before) digits i 0 lt

pub value_end : (base before i : ℕ) (digits : List ℕ) → length digits ≤ i →
    value_after base before (drop i digits) ≡ before
unfolding value_after
value_end base before i digits le = at_drop_all (value_after base before) digits i le

-- a value that 64 bits don't hold isn't held with more digits
pub value_none : (base before i : ℕ) (digits : List ℕ) → 1 ≤ base → i < length digits →
    in_64 (next_value base before (get_or digits i 0)) ≡ None → in_64 (value_after base before (drop i digits)) ≡ None
value_none base before i digits pos lt is =
    let grows = value_grows base (next_value base before (get_or digits i 0)) (drop (i + 1) digits) pos in
    rw (
      value_step base before i digits lt,
      le-ltb (value_after base (next_value base before (get_or digits i 0)) (drop (i + 1) digits))
          (2 ^ 64) (omega (arith, grows, none_above _ is)),
    ) refl

pub ruleset value_steps = (value_step, value_end, value_none)
