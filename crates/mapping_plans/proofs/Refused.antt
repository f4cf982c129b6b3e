-- What the definitions refuse: another value, more or fewer steps or values made, a fault at another place, values that
-- don't fit.
use Rattle.std.proofs.Common.{◌≡◌, ℕ, ◌+◌, ◌<◌, List, [], ◌∷◌, Result, Ok, Err, sym, ap, subst, arith}
use Rattle.std.specs.Prelude.{pos}
use Rattle.bit_space.specs.declared.order.Order.TheVariants.{Big}
use Rattle.bit_space.specs.Bits.{bits_of, binary, number, digits, numeral_onto, groups_from}
use Rattle.pickle_types.specs.Types.{IntegerOf, StringOf}
use Rattle.pickle_meaning.specs.declared.faults.MapFaultKind.TheVariants as fault
use Rattle.pickle_meaning.specs.Values.{IntegerLabel, TextLabel, Value, Mapped, NoMembers, start_of, no_values}
use Rattle.pickle_meaning.specs.Arithmetic.{unsigned_type, modulo, with_sign}
use Rattle.pickle_meaning.specs.Clauses.{FaultAt}
use Rattle.pickle_meaning.specs.Means.{Means}
use Rattle.mapping_plans.specs.Plan.{then_ok}
use Rattle.pickle_meaning.specs.Answer.{Answer, in_time}
use Rattle.pickle_meaning.specs.Fits.{Fits, FitsNumber, IsText}
use Rattle.mapping_plans.specs.Mapping.{from_inside, constrained, number_plan, read_plan, plan}
use Rattle.mapping_plans.proofs.Planned.{means_one}
use Rattle.mapping_plans.proofs.Exists.{plan_means}

abbrev IsFault : Result Value FaultAt → Type 0
IsFault (Ok v) = ⊥
IsFault (Err f) = Unit {0}

is_ok : {f : FaultAt} {v : Value} → Err f ≡ Ok v → ⊥
is_ok e = absurd (subst IsFault e tt)

apart : (m n : ℕ) → m < n → m ≡ n → ⊥
apart m n less e = absurd (omega (arith, less, e))

no_zero : IsText (0 ∷ []) → ⊥
no_zero h = absurd (omega (arith, h.0))

-- the number of a byte, and the place of a fault, counted from 1 so that neither is 0
abbrev told : Result Value FaultAt → ℕ
told (Ok (Mapped (IntegerLabel (pos n) type) start end _)) = n + 1
told (Ok v) = 0
told (Err f) = f.1 + 1

byte : Means (bits_of (5 ∷ [])) (IntegerOf (unsigned_type 8)) Big no_values 0
    (Ok (Mapped (IntegerLabel (pos 5) (unsigned_type 8)) 0 8 NoMembers)) 1 1
unfolding bits_of binary number digits numeral_onto groups_from modulo with_sign then_ok from_inside constrained
    number_plan read_plan plan
byte = plan_means (bits_of (5 ∷ [])) _ Big no_values 0

another_number : {k j : ℕ} →
    Means (bits_of (5 ∷ [])) (IntegerOf (unsigned_type 8)) Big no_values 0
    (Ok (Mapped (IntegerLabel (pos 6) (unsigned_type 8)) 0 8 NoMembers)) k j → ⊥
another_number h = apart 6 7 (omega arith) (sym (ap told (means_one h byte).0))

another_step : {j : ℕ} →
    Means (bits_of (5 ∷ [])) (IntegerOf (unsigned_type 8)) Big no_values 0
    (Ok (Mapped (IntegerLabel (pos 5) (unsigned_type 8)) 0 8 NoMembers)) 2 j → ⊥
another_step h = apart 1 2 (omega arith) (sym (means_one h byte).1)

another_made : {k : ℕ} →
    Means (bits_of (5 ∷ [])) (IntegerOf (unsigned_type 8)) Big no_values 0
    (Ok (Mapped (IntegerLabel (pos 5) (unsigned_type 8)) 0 8 NoMembers)) k 2 → ⊥
another_made h = apart 1 2 (omega arith) (sym (means_one h byte).2)

-- a byte on no bits ends where it starts
no_byte : Means (bits_of []) (IntegerOf (unsigned_type 8)) Big no_values 0 (Err (fault.End, 0)) 1 0
unfolding bits_of binary number digits numeral_onto groups_from modulo with_sign then_ok from_inside constrained
    number_plan read_plan plan
no_byte = plan_means (bits_of []) _ Big no_values 0

another_place : {k j : ℕ} →
    Means (bits_of []) (IntegerOf (unsigned_type 8)) Big no_values 0 (Err (fault.End, 8)) k j → ⊥
another_place h = apart 1 9 (omega arith) (sym (ap told (means_one h no_byte).0))

-- a fault is no value
no_value : {v : Value} {k j : ℕ} → Means (bits_of []) (IntegerOf (unsigned_type 8)) Big no_values 0 (Ok v) k j → ⊥
no_value h = absurd (is_ok (means_one no_byte h).0)

-- under a limit of no step a byte is no answer
no_answer : {k j : ℕ} →
    Answer (bits_of (5 ∷ [])) (IntegerOf (unsigned_type 8)) Big 0 0
    (Ok (Mapped (IntegerLabel (pos 5) (unsigned_type 8)) 0 8 NoMembers)) k j → ⊥
no_answer (in_time m le) = let e = (means_one m byte).1 in absurd (omega (arith, e, le))

-- a number that its width doesn't hold, a number that ends past the last bit, and a text with a 0 in it don't fit
too_great : Fits 8 (IntegerOf (unsigned_type 8)) no_values 0
    (Mapped (IntegerLabel (pos 256) (unsigned_type 8)) 0 8 NoMembers) → ⊥
unfolding Fits FitsNumber with_sign
too_great ((n, less, e), inside) = let same : 257 ≡ n + 1 = ap (λ v. told (Ok v)) e in absurd (omega arith)

past_the_end : (v : Value) → Fits 7 (IntegerOf (unsigned_type 8)) no_values 0 v → ⊥
unfolding Fits FitsNumber
past_the_end v (fits, inside) = absurd (omega arith)

elsewhere : Fits 16 (IntegerOf (unsigned_type 8)) no_values 8
    (Mapped (IntegerLabel (pos 5) (unsigned_type 8)) 0 8 NoMembers) → ⊥
unfolding Fits FitsNumber
elsewhere ((n, less, e), inside) = apart 0 8 (omega arith) (ap start_of e)

abbrev text_in : Value → List ℕ
text_in (Mapped (TextLabel bytes) start end _) = bytes
text_in v = []

zero_in_a_text : Fits 16 StringOf no_values 0 (Mapped (TextLabel (0 ∷ [])) 0 16 NoMembers) → ⊥
unfolding Fits FitsNumber
zero_in_a_text (bytes, text, e, inside) = no_zero (subst IsText (sym (ap text_in e)) text)
