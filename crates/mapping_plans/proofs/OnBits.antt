-- What holds of a plan, whatever it reads, holds of its result on a file's bits, and so of what a type means there.
use Rattle.std.proofs.Common.{ℕ, ◌+◌, ◌-◌, ◌<◌, ◌≤◌, ◌^◌, List, length, drop, arith, length-take}
use Rattle.std.specs.Prelude.{slice_range}
use Rattle.std.proofs.Math.Nat.{pow-le-pow_right}
use Rattle.bit_space.specs.declared.order.Order.{Order}
use Rattle.bit_space.specs.Bits.{bits_of, AreDigits}
use Rattle.bit_space.proofs.Digits.{digits_front, digits_back, bits_of_digits}
use Rattle.bit_space.proofs.Signs.{number_of_bits_below}
use Rattle.pickle_types.specs.Bounds.{cost}
use Rattle.pickle_meaning.specs.Numbers.{number_at}
use Rattle.pickle_meaning.specs.Values.{Levels}
use Rattle.mapping_plans.specs.Plan.{Plan, Ended, Tick, Made, Read, result_of, steps_of, made_of, AtMost, ticked, noted, given, MadeWithin, made_ended, made_tick, made_more, made_read, Counts, counted, count_tick, count_made, count_read, Always, result, after_tick, after_made, after_read}
use Rattle.mapping_plans.specs.Mapping.{plan}
use Rattle.pickle_meaning.specs.Laws.{OutcomesAreBounded, OutcomesFit, ValueFits, value_size}
use Rattle.mapping_plans.proofs.Exists.{plan_means}
use Rattle.mapping_plans.proofs.Planned.{means_one}
use Rattle.mapping_plans.proofs.Costs.{plan_at_most}
use Rattle.mapping_plans.proofs.Makes.{made_bounded}
use Rattle.mapping_plans.proofs.Counts.{values_made}
use Rattle.mapping_plans.proofs.Fitting.{values_fit}

steps_on : {A : Type 0} (bits : List ℕ) (p : Plan A) (c : ℕ) → AtMost p c → steps_of bits p ≤ c
steps_on bits (Ended a) c h = omega arith
steps_on bits (Tick p) c (ticked d le h) = let i = steps_on bits p d h in omega arith
steps_on bits (Made count move levels p) c (noted h) = steps_on bits p c h
steps_on bits (Read place width order rest) c (given h) =
    let n = number_at bits order place width in steps_on bits (rest n) c (h n)

made_on : {A : Type 0} (bits : List ℕ) (p : Plan A) (ahead left : ℕ) → MadeWithin p ahead left →
    made_of bits p + left ≤ ahead + steps_of bits p
made_on bits (Ended a) ahead left (made_ended le) = omega arith
made_on bits (Tick p) ahead left (made_tick h) = let i = made_on bits p (ahead + 1) left h in omega arith
made_on bits (Made count move levels p) ahead left (made_more more le h) =
    let i = made_on bits p more left h in omega arith
made_on bits (Read place width order rest) ahead left (made_read h) =
    let n = number_at bits order place width in made_on bits (rest n) ahead left (h n)

made_of_steps : {A : Type 0} (bits : List ℕ) (p : Plan A) → MadeWithin p 0 0 → made_of bits p ≤ steps_of bits p
made_of_steps bits p h = let i = made_on bits p 0 0 h in omega arith

size_on : {A : Type 0} (size : A → ℕ) (bits : List ℕ) (p : Plan A) (made : ℕ) → Counts size p made →
    size (result_of bits p) ≤ made + made_of bits p
size_on size bits (Ended a) made (counted le) = omega arith
size_on size bits (Tick p) made (count_tick h) = size_on size bits p made h
size_on size bits (Made count move levels p) made (count_made h) =
    let i = size_on size bits p (made + count) h in omega arith
size_on size bits (Read place width order rest) made (count_read h) =
    let n = number_at bits order place width in size_on size bits (rest n) made (h n)

size_of_made : {A : Type 0} (size : A → ℕ) (bits : List ℕ) (p : Plan A) → Counts size p 0 →
    size (result_of bits p) ≤ made_of bits p
size_of_made size bits p h = let i = size_on size bits p 0 h in omega arith

-- the number of some bits of a file has no more binary digits than there are bits
number_on : (bytes : List ℕ) (order : Order) (place width : ℕ) → number_at (bits_of bytes) order place width < 2 ^ width
number_on bytes order place width =
    let bits = bits_of bytes in
    let range = slice_range bits place (place + width) in
    let d : AreDigits range = digits_front _ _ (digits_back place bits (bits_of_digits bytes)) in
    let below = number_of_bits_below order range d in
    let short : length range ≤ width = omega (arith, length-take (place + width - place) (drop place bits)) in
    let wide : 2 ^ length range ≤ 2 ^ width = pow-le-pow_right (omega arith) short in
    omega arith

always_on : {A : Type 0} (M : Levels → Type 0) (Q : A → Type 0) (bytes : List ℕ) (p : Plan A) → Always M Q p →
    Q (result_of (bits_of bytes) p)
always_on M Q bytes (Ended a) (result h) = h
always_on M Q bytes (Tick p) (after_tick h) = always_on M Q bytes p h
always_on M Q bytes (Made count move levels p) (after_made m h) = always_on M Q bytes p h
always_on M Q bytes (Read place width order rest) (after_read h) =
    let n = number_at (bits_of bytes) order place width in
    always_on M Q bytes (rest n) (h n (number_on bytes order place width))

pub outcomes_bounded : OutcomesAreBounded
outcomes_bounded bits ty order levels s r k j h =
    let p = plan (length bits) ty order levels s in
    let one = means_one h (plan_means bits ty order levels s) in
    record {
      steps = rw one.1 (steps_on bits p (cost ty (length bits)) (plan_at_most (length bits) ty order levels s));
      made = rw (one.1, one.2) (made_of_steps bits p (made_bounded (length bits) ty order levels s));
      parts = rw (one.0, one.2) (size_of_made value_size bits p (values_made (length bits) ty order levels s));
    }

pub outcomes_fit : OutcomesFit
outcomes_fit bytes ty order levels s r k j h =
    let m = length (bits_of bytes) in
    let one = means_one h (plan_means (bits_of bytes) ty order levels s) in
    rw one.0 (always_on _ (ValueFits m ty levels s) bytes (plan m ty order levels s) (values_fit m ty order levels s))
