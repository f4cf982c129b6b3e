-- The laws on outcomes, answers and widths.
use Rattle.std.proofs.Common.{◌≡◌, ℕ, suc, ◌+◌, ◌*◌, ◌/◌, ◌<◌, ◌≤◌, max, length, List, Result, Ok, Err, refl, arith}
use Rattle.std.proofs.Math.Nat.{le-div_iff_mul-le, suc-mul}
use Rattle.bit_space.specs.declared.order.Order.{Order}
use Rattle.pickle_types.specs.Types.{PokeType}
use Rattle.pickle_types.specs.Bounds.{least_width}
use Rattle.pickle_meaning.specs.declared.extent.Extent.{Extent}
use Rattle.pickle_meaning.specs.declared.faults.MapFaultKind.TheVariants as fault
use Rattle.pickle_meaning.specs.Values.{Value, start_of, end_of, Levels, no_values}
use Rattle.pickle_meaning.specs.Clauses.{FaultAt}
use Rattle.pickle_meaning.specs.Means.{Means, past_end, number_read, number_end, string, string_end, array, bound_fault, struct, struct_fault, union, union_fault, NumberMeans, integer, offset, integral, integral_fault, no_number, Elements, no_more, next_element, Closing, none_due, beyond_size, no_bits, ends_without, element_fault}
use Rattle.pickle_meaning.specs.Answer.{Answer, in_time, too_long}
use Rattle.pickle_meaning.specs.Laws.{HasOneOutcome, HasOneAnswer, ValuesStartThere, ValuesAreWide, TriesAreFew}
use Rattle.mapping_plans.proofs.Basics.{by_place}
use Rattle.mapping_plans.proofs.Planned.{means_one}
use Rattle.mapping_plans.proofs.Exists.{means_exists}
use Rattle.mapping_plans.proofs.Widths.{means_inside, means_wide, elements_inside}

pub one_outcome : HasOneOutcome
one_outcome bits ty order levels s =
    let o = means_exists bits ty order levels s in
    record { outcome = o.r; steps = o.k; made = o.j; means = o.means; only = λ r k j h. means_one h o.means }

only_in_time : {bits : List ℕ} {ty : PokeType} {order : Order} {s limit : ℕ} {r : Result Value FaultAt} {k j : ℕ} →
    Means bits ty order no_values s r k j → k ≤ limit → (r' : Result Value FaultAt) (k' j' : ℕ) →
    Answer bits ty order s limit r' k' j' → (r' ≡ r) × (k' ≡ k)
only_in_time m le r' k' j' (in_time n lt) = let e = means_one n m in (e.0, e.1)
only_in_time m le r' k' j' (too_long n gt less) = let e = means_one n m in let f = e.1 in absurd (omega arith)

only_too_long : {bits : List ℕ} {ty : PokeType} {order : Order} {s limit : ℕ} {r : Result Value FaultAt} {k j : ℕ} →
    Means bits ty order no_values s r k j → limit < k → (r' : Result Value FaultAt) (k' j' : ℕ) →
    Answer bits ty order s limit r' k' j' → (r' ≡ Err (fault.Limit, s)) × (k' ≡ limit)
only_too_long m gt r' k' j' (in_time n lt) = let e = means_one n m in let f = e.1 in absurd (omega arith)
only_too_long m gt r' k' j' (too_long n more less) = (refl, refl)

pub one_answer : HasOneAnswer
one_answer bits ty order s limit =
    let o = means_exists bits ty order no_values s in
    by_place o.k limit
    (λ le.
    record { answer = o.r; steps = o.k; made = o.j; answers = in_time o.means le; only = only_in_time o.means le })
    (λ gt. record {
      answer = Err (fault.Limit, s);
      steps = limit;
      made = o.j;
      answers = too_long o.means gt (omega arith);
      only = only_too_long o.means gt;
    })

pub values_wide : ValuesAreWide
values_wide bits ty order levels s v k j m = (means_wide m, means_inside m)

-- a value starts at a place
abbrev StartsAt : ℕ → Result Value FaultAt → Type 0
StartsAt s (Ok v) = start_of v ≡ s
StartsAt s (Err f) = Unit {0}

number_starts : {ty : PokeType} {n s k j : ℕ} {levels : Levels} {r : Result Value FaultAt} →
    NumberMeans ty n levels s r k j → StartsAt s r
number_starts integer = refl
number_starts offset = refl
number_starts (integral fs) = refl
number_starts (integral_fault fs) = tt
number_starts (no_number e) = tt

closing_starts : {bits : List ℕ} {ty : PokeType} {order : Order} {s : ℕ} {extent : Extent} {n : ℕ} {inside : Levels}
    {pn k j : ℕ} {r : Result Value FaultAt} → Closing bits ty order s extent n inside pn r k j → StartsAt s r
closing_starts (none_due over met) = refl
closing_starts (beyond_size over met) = tt
closing_starts (no_bits due m e) = tt
closing_starts (ends_without due m e) = refl
closing_starts (element_fault due m e) = tt

means_starts : {bits : List ℕ} {ty : PokeType} {order : Order} {levels : Levels} {s : ℕ} {r : Result Value FaultAt}
    {k j : ℕ} → Means bits ty order levels s r k j → StartsAt s r
means_starts (past_end lt) = tt
means_starts (number_read le e inside m) = number_starts m
means_starts (number_end le e lt) = tt
means_starts (string le run inside e) = refl
means_starts (string_end le run lt) = tt
means_starts (array le b es c) = closing_starts c
means_starts (bound_fault le b) = tt
means_starts (struct le fs) = refl
means_starts (struct_fault le fs) = tt
means_starts (union le fs) = refl
means_starts (union_fault le fs) = tt

pub values_start : ValuesStartThere
values_start bits ty order levels s v k j m = means_starts m

-- as many elements as there are cut points fit between the first and the last
record Spread (d i p n pn : ℕ) : Type 0 where
  count : ℕ
  number : n ≡ i + count
  reach : p + count * d ≤ pn

spread : {bits : List ℕ} {ty : PokeType} {order : Order} {s : ℕ} {extent : Extent} {i n : ℕ} {levels inside : Levels}
    {p pn k j : ℕ} →
    Elements bits ty order s extent i levels p n inside pn k j → Spread (max 1 (least_width ty)) i p n pn
spread no_more = record { count = 0; number = omega arith; reach = omega arith }
spread {pn} (next_element {ty} {p} {v} due m lt es) =
    let h = spread es in
    let number = h.number in
    let reach = h.reach in
    let wide : p + least_width ty ≤ end_of v = means_wide m in
    let more = suc-mul h.count (max 1 (least_width ty)) in
    record { count = suc h.count; number = omega arith; reach = omega arith }

pub tries_few : TriesAreFew
tries_few bits ty order s extent levels n inside pn k j le es =
    let h = spread es in
    let number = h.number in
    let reach = h.reach in
    let end = elements_inside es le in
    let most : h.count ≤ length bits / max 1 (least_width ty) =
    (le-div_iff_mul-le {k = max 1 (least_width ty)} {x = h.count} {y = length bits} (omega arith)).1 (omega arith) in
    omega arith
