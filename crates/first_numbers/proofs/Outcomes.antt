-- What is known of a type before it is read is so on a file's bits.
use Rattle.std.proofs.Common.{◌≡◌, ℕ, ◌+◌, ◌-◌, ◌<◌, ◌≤◌, ◌^◌, List, Option, Some, None, length, drop, refl, ap, ◌∙◌, subst, arith, length-take}
use Rattle.std.specs.Prelude.{slice_range}
use Rattle.std.specs.Option.{option_map}
use Rattle.std.proofs.lemmas.Option.{none-some, same_Some}
use Rattle.std.proofs.lemmas.Nat.{pow_pos}
use Rattle.std.proofs.Math.Nat.{pow-le-pow_right}
use Rattle.bit_space.specs.declared.order.Order.{Order}
use Rattle.bit_space.specs.Bits.{bits_of, AreDigits}
use Rattle.bit_space.proofs.Digits.{digits_front, digits_back, bits_of_digits}
use Rattle.bit_space.proofs.Signs.{number_of_bits_below}
use Rattle.pickle_meaning.specs.Numbers.{number_at}
use Rattle.mapping_plans.specs.Plan.{Plan, Ended, Tick, Made, Read, result_of, steps_of, made_of}
use Rattle.mapping_plans.specs.Mapping.{plan}
use Rattle.mapping_plans.proofs.Exists.{plan_means}
use Rattle.mapping_plans.proofs.Planned.{means_one}
use Rattle.first_numbers.specs.Laws.{FixedAreValues, MissesAreFaults, MissesAreOutcomes}
use Rattle.first_numbers.specs.Layouts.{Fixed}
use Rattle.first_numbers.specs.Runs.{Along, along_ended, along_tick, along_made, along_read, CanRead}
use Rattle.first_numbers.proofs.Misses.{LayoutHolds, layout_holds}

-- the number of some bits of a file has no more binary digits than there are bits
number_fits : (bytes : List ℕ) (order : Order) (place width : ℕ) →
    number_at (bits_of bytes) order place width < 2 ^ width
number_fits bytes order place width =
    let bits = bits_of bytes in
    let range = slice_range bits place (place + width) in
    let d : AreDigits range = digits_front _ _ (digits_back place bits (bits_of_digits bytes)) in
    let below = number_of_bits_below order range d in
    let short : length range ≤ width = omega (arith, length-take (place + width - place) (drop place bits)) in
    let wide : 2 ^ length range ≤ 2 ^ width = pow-le-pow_right (omega arith) short in
    omega arith

-- numbers can be read of a file, whether its bytes are known or not
pub can_read : (bytes : Option (List ℕ)) → CanRead (option_map bits_of bytes)
can_read None order place width =
    (0, record { fits = pow_pos width; exact = λ bits e. absurd (none-some bits e) })
can_read (Some bytes) order place width = (
  number_at (bits_of bytes) order place width,
  record {
    fits = number_fits bytes order place width;
    exact = λ bits e. ap (λ (bits : List ℕ). number_at bits order place width) (same_Some (bits_of bytes) bits e);
  },
)

-- a run on a file's bits
pub on_bits : {A : Type 0} (bits : List ℕ) (p : Plan A) (a : A) (k j : ℕ) → Along (Some bits) p a k j →
    (result_of bits p ≡ a) × (steps_of bits p ≡ k) × (made_of bits p ≡ j)
on_bits bits (Ended b) _ _ _ along_ended = (refl, refl, refl)
on_bits bits (Tick p) a _ j (along_tick {k = k} h) =
    let r = on_bits bits p a k j h in (r.0, ap (λ n. 1 + n) r.1, r.2)
on_bits bits (Made count move levels p) a k _ (along_made {j = j} h) =
    let r = on_bits bits p a k j h in (r.0, r.1, ap (λ n. count + n) r.2)
on_bits bits (Read place width order rest) a k j (along_read n may h) =
    let r = on_bits bits (rest n) a k j h in
    let same : n ≡ number_at bits order place width = may.exact bits refl in (
      subst (λ x. result_of bits (rest x) ≡ a) same r.0,
      subst (λ x. steps_of bits (rest x) ≡ k) same r.1,
      subst (λ x. made_of bits (rest x) ≡ j) same r.2,
    )

pub misses_are_faults : MissesAreFaults
misses_are_faults known m ty f order levels s k can is le fails =
    subst (LayoutHolds known m ty) is (layout_holds known m can ty) order levels s k le fails

pub misses_are_outcomes : MissesAreOutcomes
misses_are_outcomes bytes ty f order levels s k r steps made is le fails means =
    let bits = bits_of bytes in
    let h = misses_are_faults (Some bits) (length bits) ty f order levels s k (can_read (Some bytes)) is le fails in
    let on = on_bits bits (plan (length bits) ty order levels s) _ _ _ h.1 in
    let one = means_one means (plan_means bits ty order levels s) in
    (one.0 ∙ on.0, one.1 ∙ on.1)

pub fixed_are_values : FixedAreValues
fixed_are_values bytes ty width steps order levels s r k j is le means =
    let bits = bits_of bytes in
    let h : LayoutHolds (Some bits) (length bits) ty (Fixed width steps) =
    subst (LayoutHolds (Some bits) (length bits) ty) is
    (layout_holds (Some bits) (length bits) (can_read (Some bytes)) ty) in
    let v = h order levels s le in
    let on = on_bits bits (plan (length bits) ty order levels s) _ _ _ v.2.1 in
    let one = means_one means (plan_means bits ty order levels s) in
    (v.0, one.0 ∙ on.0, v.1, one.1 ∙ on.1)
