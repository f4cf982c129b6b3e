-- The tighter bound on slots.
use Rattle.std.proofs.Common.{ℕ, ◌+◌, ◌-◌, ◌<◌, ◌≤◌, ◌^◌, length, List, [], drop, arith, length-take}
use Rattle.std.specs.Prelude.{slice_range}
use Rattle.std.proofs.Math.Nat.{pow-le-pow_right}
use Rattle.bit_space.specs.declared.order.Order.{Order}
use Rattle.bit_space.specs.Bits.{bits_of, AreDigits}
use Rattle.bit_space.proofs.Digits.{digits_front, digits_back, bits_of_digits}
use Rattle.bit_space.proofs.Signs.{number_of_bits_below}
use Rattle.pickle_meaning.specs.Numbers.{number_at}
use Rattle.pickle_meaning.specs.Values.{Levels}
use Rattle.pickle_meaning.specs.Room.{Slot, slots}
use Rattle.mapping_plans.specs.Plan.{Plan, Ended, Tick, Made, Read, steps_of, Always, result, after_tick, after_made, after_read}
use Rattle.mapping_plans.specs.Mapping.{plan}
use Rattle.mapping_plans.proofs.Exists.{plan_means}
use Rattle.mapping_plans.proofs.Rooms.{room_enough}
use Rattle.tight_bounds.specs.Tight.{tight, tight_slots}
use Rattle.tight_bounds.specs.Laws.{KeptOn, kept_end, kept_tick, kept_made, kept_read, SlotsAreTight}
use Rattle.tight_bounds.proofs.Paid.{Paid, paid_end, paid_tick, paid_made, paid_read, plan_paid}
use Rattle.tight_bounds.proofs.Tighter.{outcomes_tight}

-- the number of some bits of a file has no more binary digits than there are bits
number_on : (bytes : List ℕ) (order : Order) (place width : ℕ) → number_at (bits_of bytes) order place width < 2 ^ width
number_on bytes order place width =
    let bits = bits_of bytes in
    let range = slice_range bits place (place + width) in
    let d : AreDigits range = digits_front _ _ (digits_back place bits (bits_of_digits bytes)) in
    let below = number_of_bits_below order range d in
    let short : length range ≤ width = omega (arith, length-take (place + width - place) (drop place bits)) in
    let wide : 2 ^ length range ≤ 2 ^ width = pow-le-pow_right (omega arith) short in
    omega arith

-- what is always kept is kept on a file's bits
always_kept : {A : Type 0} {M : Levels → Type 0} {Q : A → Type 0} (bytes : List ℕ) (p : Plan A) → Always M Q p →
    KeptOn (bits_of bytes) M p
always_kept bytes (Ended a) (result h) = kept_end
always_kept bytes (Tick p) (after_tick h) = kept_tick (always_kept bytes p h)
always_kept bytes (Made count move levels p) (after_made l h) = kept_made l (always_kept bytes p h)
always_kept bytes (Read place width order rest) (after_read h) =
    let n = number_at (bits_of bytes) order place width in
    kept_read (always_kept bytes (rest n) (h n (number_on bytes order place width)))

-- slots that steps have paid are no more than all steps
paid_kept : {kind : Slot} {A : Type 0} {Q : ℕ → A → Type 0} (bits : List ℕ) (b : ℕ) (p : Plan A) (n : ℕ) →
    Paid kind Q p n → n + steps_of bits p ≤ b → KeptOn bits (λ kept. slots kind kept ≤ b) p
paid_kept bits b (Ended a) n (paid_end h) le = kept_end
paid_kept bits b (Tick p) n (paid_tick h) le = kept_tick (paid_kept bits b p (n + 1) h (omega arith))
paid_kept bits b (Made count move levels p) n (paid_made l h) le =
    kept_made (omega arith) (paid_kept bits b p n h le)
paid_kept bits b (Read place width order rest) n (paid_read h) le =
    let x = number_at bits order place width in kept_read (paid_kept bits b (rest x) n (h x) le)

-- two facts about what is kept
both_kept : {A : Type 0} {M N R : Levels → Type 0} (bits : List ℕ) (p : Plan A) →
    ((kept : Levels) → M kept → N kept → R kept) → KeptOn bits M p → KeptOn bits N p → KeptOn bits R p
both_kept bits (Ended a) f kept_end kept_end = kept_end
both_kept bits (Tick p) f (kept_tick h) (kept_tick g) = kept_tick (both_kept bits p f h g)
both_kept bits (Made count move levels p) f (kept_made l h) (kept_made k g) =
    kept_made (f levels l k) (both_kept bits p f h g)
both_kept bits (Read place width order rest) f (kept_read h) (kept_read g) =
    kept_read (both_kept bits (rest (number_at bits order place width)) f h g)

pub slots_tight : SlotsAreTight
unfolding tight_slots
slots_tight bytes ty order s kind =
    let bits = bits_of bytes in
    let m = length bits in
    let p = plan m ty order [] s in
    let few : steps_of bits p ≤ tight ty m = outcomes_tight bits ty order [] s _ _ _ (plan_means bits ty order [] s) in
    both_kept bits p (λ kept one other. omega arith) (always_kept bytes p (room_enough m ty order [] s kind))
    (paid_kept bits (tight ty m) p 0 (plan_paid kind 0 m ty order [] s 0 (omega arith)) (omega arith))
