-- The elements of a list, and how the list ends.
use Rattle.std.specs.Prelude.{◌≡◌, ℕ, ◌-◌, ◌*◌, ◌<◌, ◌≤◌, max, Bool, true, false, not, ◌&&◌, nat_lt, if◌then◌else◌, List, Option, Result, Ok, Err}
use Rattle.bit_space.specs.SpaceView.{SpaceView, HasRisen}
use Rattle.inner_lists.specs.Calls.{Claim, StopsAt, maps_at}
use Rattle.list_laws.specs.Meanings.{AreBytes, SpaceBytes, bytes_in, meaning_in}
use Rattle.list_laws.specs.Reaches.{Listed}
use Rattle.pickle_map.specs.Mapped.{fault_of}
use Rattle.pickle_map.specs.Stops.{stop_ends}
use Rattle.pickle_map.specs.declared.mapper.stop.Stop.{Stop}
use Rattle.pickle_meaning.specs.Clauses.{FaultAt, is_due, is_met}
use Rattle.pickle_meaning.specs.Values.{Value, opened}
use Rattle.pickle_meaning.specs.declared.extent.Extent.{Extent}
use Rattle.pickle_meaning.specs.declared.extent.Extent.TheVariants.{Open, Count, Size}
use Rattle.pickle_meaning.specs.declared.faults.MapFaultKind.TheVariants as fault
use Rattle.poke_batch.specs.RunsUnder.{end_under_saying}
use Rattle.poke_batch.specs.declared.type_run.TypeRun.{TypeRun}
use Rattle.records.specs.Records.{is_counted}
use Rattle.records.specs.Written.{BreaksAt}
use Rattle.records.specs.declared.listing.Listing.{Listing}
use Rattle.records.specs.declared.listing.Progress.{Progress}
use Rattle.run_parts.specs.Outcomes.{outcome_saying}
use Rattle.run_parts.specs.declared.outcome.Failure.TheVariants as failure
use Rattle.run_parts.specs.declared.outcome.Outcome.{Outcome}
use Rattle.run_parts.specs.declared.outcome.Outcome.TheVariants as outcome

-- what the element of a list is that begins there, beside the frames around the list and an empty one
abbrev pub element_is : Listed → (place : ℕ) → Claim (Result Value FaultAt)
element_is list place = maps_at list.element list.order (opened list.levels) place

-- one more element is due
abbrev pub is_next_due : Listed → (bits : ℕ) → Progress → Bool
is_next_due list bits at = is_due list.extent bits list.start at.count at.place

-- and isn't counted out
abbrev pub is_on : Listed → Listing → (bits : ℕ) → Progress → Bool
is_on list listing bits at = not (is_counted listing at.count) && is_next_due list bits at

-- the next element is this value, in so many steps within those that are left
pub record IsElement (list : Listed) (space : SpaceBytes) (at : Progress) (value : Value) (steps : ℕ) : Type 0 where
  pub due : is_next_due list (8 * space.len) at ≡ true
  pub paid : 0 < at.left
  pub few : steps ≤ at.left - 1
  pub holds : (known : Option (List ℕ)) → AreBytes space known →
      element_is list at.place (meaning_in space known) (Ok value) steps

-- the next element stops so, with the steps that are left
abbrev pub StopsElement : Listed → (first last : SpaceView) → Progress → (after : ℕ) → Stop → Type 0
StopsElement list first last at after stop =
    StopsAt (bytes_in first) (HasRisen first.failures last.failures) (element_is list at.place) (λ f. Err f)
    (at.left - 1) 0 after stop

-- a list without a bound, which is the last field of each struct around it, has ended before the file
abbrev pub is_left : Extent → (is_last : Bool) → Listing → (greatest bits : ℕ) → Bool
is_left Open is_last listing greatest bits = is_last && (not listing.any_end && nat_lt greatest bits)
is_left (Count n) is_last listing greatest bits = false
is_left (Size n) is_last listing greatest bits = false

-- how a list ends without a fault, at a bit
abbrev pub ended_at : Listed → (is_last : Bool) → Listing → (place bits : ℕ) → Outcome
ended_at list is_last listing place bits =
    if is_left list.extent is_last listing (max list.top place) bits then outcome.Left (max list.top place)
    else outcome.Done

module _ (run : TypeRun) (listing : Listing) (first last : SpaceView) (list : Listed) (is_last : Bool)
    (at : Progress) where
  -- How a list that goes on ends at its next element. No step is left; the element has a fault that ends an array
  -- without a bound; it stops otherwise; it is a value without bits, or one that isn't printed under the terms.
  pub data Breaks : Outcome → Type 0 where
    spent : at.left ≡ 0 → Breaks (outcome.Fault (record { kind = fault.Limit; at = at.place }))
    dropped : (stop : Stop) (after : ℕ) → 0 < at.left → StopsElement list first last at after stop
        → stop_ends list.extent stop ≡ true → Breaks (ended_at list is_last listing at.place (8 * first.len))
    stopped : (stop : Stop) (after : ℕ) {ended : Outcome} → 0 < at.left → StopsElement list first last at after stop
        → stop_ends list.extent stop ≡ false
        → outcome_saying ended ≡ end_under_saying run.terms.now.most_slots run.terms.now.most_bytes at.place
        (fault_of stop at.place).kind (fault_of stop at.place).at
        → Breaks ended
    at_value : {ended : Outcome} → BreaksAt (IsElement list (bytes_in first)) run listing first last at ended →
        Breaks ended

  -- How the list ends: enough was written; it goes on past the file's end; no element is due, and the list has ended
  -- or is longer than its size; it ends at the next element; memory didn't suffice.
  pub data EndsElements : Outcome → Type 0 where
    counted : is_counted listing at.count ≡ true → EndsElements outcome.Done
    past_end : 8 * first.len < at.place →
        EndsElements (outcome.Fault (record { kind = fault.End; at = at.place }))
    over : is_counted listing at.count ≡ false → at.place ≤ 8 * first.len
        → is_next_due list (8 * first.len) at ≡ false → is_met list.extent list.start at.place ≡ true
        → EndsElements (ended_at list is_last listing at.place (8 * first.len))
    overshot : is_counted listing at.count ≡ false → is_next_due list (8 * first.len) at ≡ false
        → is_met list.extent list.start at.place ≡ false
        → EndsElements (outcome.Fault (record { kind = fault.Bounds; at = list.start }))
    breaks : {ended : Outcome} → is_counted listing at.count ≡ false → is_next_due list (8 * first.len) at ≡ true
        → Breaks ended → EndsElements ended
    no_memory : EndsElements (outcome.Failed failure.Memory)
