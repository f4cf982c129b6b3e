-- What is mapped and written of the next element of a list.
use Rattle.std.proofs.Common.{◌≡◌, ◌∙◌, ◌<◌, ◌≤◌, ◌+◌, ◌-◌, ◌*◌, ◌^◌, max, ℕ, Bool, true, false, List, Option, Some, None, Result, Ok, Err, refl, sym, ap, subst, arith}
use Rattle.bit_space.proofs.Failures.{keeps_all, risen_later}
use Rattle.bit_space.specs.SpaceView.{SpaceView, HasRisen, Keeps}
use Rattle.inner_lists.specs.Calls.{Claim, StopsAt}
use Rattle.inner_records.specs.Elements.{Breaks, EndsElements, IsElement, StopsElement, at_value, breaks, dropped, element_is, ended_at, is_left, is_next_due, no_memory, stopped}
use Rattle.inner_records.specs.Next.{GoesOn, HoldsElement}
use Rattle.inner_records.specs.declared.stored.Stored.{Stored}
use Rattle.list_laws.specs.Meanings.{AreBytes, SpaceBytes, bytes_in, meaning_in}
use Rattle.list_laws.specs.Reaches.{Listed}
use Rattle.mapping_plans.proofs.Fitting.{fits_inside}
use Rattle.pickle_map.specs.Mapped.{fault_of}
use Rattle.pickle_map.specs.Stops.{stop_ends}
use Rattle.pickle_map.specs.declared.mapper.stop.Stop.{Stop}
use Rattle.pickle_map.specs.declared.mapper.stop.Stop.TheVariants.{Fault, Limit, Device, Memory}
use Rattle.pickle_meaning.specs.Clauses.{FaultAt}
use Rattle.pickle_meaning.specs.Values.{opened}
use Rattle.poke_batch.proofs.UnderTerms.{fits_start, starts_before_end}
use Rattle.poke_batch.specs.RunsUnder.{end_under_saying}
use Rattle.poke_batch.specs.declared.type_run.TypeRun.{TypeRun}
use Rattle.records.proofs.Nexts.{ends_not_put, goes}
use Rattle.records.specs.Next.{EndsHereBy, IsHeld, IsNotPut, PutsHeld}
use Rattle.records.specs.Records.{is_counted}
use Rattle.records.specs.Written.{IsRunAt}
use Rattle.records.specs.declared.listing.Listing.{Listing}
use Rattle.records.specs.declared.listing.Progress.{Progress}
use Rattle.run_parts.specs.Outcomes.{outcome_saying}
use Rattle.run_parts.specs.declared.outcome.Outcome.{Outcome}
use Rattle.run_parts.specs.declared.outcome.Outcome.TheVariants as outcome

-- ---- spaces at two times

abbrev bytes_with : (len : ℕ) → Option (List ℕ) → SpaceBytes
bytes_with len bytes = record { len = len; bytes = bytes }

-- the same is known of a space that was kept
pub same_bytes : {first before : SpaceView} → Keeps first before → bytes_in before ≡ bytes_in first
same_bytes {first} {before} since =
    ap (λ (len : ℕ). bytes_with len before.bytes) since.len
    ∙ ap (λ (bytes : Option (List ℕ)). bytes_with first.len bytes) since.bytes

-- an element is due as it was
pub due_since : (list : Listed) (at : Progress) {first before : SpaceView} → Keeps first before
    → is_next_due list (8 * before.len) at ≡ true → is_next_due list (8 * first.len) at ≡ true
due_since list at since due = subst (λ (len : ℕ). is_next_due list (8 * len) at ≡ true) since.len due

-- ---- how a list ends

-- how it ends by its extent and the greatest end before it
pub same_end : (list other : Listed) (is_last : Bool) (listing : Listing) (place bits : ℕ)
    → list.extent ≡ other.extent → list.top ≡ other.top
    → ended_at other is_last listing place bits ≡ ended_at list is_last listing place bits
same_end list other is_last listing place bits extent top = rw (extent, top) refl

-- a stop in a space that was kept
stops_since : {R : Type 0} (claim : Claim R) (fault : FaultAt → R) (limit from after failures : ℕ)
    (first before : SpaceView) (since : Keeps first before) → before.failures ≤ failures → (stop : Stop)
    → StopsAt (bytes_in before) (HasRisen before.failures failures) claim fault limit from after stop
    → StopsAt (bytes_in first) (HasRisen first.failures failures) claim fault limit from after stop
stops_since claim fault limit from after failures first before since rise (Fault kind place) h =
    subst (λ (space : SpaceBytes). StopsAt space ⊥ claim fault limit from after (Fault kind place)) (same_bytes since) h
stops_since claim fault limit from after failures first before since rise Limit h =
    subst (λ (space : SpaceBytes). StopsAt space ⊥ claim fault limit from after Limit) (same_bytes since) h
stops_since claim fault limit from after failures first before since rise Device h =
    risen_later first.failures before.failures failures since.failures rise h
stops_since claim fault limit from after failures first before since rise Memory h = tt

-- an element that stops ends the list
pub ends_stopped : (run : TypeRun) (listing : Listing) {first before : SpaceView} (last : SpaceView) (list : Listed)
    (is_last : Bool) (at : Progress) (stop : Stop) (after : ℕ) (ended : Outcome) → Keeps first before
    → before.failures ≤ last.failures
    → is_counted listing at.count ≡ false → is_next_due list (8 * before.len) at ≡ true → 0 < at.left
    → StopsElement list before last at after stop
    → (stop_ends list.extent stop ≡ true → ended ≡ ended_at list is_last listing at.place (8 * before.len))
    → (stop_ends list.extent stop ≡ false → outcome_saying ended
    ≡ end_under_saying run.terms.now.most_slots run.terms.now.most_bytes at.place (fault_of stop at.place).kind
    (fault_of stop at.place).at)
    → EndsElements run listing first last list is_last at ended
ends_stopped run listing {first} {before} last list is_last at stop after ended since rise on due
    paid stops drops says =
    breaks on (due_since list at since due) (by_end (stop_ends list.extent stop) refl)
  where
    there : StopsElement list first last at after stop
    there =
        stops_since (element_is list at.place) (λ f. Err f) (at.left - 1) 0 after last.failures first before since rise
        stop stops

    by_end : (b : Bool) → stop_ends list.extent stop ≡ b → Breaks run listing first last list is_last at ended
    by_end true e =
        subst (λ (ended : Outcome). Breaks run listing first last list is_last at ended)
        (sym (subst (λ (len : ℕ). ended ≡ ended_at list is_last listing at.place (8 * len)) since.len (drops e)))
        (dropped stop after paid there e)
    by_end false e = stopped stop after paid there e (says e)

-- ---- an element that is stored

-- it ends at a bit that has a number
pub is_held : (next : TypeRun) (list : Listed) (space : SpaceView) (at : Progress) (stored : Stored) (steps : ℕ)
    → space.len < 2 ^ 60 → next.ask.now.start ≡ at.place
    → HoldsElement next list (bytes_in space) at stored steps → IsHeld next stored.store
is_held next list space at stored steps short starts h =
    let fits = (h.holds None tt).fits in
    let inside = fits_inside (8 * space.len) list.element (opened list.levels) at.place h.value fits in
    record {
      value = h.value;
      there = h.there;
      placed = record {
        starts = fits_start (8 * space.len) list.element (opened list.levels) at.place h.value fits ∙ sym starts;
        forward = starts_before_end (8 * space.len) list.element (opened list.levels) at.place h.value fits;
        inside = omega (arith, inside, short);
      };
    }

module _ (run next : TypeRun) (listing : Listing) {first before : SpaceView} (list : Listed) (at : Progress)
    (stored : Stored) (steps : ℕ) (begun done : SpaceView) (is_next : IsRunAt run at next)
    (since : Keeps first before) (mapping : Keeps before begun) (writing : Keeps begun done)
    (on : is_counted listing at.count ≡ false) (due : is_next_due list (8 * before.len) at ≡ true) (paid : 0 < at.left)
    (h : HoldsElement next list (bytes_in before) at stored steps) where
  -- it is the next element
  is_element : IsElement list (bytes_in first) at h.value steps
  is_element = record {
    due = due_since list at since due;
    paid = paid;
    few = h.few;
    holds = subst (λ (space : SpaceBytes). (known : Option (List ℕ)) → AreBytes space known →
        element_is list at.place (meaning_in space known) (Ok h.value) steps) (same_bytes since) h.holds;
  }

  pub element_goes : (out out' : Option (List ℕ)) (end : ℕ)
      → PutsHeld next listing at.count begun done h.value out out' end
      → GoesOn run listing first list at out out'
      (record { place = end; count = at.count + 1; left = at.left - 1 - steps })
  element_goes out out' end put =
      goes (IsElement list (bytes_in first)) run next listing first begun done at is_next (keeps_all since mapping)
      writing h.value steps is_element on out out' end put

  pub element_not_put : (is_last : Bool) (out out' : Option (List ℕ)) (ended : Outcome)
      → IsNotPut next listing at.count begun done h.value out out' ended
      → EndsHereBy (IsElement list (bytes_in first)) (EndsElements run listing first done list is_last) run listing
      first at out out' ended
  element_not_put is_last out out' ended why =
      ends_not_put (IsElement list (bytes_in first)) run next listing first begun done at is_next
      (keeps_all since mapping) writing h.value steps is_element on
      (EndsElements run listing first done list is_last)
      (λ ended why. breaks on (due_since list at since due) (at_value why)) no_memory out out' ended why
