-- The elements of a list so far, and how the list ends.
use Rattle.std.proofs.Common.{◌≡◌, ◌∙◌, ◌<◌, ◌≤◌, ◌*◌, ℕ, true, false, not, List, Option, Some, None, refl, sym, ap, subst, arith}
use Rattle.std.proofs.KnownBytes.{Appends-nil}
use Rattle.std.proofs.lemmas.Bool.{and_parts, not-true}
use Rattle.std.specs.Prelude.{Bool, ◌&&◌, unwrap_or}
use Rattle.bit_space.specs.SpaceView.{SpaceView}
use Rattle.inner_lists.specs.Calls.{listed}
use Rattle.inner_lists.specs.declared.place.ListPlace.{ListPlace}
use Rattle.inner_records.specs.Elements.{EndsElements, IsElement, counted, ended_at, is_next_due, is_on, over, overshot, past_end}
use Rattle.inner_records.specs.Next.{EndsHere, GoesOn, StaysAtList}
use Rattle.inner_records.specs.Stored.{listed_of}
use Rattle.inner_records.specs.Written.{WritesOf, begin_at}
use Rattle.inner_records.specs.declared.elements.Elements.{Elements}
use Rattle.inner_records.specs.declared.stored.Stored.{Stored}
use Rattle.list_laws.specs.Meanings.{bytes_in}
use Rattle.list_laws.specs.Reaches.{Listed}
use Rattle.mapping_plans.proofs.Fitting.{fits_inside}
use Rattle.pickle_meaning.specs.Clauses.{is_met}
use Rattle.pickle_meaning.specs.Values.{Levels, Value, end_of, opened}
use Rattle.pickle_meaning.specs.declared.faults.MapFaultKind.TheVariants as fault
use Rattle.pickle_types.specs.TypeTable.{nodes_of}
use Rattle.poke_batch.specs.declared.type_run.TypeRun.{TypeRun}
use Rattle.records.proofs.Lists.{IsListed}
use Rattle.records.specs.Records.{is_counted}
use Rattle.records.specs.Written.{no_records, writes_all}
use Rattle.records.specs.declared.listing.Listing.{Listing}
use Rattle.records.specs.declared.listing.Progress.{Progress}
use Rattle.run_parts.specs.declared.outcome.Outcome.{Outcome}
use Rattle.run_parts.specs.declared.outcome.Outcome.TheVariants as outcome

-- a list that goes on isn't counted out, and one more element is due
pub on_parts : (list : Listed) (listing : Listing) (bits bits' : ℕ) (at : Progress) (b : Bool) → bits ≡ bits'
    → b ≡ is_on list listing bits at → b ≡ true
    → (is_counted listing at.count ≡ false) × (is_next_due list bits' at ≡ true)
on_parts list listing bits bits' at b same is on =
    let parts = and_parts (not (is_counted listing at.count)) (is_next_due list bits at) (sym is ∙ on) in (
      not-true (is_counted listing at.count) parts.0,
      subst (λ (n : ℕ). is_next_due list n at ≡ true) same parts.1,
    )

-- the frames around the list are as before
module _ (run : TypeRun) (place : ListPlace) where
  pub stays_twice : (stored stored' stored'' : Stored) → StaysAtList run place stored stored'
      → StaysAtList run place stored' stored'' → StaysAtList run place stored stored''
  stays_twice stored stored' stored'' before then = record {
    at_list = then.at_list;
    around = then.around ∙ before.around;
  }

  same_list : (stored stored' : Stored) → StaysAtList run place stored stored' →
      listed_of run place stored' ≡ listed_of run place stored
  same_list stored stored' stays =
      ap (λ (levels : Levels). listed (nodes_of run.table.now) levels place) stays.around

  pub goes_on_there : (listing : Listing) (first : SpaceView) (stored stored' : Stored) (at next : Progress)
      (out out' : Option (List ℕ)) → StaysAtList run place stored stored'
      → GoesOn run listing first (listed_of run place stored') at out out' next
      → GoesOn run listing first (listed_of run place stored) at out out' next
  goes_on_there listing first stored stored' at next out out' stays goes =
      subst (λ (list : Listed). GoesOn run listing first list at out out' next) (same_list stored stored' stays) goes

  pub ends_here_there : (listing : Listing) (first last : SpaceView) (elements : Elements) (stored stored' : Stored)
      (at : Progress) (out out' : Option (List ℕ)) (ended : Outcome) → StaysAtList run place stored stored'
      → EndsHere run listing first last (listed_of run place stored') elements at out out' ended
      → EndsHere run listing first last (listed_of run place stored) elements at out out' ended
  ends_here_there listing first last elements stored stored' at out out' ended stays ends =
      subst (λ (list : Listed). EndsHere run listing first last list elements at out out' ended)
      (same_list stored stored' stays) ends

module _ (run : TypeRun) (listing : Listing) (first : SpaceView) (list : Listed) (is_last : Bool) (begin : Progress)
  where
    -- a list starts past the file's end
    pub starts_past_end : (last : SpaceView) (out : Option (List ℕ)) (bits : ℕ) (ended : Outcome)
        → bits ≡ 8 * first.len → bits < begin.place
        → ended ≡ outcome.Fault (record { kind = fault.End; at = begin.place })
        → WritesOf run listing first last list is_last begin out out begin ended
    starts_past_end last out bits ended same past is =
        subst (λ (o : Outcome). WritesOf run listing first last list is_last begin out out begin o) (sym is)
        (writes_all no_records (past_end (omega (arith, same, past))) (Appends-nil out))

    -- an element ends in the file
    pub element_inside : (at : Progress) (value : Value) (steps : ℕ) → IsElement list (bytes_in first) at value steps →
        end_of value ≤ 8 * first.len
    element_inside at value steps is =
        fits_inside (8 * first.len) list.element (opened list.levels) at.place value (is.holds None tt).fits

    -- a list ends since it doesn't go on
    module _ (last : SpaceView) (at : Progress) (bits : ℕ) (ended : Outcome) (same : bits ≡ 8 * first.len)
        (inside : at.place ≤ bits) (b : Bool) (is : b ≡ is_on list listing bits at) (off : b ≡ false)
        (when_counted : is_counted listing at.count ≡ true → ended ≡ outcome.Done)
        (when_over : is_counted listing at.count ≡ false → is_met list.extent list.start at.place ≡ true →
        ended ≡ ended_at list is_last listing at.place bits)
        (when_overshot : is_counted listing at.count ≡ false → is_met list.extent list.start at.place ≡ false →
        ended ≡ outcome.Fault (record { kind = fault.Bounds; at = list.start })) where
      abbrev Ends : Outcome → Type 0
      Ends o = EndsElements run listing first last list is_last at o

      none_due : is_counted listing at.count ≡ false → is_next_due list (8 * first.len) at ≡ false
      none_due e =
          subst (λ (n : ℕ). is_next_due list n at ≡ false) same
          (ap (λ (full : Bool). not full && is_next_due list bits at) (sym e) ∙ sym is ∙ off)

      by_met : (met : Bool) → is_counted listing at.count ≡ false → is_met list.extent list.start at.place ≡ met →
          Ends ended
      by_met true e m =
          subst Ends (sym (subst (λ (n : ℕ). ended ≡ ended_at list is_last listing at.place n) same (when_over e m)))
          (over e (omega (arith, inside, same)) (none_due e) m)
      by_met false e m = subst Ends (sym (when_overshot e m)) (overshot e (none_due e) m)

      by_count : (full : Bool) → is_counted listing at.count ≡ full → Ends ended
      by_count true e = subst Ends (sym (when_counted e)) (counted e)
      by_count false e = by_met (is_met list.extent list.start at.place) e refl

      pub list_is_over : (out out' : Option (List ℕ))
          → IsListed (IsElement list (bytes_in first)) run listing first begin at out out'
          → WritesOf run listing first last list is_last begin out out' at ended
      list_is_over out out' h = writes_all h.lists (by_count (is_counted listing at.count) refl) h.appends

-- where a list begins that goes on at a bit, if one is given
pub begins_at : (resume : Option ℕ) (start left place : ℕ) → place ≡ unwrap_or resume start →
    ◌≡◌ {A = Progress} (record { place = place; count = 0; left = left }) (begin_at resume start left)
begins_at None start left place is = rw is refl
begins_at (Some bit) start left place is = rw is refl
