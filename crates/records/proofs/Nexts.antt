-- What is mapped and written of the next record.
use Rattle.std.proofs.Common.{◌≡◌, ◌∙◌, ◌<◌, ◌≤◌, ◌+◌, ◌-◌, ◌*◌, ℕ, Bool, true, false, List, [], ◌∷◌, Option, Ok, refl, sym, ap, subst, arith}
use Rattle.std.proofs.KnownBytes.{Appends-nil}
use Rattle.std.proofs.lemmas.List.{append-nil}
use Rattle.std.specs.Borrow.{Bor}
use Rattle.std.specs.Io.KnownBytes.{Appends}
use Rattle.std.specs.List.{concat}
use Rattle.bit_space.proofs.Failures.{keeps_all}
use Rattle.bit_space.specs.Bits.{bits_of}
use Rattle.bit_space.specs.SpaceView.{SpaceView, Keeps}
use Rattle.command_line.specs.declared.ask.Ask.{Ask}
use Rattle.command_line.specs.declared.terms.Terms.{Terms}
use Rattle.pickle_meaning.specs.Answer.{Answer}
use Rattle.pickle_meaning.specs.Clauses.{ends_array}
use Rattle.pickle_meaning.specs.Fits.{Fits}
use Rattle.pickle_meaning.specs.Values.{Value, end_of, no_values}
use Rattle.pickle_meaning.specs.declared.faults.MapFault.{MapFault}
use Rattle.pickle_meaning.specs.declared.faults.MapFaultKind.TheVariants as fault
use Rattle.pickle_types.specs.TypeTable.{type_named}
use Rattle.pickle_types.specs.Types.{PokeType}
use Rattle.pickle_types.specs.declared.table.Table.{Table}
use Rattle.pickle_types.specs.declared.table.TypeId.{TypeId}
use Rattle.poke_batch.specs.Runs.{IsAsked}
use Rattle.poke_batch.specs.RunsUnder.{AreLightUnder, MapsUnder, WeighsAtMost, end_under_saying}
use Rattle.poke_batch.specs.TypeRuns.{run_type}
use Rattle.poke_batch.specs.declared.type_run.TypeRun.{TypeRun}
use Rattle.records.specs.Next.{EndsHere, EndsHereBy, GoesOn, GoesOnBy, HasFault, HoldsValue, IsNotPut, IsUntold, PutsDue, PutsHeld, cut_off, has_outcome, is_cut, is_empty, is_unput, is_untold, lacks_memory, no_more, omits, puts}
use Rattle.records.specs.Records.{IsRecord, after, ask_at, goes_on, is_counted, is_written}
use Rattle.records.specs.Written.{AddsOne, BreaksAt, EndsList, Gathers, IsRunAt, Stops, Tells, Writes, at_value, breaks, dropped, left_at, no_bits, no_memory, omitted, stopped, unwritten, written}
use Rattle.records.specs.declared.listing.Listing.{Listing}
use Rattle.records.specs.declared.listing.Progress.{Progress}
use Rattle.records.proofs.Lists.{still_on}
use Rattle.run_parts.specs.Outcomes.{outcome_saying}
use Rattle.run_parts.specs.Told.{AppendsUpTo}
use Rattle.run_parts.specs.declared.outcome.Outcome.{Outcome}
use Rattle.run_parts.specs.declared.outcome.Failure.TheVariants as failure
use Rattle.run_parts.specs.declared.outcome.Outcome.TheVariants as outcome
use Rattle.text_output.proofs.Parts.{Appends-keeps}
use Rattle.value_store.specs.Slots.{Held}

pub view_kept : (view : SpaceView) → Keeps view view
view_kept view = record { len = refl; bytes = refl; failures = omega arith }

same_type : (run next : TypeRun) (at : Progress) → IsRunAt run at next → run_type next ≡ run_type run
same_type run next at h =
    ap (λ (t : Bor Table). type_named t.now next.id) h.table
    ∙ ap (λ (id : TypeId). type_named run.table.now id) h.id

-- what is stored weighed as much when a list began
pub light_since : {first before : SpaceView} {terms : Terms} {type : PokeType} {ask : Ask} → Keeps first before
    → AreLightUnder terms type ask before → AreLightUnder terms type ask first
light_since {first} {before} {terms} {type} {ask} since h = record {
  light = λ most given bytes known.
      subst (λ (len : ℕ). WeighsAtMost most type ask (8 * len) bytes) since.len
      (h.light most given bytes (since.bytes ∙ known));
}

module _ (run next : TypeRun) (listing : Listing) (first before : SpaceView) (at : Progress)
    (is_next : IsRunAt run at next)
    (since : Keeps first before) (due : at.place < 8 * first.len) (paid : 0 < at.left) where
  -- the value that a store holds is the next record
  pub is_record : (store : Held) (steps : ℕ) (h : HoldsValue next before store steps) →
      IsRecord run first at h.value steps
  is_record store steps h = record {
    due = due;
    paid = paid;
    few = subst (λ (ask : Ask). steps ≤ ask.limit) is_next.ask h.few;
    made = h.made;
    means = λ bytes known.
        subst
        (λ (ask : Ask). Answer (bits_of bytes) (run_type run) ask.order ask.start ask.limit (Ok h.value) steps h.made)
        is_next.ask
        (subst
        (λ (ty : PokeType).
        Answer (bits_of bytes) ty next.ask.now.order next.ask.now.start next.ask.now.limit (Ok h.value) steps h.made)
        (same_type run next at is_next) (h.means bytes (since.bytes ∙ known)));
    fits =
        subst (λ (ask : Ask). Fits (8 * first.len) (run_type run) no_values ask.start h.value) is_next.ask
        (subst (λ (ty : PokeType). Fits (8 * first.len) ty no_values next.ask.now.start h.value)
        (same_type run next at is_next)
        (subst (λ (len : ℕ). Fits (8 * len) (run_type next) no_values next.ask.now.start h.value) since.len h.fits));
    light =
        subst (λ (terms : Bor Terms). AreLightUnder terms.now (run_type run) (ask_at at run.ask.now) first)
        is_next.terms
        (subst (λ (ask : Ask). AreLightUnder next.terms.now (run_type run) ask first) is_next.ask
        (subst (λ (ty : PokeType). AreLightUnder next.terms.now ty next.ask.now first) (same_type run next at is_next)
        (light_since since h.light)));
  }

  -- what a mapping says that has a fault
  pub is_stop : (pickle : List ℕ) (done : SpaceView) (why : MapFault) → Keeps before done
      → IsAsked pickle run.ask.now.name.now (run_type run) → HasFault next before done why
      → Stops pickle run first done at why.kind why.at
  is_stop pickle done why during asked has = record {
    paid = paid;
    begun = before;
    done = done;
    since = since;
    during = during;
    until = view_kept done;
    says =
        subst (λ (terms : Bor Terms). MapsUnder pickle (ask_at at run.ask.now) terms.now before done
        (end_under_saying terms.now.most_slots terms.now.most_bytes at.place why.kind why.at)) is_next.terms
        (subst (λ (ask : Ask). MapsUnder pickle ask next.terms.now before done
        (end_under_saying next.terms.now.most_slots next.terms.now.most_bytes ask.start why.kind why.at)) is_next.ask
        (has.says pickle
        (subst (λ (ask : Ask). IsAsked pickle ask.name.now (run_type next)) (sym is_next.ask)
        (subst (λ (ty : PokeType). IsAsked pickle run.ask.now.name.now ty) (sym (same_type run next at is_next))
        asked))));
  }

-- how a list ends whose next record has a fault
pub ends_faulty : (pickle : List ℕ) (run : TypeRun) (listing : Listing) (first last : SpaceView) (at : Progress)
    (why : MapFault) (ended : Outcome) → goes_on listing at (8 * first.len) ≡ true
    → Stops pickle run first last at why.kind why.at → (ends_array why.kind ≡ true → ended ≡ left_at listing at.place)
    → (ends_array why.kind ≡ false
    → outcome_saying ended
    ≡ end_under_saying run.terms.now.most_slots run.terms.now.most_bytes at.place why.kind why.at)
    → EndsList pickle run listing first last at ended
ends_faulty pickle run listing first last at why ended on stop drops says = by_kind (ends_array why.kind) refl
  where
    by_kind : (b : Bool) → ends_array why.kind ≡ b → EndsList pickle run listing first last at ended
    by_kind true e = subst (λ (o : Outcome). EndsList pickle run listing first last at o) (sym (drops e))
        (breaks on (dropped e stop))
    by_kind false e = breaks on (stopped e stop (says e))

module _ (IsNext : Progress → Value → (steps : ℕ) → Type 0) (run next : TypeRun) (listing : Listing)
    (first begun done : SpaceView) (at : Progress)
    (is_next : IsRunAt run at next) (since : Keeps first begun) (during : Keeps begun done) (value : Value) (steps : ℕ)
    (mapped : IsNext at value steps) (on : is_counted listing at.count ≡ false) where
  tells : (ended : Outcome) (text : List ℕ) → Gathers next listing at.count begun done value ended text →
      Tells run listing first at value ended text
  tells ended text ends = record {
    next = next;
    is_next = is_next;
    begun = begun;
    done = done;
    since = since;
    during = during;
    ends = ends;
  }

  starts : next.ask.now.start ≡ at.place
  starts = ap (λ (ask : Ask). ask.start) is_next.ask

  forward : next.ask.now.start < end_of value → at.place < end_of value
  forward moves = subst (λ (start : ℕ). start < end_of value) starts moves

  adds : (more : List (List ℕ)) → at.place < end_of value → Writes run listing first at value more →
      AddsOne IsNext run listing first at (after at value steps) more
  adds more moves writes = record {
    on = on;
    value = value;
    steps = steps;
    mapped = mapped;
    moves = moves;
    writes = writes;
    is_after = refl;
  }

  -- what is due of a record is written
  due_written : (out out' : Option (List ℕ)) (more : List (List ℕ)) →
      PutsDue next listing at.count begun done value out out' more →
      Writes run listing first at value more × Appends out out' (concat more)
  due_written out out' _ (omits skipped keeps) =
      (omitted skipped, Appends-keeps out out out' [] (Appends-nil out) keeps)
  due_written out out' _ (puts due put) = (
    written due (tells outcome.Done put.text put.gathers),
    subst (λ (text : List ℕ). Appends out out' text) (sym (append-nil put.text)) put.takes,
  )

  pub goes : (out out' : Option (List ℕ)) (end : ℕ) → PutsHeld next listing at.count begun done value out out' end →
      GoesOnBy IsNext run listing first at out out'
      (record { place = end; count = at.count + 1; left = at.left - 1 - steps })
  goes out out' end h =
      let both = due_written out out' h.more h.due in
      subst
      (λ (place : ℕ). GoesOnBy IsNext run listing first at out out'
      (record { place = place; count = at.count + 1; left = at.left - 1 - steps }))
      (sym h.is_end) (record { more = h.more; adds = adds h.more (forward h.moves) both.0; takes = both.1 })

  -- how the list ends where it isn't
  module _ (Ends : Progress → Outcome → Type 0)
      (breaks : (ended : Outcome) → BreaksAt IsNext run listing first done at ended → Ends at ended)
      (memory : Ends at (outcome.Failed failure.Memory)) where
    untold_ends : (ended : Outcome) → at.place < end_of value → is_written listing at.count ≡ true →
        IsUntold next listing at.count begun done value ended → Ends at ended
    unfolding tells
    untold_ends _ moves due (has_outcome {ended = ended} {text = text} other ends) =
        breaks _ (unwritten mapped moves due other (tells ended text ends) (view_kept done))
    untold_ends _ moves due lacks_memory = memory

    pub ends_not_put : (out out' : Option (List ℕ)) (ended : Outcome) →
        IsNotPut next listing at.count begun done value out out' ended →
        EndsHereBy IsNext Ends run listing first at out out' ended
    ends_not_put out out' _ (is_empty still keeps) =
        no_more
        (subst (λ (place : ℕ). Ends at (outcome.Fault (record { kind = fault.NoBits; at = place })))
        (sym starts) (breaks _ (no_bits mapped (still ∙ starts)))) keeps
    ends_not_put out out' ended (is_unput moves due (is_untold told keeps)) =
        no_more (untold_ends ended (forward moves) due told) keeps
    ends_not_put out out' _ (is_unput moves due (is_cut put)) =
        cut_off (adds (put.text ∷ []) (forward moves) (written due (tells outcome.Done put.text put.gathers))) due
        (subst (λ (text : List ℕ). AppendsUpTo out out' text) (sym (append-nil put.text)) put.takes)

-- a list went on when it began too
pub on_since : (listing : Listing) (at : Progress) (first before : SpaceView) → Keeps first before
    → goes_on listing at (8 * before.len) ≡ true → goes_on listing at (8 * first.len) ≡ true
on_since listing at first before since on = subst (λ (len : ℕ). goes_on listing at (8 * len) ≡ true) since.len on

-- the next record, from what its run stored
module _ (run : TypeRun) (listing : Listing) (first : SpaceView) (at : Progress) where
  pub next_goes : {next : TypeRun} {before : SpaceView} {store : Held} {steps : ℕ}
      (h : HoldsValue next before store steps) (begun done : SpaceView)
      → IsRunAt run at next → Keeps first before → Keeps before begun → Keeps begun done → 0 < at.left
      → goes_on listing at (8 * before.len) ≡ true → (out out' : Option (List ℕ)) (end : ℕ)
      → PutsHeld next listing at.count begun done h.value out out' end
      → GoesOn run listing first at out out'
      (record { place = end; count = at.count + 1; left = at.left - 1 - steps })
  next_goes {next} {before} {store} {steps} h begun done is_next since mapping writing paid on out out' end put =
      let still = on_since listing at first before since on in
      let goes_on = still_on listing at (8 * first.len) still in
      goes (IsRecord run first) run next listing first begun done at is_next (keeps_all since mapping) writing h.value
      steps (is_record run next listing first before at is_next since goes_on.1 paid store steps h) goes_on.0
      out out' end put

  pub next_not_put : {next : TypeRun} {before : SpaceView} {store : Held} {steps : ℕ}
      (h : HoldsValue next before store steps) (begun done : SpaceView)
      → IsRunAt run at next → Keeps first before → Keeps before begun → Keeps begun done → 0 < at.left
      → goes_on listing at (8 * before.len) ≡ true → (pickle : List ℕ) (out out' : Option (List ℕ)) (ended : Outcome)
      → IsNotPut next listing at.count begun done h.value out out' ended
      → EndsHere pickle run listing first done at out out' ended
  next_not_put {next} {before} {store} {steps} h begun done is_next since mapping writing paid on pickle out out' ended
      why =
      let still = on_since listing at first before since on in
      let goes_on = still_on listing at (8 * first.len) still in
      ends_not_put (IsRecord run first) run next listing first begun done at is_next (keeps_all since mapping) writing
      h.value steps (is_record run next listing first before at is_next since goes_on.1 paid store steps h) goes_on.0
      (EndsList pickle run listing first done) (λ ended why. breaks still (at_value why)) no_memory
      out out' ended why

  pub next_faulty : {next : TypeRun} {before done : SpaceView} {why : MapFault} (h : HasFault next before done why)
      → IsRunAt run at next → Keeps first before → Keeps before done → 0 < at.left
      → goes_on listing at (8 * before.len) ≡ true
      → (pickle : List ℕ) → IsAsked pickle run.ask.now.name.now (run_type run) → (ended : Outcome)
      → (ends_array why.kind ≡ true → ended ≡ left_at listing at.place)
      → (ends_array why.kind ≡ false
      → outcome_saying ended
      ≡ end_under_saying run.terms.now.most_slots run.terms.now.most_bytes at.place why.kind why.at)
      → EndsList pickle run listing first done at ended
  next_faulty {next} {before} {done} {why} h is_next since mapping paid on pickle asked ended drops says =
      let still = on_since listing at first before since on in
      ends_faulty pickle run listing first done at why ended still
      (is_stop run next listing first before at is_next since (still_on listing at (8 * first.len) still).1 paid
      pickle done why mapping asked h) drops says
