-- What is written of the records of a list, and how the list ends.
use Rattle.std.specs.Prelude.{◌≡◌, ◌≢◌, ◌<◌, ◌*◌, ℕ, true, false, List, [], ◌∷◌, ◌++◌, Option, Some, if◌then◌else◌}
use Rattle.std.specs.List.{concat}
use Rattle.std.specs.Io.KnownBytes.{Appends}
use Rattle.bit_space.specs.SpaceView.{SpaceView, Keeps}
use Rattle.pickle_meaning.specs.Clauses.{ends_array}
use Rattle.pickle_meaning.specs.Values.{Value, end_of}
use Rattle.pickle_meaning.specs.declared.faults.MapFaultKind.{MapFaultKind}
use Rattle.pickle_meaning.specs.declared.faults.MapFaultKind.TheVariants as fault
use Rattle.poke_batch.specs.FileLine.{in_memory}
use Rattle.poke_batch.specs.RunsUnder.{MapsUnder, end_under_saying}
use Rattle.poke_batch.specs.TypeRuns.{TellsValue}
use Rattle.poke_batch.specs.declared.type_run.TypeRun.{TypeRun}
use Rattle.records.specs.Records.{IsRecord, ask_at, after, first_of, goes_on, is_counted, is_written, separator}
use Rattle.records.specs.declared.listing.Listing.{Listing}
use Rattle.records.specs.declared.listing.Progress.{Progress}
use Rattle.run_parts.specs.Outcomes.{EndsAs, outcome_saying}
use Rattle.run_parts.specs.Told.{AppendsUpTo}
use Rattle.run_parts.specs.declared.outcome.Failure.TheVariants as failure
use Rattle.run_parts.specs.declared.outcome.Outcome.{Outcome}
use Rattle.run_parts.specs.declared.outcome.Outcome.TheVariants as outcome

-- the same run, whose mapping starts where the next record does, with the steps that are left
pub record IsRunAt (run : TypeRun) (at : Progress) (next : TypeRun) : Type 0 where
  pub table : next.table ≡ run.table
  pub id : next.id ≡ run.id
  pub terms : next.terms ≡ run.terms
  pub ask : next.ask.now ≡ ask_at at run.ask.now

-- how that run prints a value, into memory, after what separates it from the one before
abbrev pub Gathers : TypeRun → Listing → (before : ℕ) → (begun done : SpaceView) → Value → Outcome →
    (text : List ℕ) → Type 0
Gathers run listing before begun done value ended text = EndsAs (TellsValue run begun done value) ended
    (Some (separator listing run.ask.now.mode before)) (Some text)

-- the same of the next record of a list, at some time since the list began
pub record Tells (run : TypeRun) (listing : Listing) (first : SpaceView) (at : Progress) (value : Value)
    (ended : Outcome) (text : List ℕ) : Type 0 where
  pub next : TypeRun
  pub is_next : IsRunAt run at next
  pub begun : SpaceView
  pub done : SpaceView
  pub since : Keeps first begun
  pub during : Keeps begun done
  pub ends : Gathers next listing at.count begun done value ended text

-- what is written of a record before the list goes on
pub data Writes (run : TypeRun) (listing : Listing) (first : SpaceView) (at : Progress) (value : Value) :
    (lines : List (List ℕ)) → Type 0 where
  omitted : is_written listing at.count ≡ false → Writes run listing first at value []
  written : {text : List ℕ} → is_written listing at.count ≡ true
      → Tells run listing first at value outcome.Done text → Writes run listing first at value (text ∷ [])

-- the next record is mapped, which is this value in so many steps, and this is due of it, before the list goes on
pub record AddsOne (IsNext : Progress → Value → (steps : ℕ) → Type 0) (run : TypeRun) (listing : Listing)
    (first : SpaceView) (at next : Progress) (more : List (List ℕ)) : Type 0 where
  pub on : is_counted listing at.count ≡ false
  pub value : Value
  pub steps : ℕ
  pub mapped : IsNext at value steps
  pub moves : at.place < end_of value
  pub writes : Writes run listing first at value more
  pub is_after : next ≡ after at value steps

-- a list goes on from `begin` so far, with these texts
pub data ListsFrom (IsNext : Progress → Value → (steps : ℕ) → Type 0) (run : TypeRun) (listing : Listing)
    (first : SpaceView) (begin : Progress) : Progress → (lines : List (List ℕ)) → Type 0 where
  no_records : ListsFrom IsNext run listing first begin begin []
  one_more : {at next : Progress} {lines more : List (List ℕ)} → ListsFrom IsNext run listing first begin at lines
      → AddsOne IsNext run listing first at next more → ListsFrom IsNext run listing first begin next (lines ++ more)

-- the same of the values of a run's type, from where the run starts
abbrev pub Adds : TypeRun → Listing → (first : SpaceView) → (at next : Progress) → (more : List (List ℕ)) → Type 0
Adds run listing first at next more = AddsOne (IsRecord run first) run listing first at next more

abbrev pub Lists : TypeRun → Listing → (first : SpaceView) → Progress → (lines : List (List ℕ)) → Type 0
Lists run listing first at lines =
    ListsFrom (IsRecord run first) run listing first (first_of run.ask.now) at lines

-- how a list ends before the file does, at a bit
abbrev pub left_at : Listing → (place : ℕ) → Outcome
left_at listing place = if listing.any_end then outcome.Done else outcome.Left place

-- what a mapping of the next record says that has a fault, at some time between two views of the space
pub record Stops (pickle : List ℕ) (run : TypeRun) (first last : SpaceView) (at : Progress) (kind : MapFaultKind)
    (place : ℕ) : Type 0 where
  pub paid : 0 < at.left
  pub begun : SpaceView
  pub done : SpaceView
  pub since : Keeps first begun
  pub during : Keeps begun done
  pub until : Keeps done last
  pub says : MapsUnder pickle (ask_at at run.ask.now) run.terms.now begun done
      (end_under_saying run.terms.now.most_slots run.terms.now.most_bytes at.place kind place)

-- how a list ends at a value that is the next record: it has no bits, or isn't printed under the terms
pub data BreaksAt (IsNext : Progress → Value → (steps : ℕ) → Type 0) (run : TypeRun) (listing : Listing)
    (first last : SpaceView) (at : Progress) : Outcome → Type 0 where
  no_bits : {value : Value} {steps : ℕ} → IsNext at value steps → end_of value ≡ at.place →
      BreaksAt IsNext run listing first last at (outcome.Fault (record { kind = fault.NoBits; at = at.place }))
  unwritten : {value : Value} {steps : ℕ} {ended : Outcome} {text : List ℕ} → IsNext at value steps
      → at.place < end_of value → is_written listing at.count ≡ true → ended ≢ outcome.Done
      → (tells : Tells run listing first at value ended text) → Keeps tells.done last
      → BreaksAt IsNext run listing first last at (in_memory ended)

-- How a list that goes on ends at the next record. No step is left; what is there has a fault that ends an array
-- without a bound; it has another fault; it is a value without bits, or one that isn't printed under the terms.
pub data Breaks (pickle : List ℕ) (run : TypeRun) (listing : Listing) (first last : SpaceView) (at : Progress) :
    Outcome → Type 0 where
  spent : at.left ≡ 0 →
      Breaks pickle run listing first last at (outcome.Fault (record { kind = fault.Limit; at = at.place }))
  dropped : {kind : MapFaultKind} {place : ℕ} → ends_array kind ≡ true → Stops pickle run first last at kind place →
      Breaks pickle run listing first last at (left_at listing at.place)
  stopped : {kind : MapFaultKind} {place : ℕ} {ended : Outcome} → ends_array kind ≡ false
      → Stops pickle run first last at kind place
      → outcome_saying ended
      ≡ end_under_saying run.terms.now.most_slots run.terms.now.most_bytes at.place kind place
      → Breaks pickle run listing first last at ended
  at_value : {ended : Outcome} → BreaksAt (IsRecord run first) run listing first last at ended →
      Breaks pickle run listing first last at ended

-- How the list ends after so much: enough was written; the file ends; the list starts past its end; it ends at the next
-- record; memory didn't suffice.
pub data EndsList (pickle : List ℕ) (run : TypeRun) (listing : Listing) (first last : SpaceView) (at : Progress) :
    Outcome → Type 0 where
  counted : is_counted listing at.count ≡ true → EndsList pickle run listing first last at outcome.Done
  at_end : at.place ≡ 8 * first.len → EndsList pickle run listing first last at outcome.Done
  past_end : 8 * first.len < at.place →
      EndsList pickle run listing first last at (outcome.Fault (record { kind = fault.End; at = at.place }))
  breaks : {ended : Outcome} → goes_on listing at (8 * first.len) ≡ true
      → Breaks pickle run listing first last at ended → EndsList pickle run listing first last at ended
  no_memory : EndsList pickle run listing first last at (outcome.Failed failure.Memory)

-- Written is the text of the records, each whole and in order, and the list ends as it must after them. If the output
-- fails, the first bytes of the next record's text are written after them, or all.
pub data WritesFrom (IsNext : Progress → Value → (steps : ℕ) → Type 0) (Ends : Progress → Outcome → Type 0)
    (run : TypeRun) (listing : Listing) (first : SpaceView) (begin : Progress) (out out' : Option (List ℕ))
    (at : Progress) : Outcome → Type 0 where
  writes_all : {lines : List (List ℕ)} {ended : Outcome} → ListsFrom IsNext run listing first begin at lines
      → Ends at ended → Appends out out' (concat lines)
      → WritesFrom IsNext Ends run listing first begin out out' at ended
  output_fails : {lines more : List (List ℕ)} {next : Progress} {out'' : Option (List ℕ)}
      → ListsFrom IsNext run listing first begin at lines → AddsOne IsNext run listing first at next more
      → is_written listing at.count ≡ true → Appends out out'' (concat lines) → AppendsUpTo out'' out' (concat more)
      → WritesFrom IsNext Ends run listing first begin out out' at (outcome.Failed failure.Write)

-- the same of the values of a run's type, from where the run starts
abbrev pub WritesList : (pickle : List ℕ) → TypeRun → Listing → (first last : SpaceView) →
    (out out' : Option (List ℕ)) →
    Progress → Outcome → Type 0
WritesList pickle run listing first last out out' at ended =
    WritesFrom (IsRecord run first) (EndsList pickle run listing first last) run listing first (first_of run.ask.now)
    out out' at ended
