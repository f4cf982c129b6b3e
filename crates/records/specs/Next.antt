-- What the functions that map and write one record do.
use Rattle.std.specs.Prelude.{◌≡◌, ◌≢◌, ◌<◌, ◌≤◌, ◌*◌, ◌^◌, ℕ, true, false, List, [], ◌∷◌, Option, Some, None, Ok}
use Rattle.std.specs.List.{concat}
use Rattle.std.specs.Io.KnownBytes.{Appends, Keeps as KeepsBytes}
use Rattle.bit_space.specs.Bits.{bits_of}
use Rattle.bit_space.specs.SpaceView.{HasRisen, SpaceView}
use Rattle.command_line.specs.declared.ask.Ask.{Ask}
use Rattle.pickle_map.specs.Findings.{AreFound}
use Rattle.pickle_map.specs.Mapped.{EndsRun, FaultMeans, RunsToFault}
use Rattle.pickle_meaning.specs.Answer.{Answer}
use Rattle.pickle_meaning.specs.Fits.{Fits}
use Rattle.pickle_meaning.specs.Values.{Value, end_of, no_values, start_of, value_at}
use Rattle.pickle_meaning.specs.declared.faults.MapFault.{MapFault}
use Rattle.pickle_meaning.specs.declared.faults.MapFaultKind.TheVariants as fault
use Rattle.pickle_types.specs.Bounds.{cost, room}
use Rattle.pickle_types.specs.TypeTable.{nodes_of}
use Rattle.pickle_types.specs.Types.{PokeType}
use Rattle.poke_batch.specs.FileLine.{in_memory}
use Rattle.poke_batch.specs.Runs.{IsAsked}
use Rattle.poke_batch.specs.RunsUnder.{AreLightUnder, AreTooFew, AreTooHeavy, IsStoreUnder, MapsUnder, end_under_saying}
use Rattle.poke_batch.specs.TypeRuns.{run_type}
use Rattle.poke_batch.specs.declared.type_run.TypeRun.{TypeRun}
use Rattle.records.specs.Records.{IsRecord, is_written}
use Rattle.records.specs.Written.{AddsOne, EndsList, Gathers}
use Rattle.records.specs.declared.listing.Listing.{Listing}
use Rattle.records.specs.declared.listing.Progress.{Progress}
use Rattle.records.specs.declared.attempt.Kept.{Kept}
use Rattle.records.specs.declared.attempt.Stopped.{Stopped}
use Rattle.run_parts.specs.Told.{AppendsUpTo}
use Rattle.run_parts.specs.declared.outcome.Failure.TheVariants as failure
use Rattle.run_parts.specs.declared.outcome.Outcome.{Outcome}
use Rattle.run_parts.specs.declared.outcome.Outcome.TheVariants as outcome
use Rattle.value_store.specs.Slots.{Held, levels}

-- what is stored serves a run: its store is one under its terms, and what was found of the table's types is right
pub record IsReady (run : TypeRun) (kept : Kept) : Type 0 where
  pub store : IsStoreUnder run.terms.now.most_slots run.terms.now.most_bytes kept.store
  pub found : AreFound (nodes_of run.table.now) kept.findings

-- the one value that a store holds
abbrev pub held_value : TypeRun → Held → Option Value
held_value run store = value_at (levels (nodes_of run.table.now) store) 0 0

-- a store holds the value of a run, which took so many steps, and never weighed more than the terms allow
pub record HoldsValue (run : TypeRun) (space : SpaceView) (store : Held) (steps : ℕ) : Type 0 where
  pub value : Value
  pub there : held_value run store ≡ Some value
  pub few : steps ≤ run.ask.now.limit
  pub made : ℕ
  pub means : (bytes : List ℕ) → space.bytes ≡ Some bytes →
      Answer (bits_of bytes) (run_type run) run.ask.now.order run.ask.now.start run.ask.now.limit (Ok value) steps made
  pub fits : Fits (8 * space.len) (run_type run) no_values run.ask.now.start value
  pub light : AreLightUnder run.terms.now (run_type run) run.ask.now space

-- a value begins where a run does, and ends at a bit that a file can have
pub record IsPlaced (run : TypeRun) (value : Value) : Type 0 where
  pub starts : start_of value ≡ run.ask.now.start
  pub forward : start_of value ≤ end_of value
  pub inside : end_of value < 2 ^ 64

-- such a value is stored
pub record IsHeld (run : TypeRun) (store : Held) : Type 0 where
  pub value : Value
  pub there : held_value run store ≡ Some value
  pub placed : IsPlaced run value

-- a run has a fault, which is what it must say
pub record HasFault (run : TypeRun) (begun done : SpaceView) (why : MapFault) : Type 0 where
  pub says : (pickle : List ℕ) → IsAsked pickle run.ask.now.name.now (run_type run)
      → MapsUnder pickle run.ask.now run.terms.now begun done
      (end_under_saying run.terms.now.most_slots run.terms.now.most_bytes run.ask.now.start why.kind why.at)

-- so many slots of each kind are fewer than a mapping's bound, and too few for what it stores, if the bytes are known
pub record LacksSlots (most : ℕ) (type : PokeType) (ask : Ask) (space : SpaceView) : Type 0 where
  pub bound : most < room type (8 * space.len)
  pub few : AreTooFew most type ask space

-- A run was stopped after so many steps. Where the bytes are known, its fault is what the type means there, or what
-- broke it off. Whatever the space gives, it is the fault of a run on the numbers that were read. A fault that ends a
-- run is at its start. Limit: all steps were taken, which are fewer than the type's bound. Device: a read failed.
-- Memory: a store of the most slots has too few, and one of the most bytes takes too little.
pub record IsStopped (run : TypeRun) (begun done : SpaceView) (stopped : Stopped) : Type 0 where
  pub few : stopped.steps ≤ run.ask.now.limit
  pub made : ℕ
  pub means : (bytes : List ℕ) → begun.bytes ≡ Some bytes →
      FaultMeans (bits_of bytes) (run_type run) run.ask.now.order run.ask.now.start run.ask.now.limit
      stopped.fault.kind stopped.fault.at stopped.steps made
  pub runs : RunsToFault begun (run_type run) run.ask.now.order run.ask.now.start run.ask.now.limit stopped.fault.kind
      stopped.fault.at
  pub limit : stopped.fault.kind ≡ fault.Limit → stopped.steps ≡ run.ask.now.limit
  pub costs : stopped.fault.kind ≡ fault.Limit → run.ask.now.limit < cost (run_type run) (8 * begun.len)
  pub device : stopped.fault.kind ≡ fault.Device → HasRisen begun.failures done.failures
  pub slots : stopped.fault.kind ≡ fault.Memory → run.terms.now.most_bytes ≡ None → (most : ℕ)
      → run.terms.now.most_slots ≡ Some most → LacksSlots most (run_type run) run.ask.now begun
  pub heavy : stopped.fault.kind ≡ fault.Memory → (most : ℕ) → run.terms.now.most_bytes ≡ Some most →
      AreTooHeavy most (run_type run) run.ask.now begun
  pub place : EndsRun stopped.fault.kind → stopped.fault.at ≡ run.ask.now.start

-- memory didn't suffice
abbrev pub IsNoMemory : Outcome → Type 0
IsNoMemory ended = ended ≡ outcome.Failed failure.Memory

-- why a value isn't gathered: the run has an outcome in place of a text, or memory didn't suffice
pub data IsUntold (run : TypeRun) (listing : Listing) (before : ℕ) (begun done : SpaceView) (value : Value) :
    Outcome → Type 0 where
  has_outcome : {ended : Outcome} {text : List ℕ} → ended ≢ outcome.Done
      → Gathers run listing before begun done value ended text
      → IsUntold run listing before begun done value (in_memory ended)
  lacks_memory : IsUntold run listing before begun done value (outcome.Failed failure.Memory)

-- a value was gathered and written
pub record IsPut (run : TypeRun) (listing : Listing) (before : ℕ) (begun done : SpaceView) (value : Value)
    (Takes : List ℕ → Type 0) : Type 0 where
  pub text : List ℕ
  pub gathers : Gathers run listing before begun done value outcome.Done text
  pub takes : Takes text

-- why a value isn't written: it isn't gathered, and nothing is written; or the output failed
pub data IsUnput (run : TypeRun) (listing : Listing) (before : ℕ) (begun done : SpaceView) (value : Value)
    (out out' : Option (List ℕ)) : Outcome → Type 0 where
  is_untold : {ended : Outcome} → IsUntold run listing before begun done value ended → KeepsBytes out out' →
      IsUnput run listing before begun done value out out' ended
  is_cut : IsPut run listing before begun done value (AppendsUpTo out out') →
      IsUnput run listing before begun done value out out' (outcome.Failed failure.Write)

-- what is due of a value was written: nothing if it is omitted
pub data PutsDue (run : TypeRun) (listing : Listing) (before : ℕ) (begun done : SpaceView) (value : Value)
    (out out' : Option (List ℕ)) : (more : List (List ℕ)) → Type 0 where
  omits : is_written listing before ≡ false → KeepsBytes out out' →
      PutsDue run listing before begun done value out out' []
  puts : is_written listing before ≡ true → (put : IsPut run listing before begun done value (Appends out out')) →
      PutsDue run listing before begun done value out out' (put.text ∷ [])

-- a value was written as it is due, and ends at a bit
pub record PutsHeld (run : TypeRun) (listing : Listing) (before : ℕ) (begun done : SpaceView) (value : Value)
    (out out' : Option (List ℕ)) (end : ℕ) : Type 0 where
  pub is_end : end ≡ end_of value
  pub moves : run.ask.now.start < end_of value
  pub more : List (List ℕ)
  pub due : PutsDue run listing before begun done value out out' more

-- why that wasn't done: the value has no bits, or isn't written
pub data IsNotPut (run : TypeRun) (listing : Listing) (before : ℕ) (begun done : SpaceView) (value : Value)
    (out out' : Option (List ℕ)) : Outcome → Type 0 where
  is_empty : end_of value ≡ run.ask.now.start → KeepsBytes out out'
      → IsNotPut run listing before begun done value out out'
      (outcome.Fault (record { kind = fault.NoBits; at = run.ask.now.start }))
  is_unput : {ended : Outcome} → run.ask.now.start < end_of value → is_written listing before ≡ true
      → IsUnput run listing before begun done value out out' ended
      → IsNotPut run listing before begun done value out out' ended

-- one more record was mapped, and what is due of it written; the list is now so far
pub record GoesOnBy (IsNext : Progress → Value → (steps : ℕ) → Type 0) (run : TypeRun) (listing : Listing)
    (first : SpaceView) (at : Progress) (out out' : Option (List ℕ)) (next : Progress) : Type 0 where
  pub more : List (List ℕ)
  pub adds : AddsOne IsNext run listing first at next more
  pub takes : Appends out out' (concat more)

-- the list ends here, and nothing is written; or the output failed at one more record
pub data EndsHereBy (IsNext : Progress → Value → (steps : ℕ) → Type 0) (Ends : Progress → Outcome → Type 0)
    (run : TypeRun) (listing : Listing) (first : SpaceView) (at : Progress) (out out' : Option (List ℕ)) :
    Outcome → Type 0 where
  no_more : {ended : Outcome} → Ends at ended → KeepsBytes out out' →
      EndsHereBy IsNext Ends run listing first at out out' ended
  cut_off : {next : Progress} {more : List (List ℕ)} → AddsOne IsNext run listing first at next more
      → is_written listing at.count ≡ true → AppendsUpTo out out' (concat more)
      → EndsHereBy IsNext Ends run listing first at out out' (outcome.Failed failure.Write)

-- the same of a value of a run's type
abbrev pub GoesOn : TypeRun → Listing → (first : SpaceView) → Progress → (out out' : Option (List ℕ)) →
    (next : Progress) → Type 0
GoesOn run listing first at out out' next = GoesOnBy (IsRecord run first) run listing first at out out' next

abbrev pub EndsHere : (pickle : List ℕ) → TypeRun → Listing → (first last : SpaceView) → Progress →
    (out out' : Option (List ℕ)) → Outcome → Type 0
EndsHere pickle run listing first last at out out' ended =
    EndsHereBy (IsRecord run first) (EndsList pickle run listing first last) run listing first at out out' ended
