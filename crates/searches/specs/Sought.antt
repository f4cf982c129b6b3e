-- The attempts at the types that are looked for, and what each leaves of a search.
use Rattle.std.specs.Prelude.{◌≡◌, ◌+◌, ◌-◌, ◌^◌, ℕ, Bool, not, ◌&&◌, nat_le, nat_lt, min, if◌then◌else◌, Option, Some, None, is_some}
use Rattle.bit_space.specs.SpaceView.{HasRisen, SpaceView}
use Rattle.bit_space.specs.declared.order.Order.{Order}
use Rattle.command_line.specs.declared.ask.Ask.{Ask}
use Rattle.pickle_meaning.specs.Values.{Value, end_of}
use Rattle.pickle_meaning.specs.declared.faults.MapFaultKind.{MapFaultKind}
use Rattle.pickle_meaning.specs.declared.faults.MapFaultKind.TheVariants as fault
use Rattle.pickle_types.specs.declared.table.TypeId.{TypeId}
use Rattle.poke_batch.specs.RunsUnder.{end_saying}
use Rattle.poke_batch.specs.declared.type_run.TypeRun.{TypeRun}
use Rattle.run_parts.specs.Outcomes.{outcome_saying}
use Rattle.run_parts.specs.declared.outcome.Outcome.{Outcome}
use Rattle.searches.specs.Starts.{IsHit, IsMiss, allowed, is_counted, next_start}
use Rattle.searches.specs.declared.hunt.Hunt.{Hunt}
use Rattle.searches.specs.declared.hunt.Tried.{Tried}
use Rattle.searches.specs.declared.search.GivenUp.{GivenUp}
use Rattle.searches.specs.declared.search.Reach.{Reach}
use Rattle.searches.specs.declared.search.Search.{Search}
use Rattle.searches.specs.declared.sought.Sought.{Sought}

-- ---- what an attempt leaves of a search, still at its start

-- one more, up to 2^64 - 1
abbrev pub count_up : (count : ℕ) → ℕ
count_up count = min (count + 1) (2 ^ 64 - 1)

-- so many steps were taken
abbrev pub spent : Reach → (steps : ℕ) → Reach
spent at steps = record { place = at.place; found = at.found; left = at.left - steps; given_up = at.given_up }

-- one more value was found
abbrev pub past_value : Reach → (steps : ℕ) → Reach
past_value at steps =
    record { place = at.place; found = count_up at.found; left = at.left - steps; given_up = at.given_up }

-- one more attempt was given up
abbrev pub give_up : Option GivenUp → (place : ℕ) → GivenUp
give_up None place = record { first = place; count = 1 }
give_up (Some given) place = record { first = given.first; count = count_up given.count }

-- one more attempt was stopped
abbrev pub past_none : Reach → Option GivenUp → (steps : ℕ) → Reach
past_none at given_up steps =
    record { place = at.place; found = at.found; left = at.left - steps; given_up = given_up }

abbrev pub past_given : Reach → (steps : ℕ) → Reach
past_given at steps = past_none at (Some (give_up at.given_up at.place)) steps

-- After an attempt that was stopped, if the search goes on. It is given up where its own limit stopped it, or under a
-- most of bytes the weight of its values. Where the search's limit did, or the device or an allocation failed, the
-- search ends.
abbrev pub past_stop : Search → (bytes : Option ℕ) → Reach → MapFaultKind → (steps : ℕ) → Option Reach
past_stop search bytes at fault.Limit steps =
    if nat_lt at.left search.attempt_limit then None else Some (past_given at steps)
past_stop search bytes at fault.Device steps = None
past_stop search bytes at fault.Memory steps = if is_some bytes then Some (past_given at steps) else None
past_stop search bytes at kind steps = Some (past_none at at.given_up steps)

-- all types were tried at the start `place`, in a file of so many bits
abbrev pub moved : Search → (place : ℕ) → Reach → (bits : ℕ) → Reach
moved search place at bits =
    record { place = next_start search place bits; found = at.found; left = at.left; given_up = at.given_up }

-- Whether a type is tried at a start: more values are wanted, and the start is at or after the place from which the
-- type is tried again.
abbrev pub is_due : Search → Reach → (place : ℕ) → Bool
is_due search at place = not (is_counted search at.found) && nat_le place at.place

-- ---- the attempts

-- what the next attempt is given, in the order of its type
abbrev pub ask_in : Search → Reach → Ask → Order → Ask
ask_in search at ask order = record ask { start = at.place; order = order; limit = allowed search at.left }

-- the run that tries one of the two types
pub record IsAttempt (hunt : Hunt) (at : Reach) (sought : Sought) (id : TypeId) (run : TypeRun) : Type 0 where
  pub table : run.table ≡ sought.table
  pub same_id : run.id ≡ id
  pub terms : run.terms ≡ hunt.terms
  pub ask : run.ask.now ≡ ask_in hunt.search at hunt.ask.now sought.order

-- such a run has a value, in so many steps
pub record Hits (hunt : Hunt) (space : SpaceView) (at : Reach) (sought : Sought) (id : TypeId) (value : Value)
    (steps : ℕ) : Type 0 where
  pub run : TypeRun
  pub is_run : IsAttempt hunt at sought id run
  pub hit : IsHit run hunt.search space at value steps

-- such a run is stopped, after so many steps
pub record Misses (hunt : Hunt) (space : SpaceView) (at : Reach) (sought : Sought) (id : TypeId) (kind : MapFaultKind)
    (place steps : ℕ) : Type 0 where
  pub run : TypeRun
  pub is_run : IsAttempt hunt at sought id run
  pub miss : IsMiss run hunt.search space at kind place steps

-- The type is tried where its signature has a value, with the steps that this left, and the search goes on.
pub data TriesValue (hunt : Hunt) (space : SpaceView) (at : Reach) (sought : Sought) : Tried → Type 0 where
  unmeant : {kind : MapFaultKind} {place steps : ℕ} {next : Reach}
      → Misses hunt space at sought sought.id kind place steps
      → past_stop hunt.search hunt.terms.now.most_bytes at kind steps ≡ Some next
      → TriesValue hunt space at sought (record { reach = next; end = None })
  meant : {value : Value} {steps : ℕ} → Hits hunt space at sought sought.id value steps →
      TriesValue hunt space at sought (record { reach = past_value at steps; end = Some (end_of value) })

-- Both types are tried at a start, and the search goes on. The second is tried only where the first has a value.
pub data TriesType (hunt : Hunt) (space : SpaceView) (at : Reach) (sought : Sought) : Tried → Type 0 where
  unsigned : {kind : MapFaultKind} {place steps : ℕ} {next : Reach}
      → Misses hunt space at sought sought.signature kind place steps
      → past_stop hunt.search hunt.terms.now.most_bytes at kind steps ≡ Some next
      → TriesType hunt space at sought (record { reach = next; end = None })
  signed : {value : Value} {steps : ℕ} {tried : Tried} → Hits hunt space at sought sought.signature value steps
      → TriesValue hunt space (spent at steps) sought tried → TriesType hunt space at sought tried

-- an attempt is stopped by what ends a search
pub record StopsAt (hunt : Hunt) (space last : SpaceView) (at : Reach) (sought : Sought) (id : TypeId)
    (ended : Outcome) : Type 0 where
  pub kind : MapFaultKind
  pub place : ℕ
  pub steps : ℕ
  pub miss : Misses hunt space at sought id kind place steps
  pub ends : past_stop hunt.search hunt.terms.now.most_bytes at kind steps ≡ None
  pub device : kind ≡ fault.Device → HasRisen space.failures last.failures
  pub says : outcome_saying ended ≡ end_saying hunt.terms.now.most_slots at.place kind place

-- a search ends at a type: at its signature, or at the type itself
pub data StopsType (hunt : Hunt) (space last : SpaceView) (at : Reach) (sought : Sought) : Outcome → Type 0 where
  stops_signature : {ended : Outcome} → StopsAt hunt space last at sought sought.signature ended →
      StopsType hunt space last at sought ended
  stops_value : {sign : Value} {signed : ℕ} {ended : Outcome} → Hits hunt space at sought sought.signature sign signed
      → StopsAt hunt space last (spent at signed) sought sought.id ended
      → StopsType hunt space last at sought ended
