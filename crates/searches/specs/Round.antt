-- What the functions that try many types do.
use Rattle.std.specs.Prelude.{◌≡◌, ◌<◌, ◌≤◌, ◌*◌, ◌++◌, ℕ, true, List, Option, Some, None, length, slice_index_or}
use Rattle.std.specs.List.{All}
use Rattle.std.specs.Io.KnownBytes.{Appends, Keeps as KeepsBytes}
use Rattle.bit_space.specs.SpaceView.{HasRisen, SpaceView}
use Rattle.command_line.specs.declared.terms.Terms.{Terms}
use Rattle.pickle_map.specs.Findings.{AreFound}
use Rattle.pickle_map.specs.declared.mapper.findings.Findings.{Findings}
use Rattle.pickle_meaning.specs.Values.{Value, end_of}
use Rattle.pickle_meaning.specs.declared.faults.MapFaultKind.TheVariants as fault
use Rattle.first_numbers.specs.Screens.{IsSieve}
use Rattle.first_numbers.specs.declared.sieve.Sieve.{Sieve}
use Rattle.pickle_types.specs.TypeTable.{nodes_of, type_named}
use Rattle.pickle_types.specs.declared.node.Node.{Node}
use Rattle.pickle_types.specs.declared.table.TypeId.{TypeId}
use Rattle.poke_batch.specs.RunsUnder.{IsStoreUnder, end_saying}
use Rattle.poke_batch.specs.declared.type_run.TypeRun.{TypeRun}
use Rattle.records.specs.declared.attempt.Stopped.{Stopped}
use Rattle.run_parts.specs.Outcomes.{outcome_saying}
use Rattle.run_parts.specs.Told.{AppendsUpTo}
use Rattle.run_parts.specs.declared.outcome.Failure.TheVariants as failure
use Rattle.run_parts.specs.declared.outcome.Outcome.{Outcome}
use Rattle.run_parts.specs.declared.outcome.Outcome.TheVariants as outcome
use Rattle.searches.specs.Rounds.{EndsRounds, TriesAll, TriesNext}
use Rattle.searches.specs.Sought.{Hits, Misses, moved, past_stop}
use Rattle.searches.specs.Starts.{goes_on}
use Rattle.searches.specs.declared.hunt.Hunt.{Hunt}
use Rattle.searches.specs.declared.hunt.Tried.{Tried}
use Rattle.searches.specs.declared.probe.Hit.{Hit}
use Rattle.searches.specs.declared.round.Stock.{Stock}
use Rattle.searches.specs.declared.search.Reach.{Reach}
use Rattle.searches.specs.declared.search.Search.{Search}
use Rattle.searches.specs.declared.sought.Sought.{Sought}

-- what was found of each table's types, in the order of the list
pub record AreFindings (list : List Sought) (all : List Findings) : Type 0 where
  pub count : length all ≡ length list
  pub each : (k : ℕ) (sought : Sought) (findings : Findings) → k < length list →
      AreFound (nodes_of (slice_index_or list k sought).table.now) (slice_index_or all k findings)

-- nothing was found of so many tables
pub record AreNew (count : ℕ) (all : List Findings) : Type 0 where
  pub count_is : length all ≡ count
  pub all_are : All (λ findings. (nodes : List Node) → AreFound nodes findings) all

-- what is known of the starts of a signature in a space
abbrev pub IsSieveOf : Sought → SpaceView → Sieve → Type 0
IsSieveOf sought space sieve = IsSieve (type_named sought.table.now sought.signature) space sought.order sieve

-- the same of each, in the order of the list
pub record AreSieves (list : List Sought) (space : SpaceView) (all : List Sieve) : Type 0 where
  pub count : length all ≡ length list
  pub each : (k : ℕ) (sought : Sought) (sieve : Sieve) → k < length list →
      IsSieveOf (slice_index_or list k sought) space (slice_index_or all k sieve)

-- what is stored serves a search, in a space
pub record IsStocked (hunt : Hunt) (space : SpaceView) (stock : Stock) : Type 0 where
  pub store : IsStoreUnder hunt.terms.now.most_slots hunt.terms.now.most_bytes stock.kept.store
  pub sieves : AreSieves hunt.list.now space stock.sieves.items
  pub places : length stock.places.items ≡ length hunt.list.now
  pub findings : AreFindings hunt.list.now stock.findings.items

-- a run's value ends at a bit
pub record HasEnd (run : TypeRun) (value : Value) (end : ℕ) : Type 0 where
  pub is_end : end ≡ end_of value
  pub forward : run.ask.now.start ≤ end

-- an attempt found a value
pub record HasHit (hunt : Hunt) (space : SpaceView) (at : Reach) (sought : Sought) (id : TypeId) (hit : Hit) : Type 0
  where
    pub value : Value
    pub hits : Hits hunt space at sought id value hit.steps
    pub is_end : hit.end ≡ end_of value

-- an attempt was stopped
pub record HasMiss (hunt : Hunt) (space last : SpaceView) (at : Reach) (sought : Sought) (id : TypeId)
    (stop : Stopped) : Type 0 where
  pub misses : Misses hunt space at sought id stop.fault.kind stop.fault.at stop.steps
  pub device : stop.fault.kind ≡ fault.Device → HasRisen space.failures last.failures

-- the search goes on after an attempt that was stopped, or ends
pub record GoesWithout (search : Search) (bytes : Option ℕ) (at : Reach) (stop : Stopped) (tried : Tried) : Type 0
  where
    pub on : past_stop search bytes at stop.fault.kind stop.steps ≡ Some tried.reach
    pub none : tried.end ≡ None

pub record StopsHunt (terms : Terms) (search : Search) (at : Reach) (stop : Stopped) (ended : Outcome) : Type 0 where
  pub ends : past_stop search terms.most_bytes at stop.fault.kind stop.steps ≡ None
  pub says : outcome_saying ended ≡ end_saying terms.most_slots at.place stop.fault.kind stop.fault.at

-- one type was tried, or passed over, and the line of its value is gathered
pub record GoesNext (hunt : Hunt) (space : SpaceView) (k : ℕ) (at : Reach) (places after text text' : List ℕ)
    (next : Reach) : Type 0 where
  pub more : List ℕ
  pub tries : TriesNext hunt space k at places next after more
  pub adds : text' ≡ text ++ more

-- one more start was tried, and the lines of its values are written
pub record GoesRound (hunt : Hunt) (space : SpaceView) (at : Reach) (places after : List ℕ)
    (out out' : Option (List ℕ)) (next : Reach) : Type 0 where
  pub mid : Reach
  pub more : List ℕ
  pub on : goes_on hunt.search at (8 * space.len) ≡ true
  pub tries : TriesAll hunt space at places mid after more
  pub is_next : next ≡ moved hunt.search at.place mid (8 * space.len)
  pub takes : Appends out out' more

-- the search ends here, and nothing is written; or the output failed at the lines of one more start
pub data EndsRound (hunt : Hunt) (space last : SpaceView) (at : Reach) (places : List ℕ)
    (out out' : Option (List ℕ)) : Outcome → Type 0 where
  no_more : {ended : Outcome} → EndsRounds hunt space last at places ended → KeepsBytes out out' →
      EndsRound hunt space last at places out out' ended
  cut_off : {after more : List ℕ} {next : Reach} → goes_on hunt.search at (8 * space.len) ≡ true
      → TriesAll hunt space at places next after more → AppendsUpTo out out' more
      → EndsRound hunt space last at places out out' (outcome.Failed failure.Write)
