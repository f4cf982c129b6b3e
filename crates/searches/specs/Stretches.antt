-- Starts that a search for many types passes over.
use Rattle.std.specs.Prelude.{◌≡◌, ◌<◌, ◌≤◌, ◌+◌, ◌*◌, ℕ, true, List, [], Option, length, slice_index}
use Rattle.std.specs.Io.KnownBytes.{Keeps as KeepsBytes}
use Rattle.bit_space.specs.SpaceView.{SpaceView}
use Rattle.first_numbers.specs.Screens.{AreMisses}
use Rattle.first_numbers.specs.declared.sieve.Stretch.{Stretch}
use Rattle.pickle_types.specs.TypeTable.{type_named}
use Rattle.searches.specs.Round.{GoesRound}
use Rattle.searches.specs.Rounds.{IsNth, TriesAll}
use Rattle.searches.specs.Sought.{moved}
use Rattle.searches.specs.Starts.{goes_on}
use Rattle.searches.specs.declared.hunt.Hunt.{Hunt}
use Rattle.searches.specs.declared.search.Reach.{Reach}
use Rattle.searches.specs.declared.sought.Sought.{Sought}

-- at each start of a stretch, of which the first is here, a type isn't due, and takes no steps; or its signature fails
pub data PassesType (hunt : Hunt) (space : SpaceView) (at : Reach) (place : ℕ) (sought : Sought) (stretch : Stretch) :
    Type 0 where
  later : ((k : ℕ) → k < stretch.count → at.place + k * hunt.search.step < place) → stretch.miss.steps ≡ 0
      → PassesType hunt space at place sought stretch
  fails : place ≤ at.place
      → AreMisses (type_named sought.table.now sought.signature) space sought.order at.place hunt.search.step
      hunt.search.attempt_limit stretch
      → PassesType hunt space at place sought stretch

-- the same of one of the list
pub record PassesNth (hunt : Hunt) (space : SpaceView) (at : Reach) (places : List ℕ) (k : ℕ) (stretch : Stretch) :
    Type 0 where
  pub sought : Sought
  pub nth : IsNth hunt.list.now k sought
  pub passes : PassesType hunt space at (slice_index places k) sought stretch

-- the same of the first types of the list at so many starts, with the steps of all at one start
pub data PassesTypes (hunt : Hunt) (space : SpaceView) (at : Reach) (places : List ℕ) (count : ℕ) :
    (done steps : ℕ) → Type 0 where
  none_pass : PassesTypes hunt space at places count 0 0
  one_passes : {k steps : ℕ} {own : Stretch} → PassesTypes hunt space at places count k steps
      → PassesNth hunt space at places k own → count ≤ own.count
      → PassesTypes hunt space at places count (k + 1) (steps + own.miss.steps)

-- all types are passed over at each start of a stretch
abbrev pub PassesList : Hunt → SpaceView → Reach → (places : List ℕ) → Stretch → Type 0
PassesList hunt space at places stretch =
    PassesTypes hunt space at places stretch.count (length hunt.list.now) stretch.miss.steps

-- the search goes on so far without a value, one start after the other
pub data PassesStarts (hunt : Hunt) (space : SpaceView) (places : List ℕ) (at : Reach) : (next : Reach) → Type 0 where
  none_passed : PassesStarts hunt space places at at
  one_passed : {mid next : Reach} → PassesStarts hunt space places at mid
      → goes_on hunt.search mid (8 * space.len) ≡ true → TriesAll hunt space mid places next places []
      → PassesStarts hunt space places at (moved hunt.search mid.place next (8 * space.len))

-- one more start was tried, and the lines of its values are written; or some were passed over, and nothing is written
pub data AdvancesRound (hunt : Hunt) (space : SpaceView) (at : Reach) (places after : List ℕ)
    (out out' : Option (List ℕ)) (next : Reach) : Type 0 where
  one_tried : GoesRound hunt space at places after out out' next →
      AdvancesRound hunt space at places after out out' next
  some_passed : PassesStarts hunt space places at next → at.place < next.place → after ≡ places → KeepsBytes out out'
      → AdvancesRound hunt space at places after out out' next
