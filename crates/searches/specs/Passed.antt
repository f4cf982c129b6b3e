-- Starts that a search passes over without an attempt.
use Rattle.std.specs.Prelude.{◌≡◌, ◌<◌, ◌≤◌, ◌+◌, ◌-◌, ◌*◌, ℕ, min, true, []}
use Rattle.bit_space.specs.SpaceView.{SpaceView}
use Rattle.first_numbers.specs.declared.sieve.Stretch.{Stretch}
use Rattle.poke_batch.specs.declared.type_run.TypeRun.{TypeRun}
use Rattle.searches.specs.Starts.{goes_on}
use Rattle.searches.specs.Written.{Tries}
use Rattle.searches.specs.declared.search.Reach.{Reach}
use Rattle.searches.specs.declared.search.Search.{Search}

-- the search goes on so far without a value, one start after the other
pub data Passes (run : TypeRun) (search : Search) (first : SpaceView) (at : Reach) : (next : Reach) → Type 0 where
  none_passed : Passes run search first at at
  one_passed : {mid next : Reach} → Passes run search first at mid → goes_on search mid (8 * first.len) ≡ true
      → Tries run search first mid next [] → Passes run search first at next

-- how far a search is after so many starts, each of which took so many steps
abbrev pub after_starts : Search → Reach → (count steps bits : ℕ) → Reach
after_starts search at count steps bits = record {
  place = min (at.place + count * search.step) bits;
  found = at.found;
  left = at.left - count * steps;
  given_up = at.given_up;
}

-- starts of a stretch were passed over, each in the file, and the search had the steps for all
pub record PassesSome (search : Search) (at : Reach) (stretch : Stretch) (bits : ℕ) (next : Reach) : Type 0 where
  pub count : ℕ
  pub few : count ≤ stretch.count
  pub paid : count * stretch.miss.steps ≤ at.left
  pub inside : (k : ℕ) → k < count → at.place + k * search.step < bits
  pub is : next ≡ after_starts search at count stretch.miss.steps bits
