-- What the functions that try one start do.
use Rattle.std.specs.Prelude.{◌≡◌, ◌<◌, ◌≤◌, ◌*◌, ℕ, true, List, Option, None}
use Rattle.std.specs.List.{concat}
use Rattle.std.specs.Io.KnownBytes.{Appends, Keeps as KeepsBytes}
use Rattle.bit_space.specs.SpaceView.{SpaceView}
use Rattle.command_line.specs.declared.terms.Terms.{Terms}
use Rattle.pickle_meaning.specs.Values.{Value, end_of}
use Rattle.poke_batch.specs.RunsUnder.{end_saying}
use Rattle.poke_batch.specs.declared.type_run.TypeRun.{TypeRun}
use Rattle.records.specs.declared.attempt.Stopped.{Stopped}
use Rattle.run_parts.specs.Outcomes.{outcome_saying}
use Rattle.run_parts.specs.Told.{AppendsUpTo}
use Rattle.run_parts.specs.declared.outcome.Failure.TheVariants as failure
use Rattle.run_parts.specs.declared.outcome.Outcome.{Outcome}
use Rattle.run_parts.specs.declared.outcome.Outcome.TheVariants as outcome
use Rattle.searches.specs.Passed.{Passes}
use Rattle.searches.specs.Starts.{IsHit, after_stop, goes_on}
use Rattle.searches.specs.Written.{EndsSearch, IsLine, LacksLine, Tries, WritesHit}
use Rattle.searches.specs.declared.search.Reach.{Reach}
use Rattle.searches.specs.declared.search.Search.{Search}

-- a value's line was gathered, and taken by a writer
pub record IsPut (run : TypeRun) (begun done : SpaceView) (value : Value) (Takes : List ℕ → Type 0) : Type 0 where
  pub line : List ℕ
  pub is_line : IsLine run begun done value line
  pub takes : Takes line

-- why a value's line isn't written: it has none, and nothing is written; or the output failed
pub data IsUnput (run : TypeRun) (begun done : SpaceView) (value : Value) (out out' : Option (List ℕ)) :
    Outcome → Type 0 where
  lacks_line : {ended : Outcome} → LacksLine run begun done value ended → KeepsBytes out out' →
      IsUnput run begun done value out out' ended
  is_cut : IsPut run begun done value (AppendsUpTo out out') →
      IsUnput run begun done value out out' (outcome.Failed failure.Write)

-- a value's line was written, and the value ends at a bit
pub record PutsHeld (run : TypeRun) (begun done : SpaceView) (value : Value) (out out' : Option (List ℕ)) (end : ℕ) :
    Type 0 where
  pub is_end : end ≡ end_of value
  pub forward : run.ask.now.start ≤ end_of value
  pub put : IsPut run begun done value (Appends out out')

-- an attempt was stopped, and the search ends so
pub record StopsSearch (terms : Terms) (search : Search) (at : Reach) (stop : Stopped) (bits : ℕ) (ended : Outcome) :
    Type 0 where
  pub is_end : after_stop search terms.most_bytes at stop.fault.kind stop.steps bits ≡ None
  pub says : outcome_saying ended ≡ end_saying terms.most_slots at.place stop.fault.kind stop.fault.at

-- one more start was tried, and what is due of it written; the search is now so far
pub record GoesOn (run : TypeRun) (search : Search) (first : SpaceView) (at : Reach) (out out' : Option (List ℕ))
    (next : Reach) : Type 0 where
  pub more : List (List ℕ)
  pub on : goes_on search at (8 * first.len) ≡ true
  pub tries : Tries run search first at next more
  pub takes : Appends out out' (concat more)

-- one more start was tried; or some were passed over, and nothing is written
pub data Advances (run : TypeRun) (search : Search) (first : SpaceView) (at : Reach) (out out' : Option (List ℕ))
    (next : Reach) : Type 0 where
  one_tried : GoesOn run search first at out out' next → Advances run search first at out out' next
  some_passed : Passes run search first at next → at.place < next.place → KeepsBytes out out' →
      Advances run search first at out out' next

-- the search ends here, and nothing is written; or the output failed at the line of one more value
pub data EndsHere (run : TypeRun) (search : Search) (first last : SpaceView) (at : Reach)
    (out out' : Option (List ℕ)) : Outcome → Type 0 where
  no_more : {ended : Outcome} → EndsSearch run search first last at ended → KeepsBytes out out' →
      EndsHere run search first last at out out' ended
  cut_off : {value : Value} {steps : ℕ} {line : List ℕ} → goes_on search at (8 * first.len) ≡ true
      → IsHit run search first at value steps → WritesHit run search first at value line
      → AppendsUpTo out out' line → EndsHere run search first last at out out' (outcome.Failed failure.Write)
