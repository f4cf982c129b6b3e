-- The starts of a search: which are tried, with how many steps, and where the next one is.
use Rattle.std.specs.Prelude.{◌≡◌, ◌<◌, ◌≤◌, ◌+◌, ◌-◌, ◌*◌, ◌/◌, ◌%◌, ℕ, Bool, true, false, not, ◌&&◌, ◌==◌, nat_le, nat_lt, min, if◌then◌else◌, List, Option, Some, None, is_some, Ok}
use Rattle.bit_space.specs.Bits.{bits_of}
use Rattle.bit_space.specs.SpaceView.{SpaceView}
use Rattle.command_line.specs.declared.ask.Ask.{Ask}
use Rattle.pickle_map.specs.Mapped.{EndsRun, FaultMeans, RunsToFault}
use Rattle.pickle_meaning.specs.Answer.{Answer}
use Rattle.pickle_meaning.specs.Fits.{Fits}
use Rattle.pickle_meaning.specs.Values.{Value, no_values}
use Rattle.pickle_meaning.specs.declared.faults.MapFaultKind.{MapFaultKind}
use Rattle.pickle_meaning.specs.declared.faults.MapFaultKind.TheVariants as fault
use Rattle.pickle_types.specs.Bounds.{cost}
use Rattle.poke_batch.specs.RunsUnder.{AreLightUnder, AreTooHeavy}
use Rattle.poke_batch.specs.TypeRuns.{run_type}
use Rattle.poke_batch.specs.declared.type_run.TypeRun.{TypeRun}
use Rattle.records.specs.Next.{LacksSlots}
use Rattle.run_parts.specs.declared.outcome.Outcome.{Outcome}
use Rattle.run_parts.specs.declared.outcome.Outcome.TheVariants as outcome
use Rattle.searches.specs.declared.search.GivenUp.{GivenUp}
use Rattle.searches.specs.declared.search.Reach.{Reach}
use Rattle.searches.specs.declared.search.Search.{Search}

-- ---- how far a search is

-- no start was tried
abbrev pub first_of : Ask → Reach
first_of ask = record { place = ask.start; found = 0; left = ask.limit; given_up = None }

abbrev pub counted_out : (most : Option ℕ) → (found : ℕ) → Bool
counted_out None found = false
counted_out (Some most) found = nat_le most found

-- enough values were found
abbrev pub is_counted : Search → (found : ℕ) → Bool
is_counted search found = counted_out search.count found

-- one more start is tried, in a file of so many bits
abbrev pub goes_on : Search → Reach → (bits : ℕ) → Bool
goes_on search at bits = not (is_counted search at.found) && nat_lt at.place bits

-- the most steps of one attempt when so many are left
abbrev pub allowed : Search → (left : ℕ) → ℕ
allowed search left = min search.attempt_limit left

-- what the next attempt is given
abbrev pub ask_at : Search → Reach → Ask → Ask
ask_at search at ask = record ask { start = at.place; limit = allowed search at.left }

-- each start that was tried took a bit
abbrev pub given_count : Option GivenUp → ℕ
given_count None = 0
given_count (Some given) = given.count

pub record IsFew (at : Reach) : Type 0 where
  pub found : at.found ≤ at.place
  pub given_up : given_count at.given_up ≤ at.place

-- ---- where the next start is

-- the start after one, at most the file's end
abbrev pub next_start : Search → (place bits : ℕ) → ℕ
next_start search place bits = min (place + search.step) bits

-- how many steps lead to or over a distance, and over 0
abbrev pub steps_over : (step distance : ℕ) → ℕ
steps_over step distance = if distance == 0 then 1 else distance / step + min 1 (distance % step)

abbrev pub way_over : (step distance : ℕ) → ℕ
way_over step distance = steps_over step distance * step

-- the start after one with a value: with `apart` the first that is at or after the value's end
abbrev pub start_after : Search → (place end bits : ℕ) → ℕ
start_after search place end bits =
    if search.apart then min (place + way_over search.step (end - place)) bits else next_start search place bits

-- ---- what an attempt leaves of the search

-- after a value that ends at a bit, and took so many steps
abbrev pub after_value : Search → Reach → (end steps bits : ℕ) → Reach
after_value search at end steps bits = record {
  place = start_after search at.place end bits;
  found = at.found + 1;
  left = at.left - steps;
  given_up = at.given_up;
}

-- one more attempt was given up
abbrev pub given_more : Option GivenUp → (place : ℕ) → GivenUp
given_more None place = record { first = place; count = 1 }
given_more (Some given) place = record { first = given.first; count = given.count + 1 }

-- after an attempt without a value
abbrev pub after_none : Search → Reach → Option GivenUp → (steps bits : ℕ) → Reach
after_none search at given_up steps bits = record {
  place = next_start search at.place bits;
  found = at.found;
  left = at.left - steps;
  given_up = given_up;
}

abbrev pub after_given : Search → Reach → (steps bits : ℕ) → Reach
after_given search at steps bits = after_none search at (Some (given_more at.given_up at.place)) steps bits

-- After an attempt that was stopped, if the search goes on. It is given up where its own limit stopped it, or under a
-- most of bytes the weight of its values. Where the search's limit did, or the device or an allocation failed, the
-- search ends.
abbrev pub after_stop : Search → (bytes : Option ℕ) → Reach → MapFaultKind → (steps bits : ℕ) → Option Reach
after_stop search bytes at fault.Limit steps bits =
    if nat_lt at.left search.attempt_limit then None else Some (after_given search at steps bits)
after_stop search bytes at fault.Device steps bits = None
after_stop search bytes at fault.Memory steps bits =
    if is_some bytes then Some (after_given search at steps bits) else None
after_stop search bytes at kind steps bits = Some (after_none search at at.given_up steps bits)

-- how a search ends that doesn't go on
abbrev pub end_with : Option GivenUp → (is_missed : Bool) → Outcome
end_with (Some given) is_missed = outcome.Attempts given.first given.count
end_with None true = outcome.NotFound
end_with None false = outcome.Done

abbrev pub natural_end : Search → Reach → Outcome
natural_end search at = end_with at.given_up ((at.found == 0) && not (is_counted search at.found))

-- ---- the attempts

-- From here on the type means a value, in so many steps within those that are allowed, and what its mapping stores
-- never weighs more than the terms allow. Where the file's bytes aren't known, the value fits the type.
pub record IsHit (run : TypeRun) (search : Search) (space : SpaceView) (at : Reach) (value : Value) (steps : ℕ) :
    Type 0 where
  pub few : steps ≤ allowed search at.left
  pub made : ℕ
  pub means : (bytes : List ℕ) → space.bytes ≡ Some bytes →
      Answer (bits_of bytes) (run_type run) run.ask.now.order at.place (allowed search at.left) (Ok value) steps made
  pub fits : Fits (8 * space.len) (run_type run) no_values at.place value
  pub light : AreLightUnder run.terms.now (run_type run) (ask_at search at run.ask.now) space

-- From here on the attempt is stopped after so many steps, with a fault that the type means there, or by one that ends
-- a run. Limit: all steps that are allowed were taken. Memory: a store of the most slots has too few, and one of the
-- most bytes takes too little. Whatever the space gives, it is the fault of a run on the numbers that were read.
pub record IsMiss (run : TypeRun) (search : Search) (space : SpaceView) (at : Reach) (kind : MapFaultKind)
    (place steps : ℕ) : Type 0 where
  pub few : steps ≤ allowed search at.left
  pub made : ℕ
  pub means : (bytes : List ℕ) → space.bytes ≡ Some bytes →
      FaultMeans (bits_of bytes) (run_type run) run.ask.now.order at.place (allowed search at.left) kind place
      steps made
  pub runs : RunsToFault space (run_type run) run.ask.now.order at.place (allowed search at.left) kind place
  pub limit : kind ≡ fault.Limit → steps ≡ allowed search at.left
  pub costs : kind ≡ fault.Limit → allowed search at.left < cost (run_type run) (8 * space.len)
  pub slots : kind ≡ fault.Memory → run.terms.now.most_bytes ≡ None → (most : ℕ)
      → run.terms.now.most_slots ≡ Some most → LacksSlots most (run_type run) (ask_at search at run.ask.now) space
  pub heavy : kind ≡ fault.Memory → (most : ℕ) → run.terms.now.most_bytes ≡ Some most →
      AreTooHeavy most (run_type run) (ask_at search at run.ask.now) space
  pub here : EndsRun kind → place ≡ at.place
