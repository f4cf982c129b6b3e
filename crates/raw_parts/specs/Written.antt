-- What is written of the requested part of a mapped value, as the bytes that it takes of its file.
use Rattle.std.specs.Prelude.{ℕ, List, Option}
use Rattle.std.specs.Io.KnownBytes.{Keeps}
use Rattle.bit_space.specs.SpaceView.{SpaceView}
use Rattle.pickle_meaning.specs.Values.{Value}
use Rattle.poke_batch.specs.declared.type_run.TypeRun.{TypeRun}
use Rattle.raw_parts.specs.Copied.{Copies, CopiesSome}
use Rattle.raw_parts.specs.Mapped.{HasNoValue, IsMapped}
use Rattle.raw_parts.specs.Places.{IsDue, LacksBytes, bytes_end, bytes_from}
use Rattle.run_parts.specs.Outcomes.{outcome_saying}
use Rattle.run_parts.specs.declared.outcome.Failure.{Failure}
use Rattle.run_parts.specs.declared.outcome.Failure.TheVariants as failure
use Rattle.run_parts.specs.declared.outcome.Outcome.{Outcome}
use Rattle.run_parts.specs.declared.outcome.Outcome.TheVariants as outcome

-- what is written of the requested part of a value, which was mapped from a space
pub data WritesPart (run : TypeRun) (before after : SpaceView) (value : Value) (out out' : Option (List ℕ)) :
    Outcome → Type 0 where
  -- its bytes
  writes_all : {part : Value} → IsDue run before.len value part
      → Copies before (bytes_from part) (bytes_end part) out out'
      → WritesPart run before after value out out' outcome.Done
  -- only those before some place, since a read or the writer failed
  writes_some : {part : Value} {failed : Failure} → IsDue run before.len value part
      → CopiesSome before after (bytes_from part) (bytes_end part) out out' failed
      → WritesPart run before after value out out' (outcome.Failed failed)
  -- nothing, since there is no such part, or since memory didn't suffice
  writes_none : {ended : Outcome} → LacksBytes run before.len value ended → Keeps out out'
      → WritesPart run before after value out out' ended
  lacks_memory : Keeps out out' → WritesPart run before after value out out' (outcome.Failed failure.Memory)

-- what a run of a type of a pickle writes, in place of the printed value, over a space from its view before to that
-- after
pub data WritesRaw (pickle : List ℕ) (run : TypeRun) (before after : SpaceView) (out out' : Option (List ℕ)) :
    Outcome → Type 0 where
  has_value : {value : Value} {ended : Outcome} → IsMapped run before value
      → WritesPart run before after value out out' ended → WritesRaw pickle run before after out out' ended
  has_no_value : {ended : Outcome} → HasNoValue pickle run before after (outcome_saying ended) → Keeps out out'
      → WritesRaw pickle run before after out out' ended
