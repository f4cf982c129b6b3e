-- What standard output holds however a job ends: the lines that are due before its ending.
use Rattle.std.specs.Prelude.{ℕ, List, [], ◌∷◌, Option, Some, None, Result, Ok, Err}
use Rattle.std.specs.List.{concat}
use Rattle.std.specs.Io.KnownBytes.{Appends}
use Rattle.jobs.specs.Gives.{Gives}
use Rattle.jobs.specs.declared.ending.Ending.{Ending}
use Rattle.jobs.specs.declared.ending.Ending.TheVariants.{Run}
use Rattle.jobs.specs.declared.fault.FileFault.{FileFault}
use Rattle.run_parts.specs.Outcomes.{outcome_saying}
use Rattle.run_parts.specs.Told.{AppendsUpTo, Saying, Text}
use Rattle.run_parts.specs.declared.outcome.Failure.TheVariants as failure
use Rattle.run_parts.specs.declared.outcome.Outcome.{Outcome}
use Rattle.run_parts.specs.declared.outcome.Outcome.TheVariants as outcome
use Rattle.text_output.specs.Written.{AppendsPart}

-- how a job ends: as its ending says, or by a fault of its files
abbrev pub End : Type 0
End = Result Ending FileFault

-- how a job ends whose output fails
abbrev pub output_fails : End
output_fails = Ok (Run (outcome.Failed failure.Write))

-- Standard output holds the lines that are due, each whole and in order, and the job ends as is due after them. If the
-- output fails, it holds their first bytes: not all of them, if no more lines were due.
pub data Holds (Due : (lines : List (List ℕ)) → Option End → Type 0) (out out' : Option (List ℕ)) : End → Type 0 where
  whole : {lines : List (List ℕ)} {end : End} → Due lines (Some end) → Appends out out' (concat lines) →
      Holds Due out out' end
  part : {lines : List (List ℕ)} {end : End} → Due lines (Some end) → AppendsPart out out' (concat lines) →
      Holds Due out out' output_fails
  early : {lines : List (List ℕ)} → Due lines None → AppendsUpTo out out' (concat lines) →
      Holds Due out out' output_fails

-- of a run that must say this: its text, or nothing before the line of its outcome
pub data DueRun (IsRight : Saying → Type 0) : (lines : List (List ℕ)) → Option End → Type 0 where
  text_due : {text : List ℕ} → IsRight (Text text) → DueRun IsRight (text ∷ []) (Some (Ok (Run outcome.Done)))
  line_due : {ended : Outcome} → IsRight (outcome_saying ended) → DueRun IsRight [] (Some (Ok (Run ended)))

-- a text comes before what is due
pub data DueAfter (text : List ℕ) (Due : (lines : List (List ℕ)) → Option End → Type 0) :
    (lines : List (List ℕ)) → Option End → Type 0 where
  after_text : {lines : List (List ℕ)} {end : Option End} → Due lines end → DueAfter text Due (text ∷ lines) end

-- of the pickle that an argument names; nothing before the fault by which it isn't read
pub data DueOver (gives : Gives) (word : List ℕ) (Due : (pickle : List ℕ) → List (List ℕ) → Option End → Type 0) :
    (lines : List (List ℕ)) → Option End → Type 0 where
  of_pickle : {pickle : List ℕ} {lines : List (List ℕ)} {end : Option End} → gives.is_pickle word pickle
      → Due pickle lines end → DueOver gives word Due lines end
  unread : {fault : FileFault} → gives.is_unread word fault → DueOver gives word Due [] (Some (Err fault))
