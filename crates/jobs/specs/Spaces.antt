-- What is due of a mapping over what is seen of a file.
use Rattle.std.specs.Prelude.{◌≡◌, ℕ, nat_le, Bool, true, List, [], ◌∷◌, length, Option, Some, None, IsSome, Ok}
use Rattle.bit_space.specs.SpaceView.{SpaceView}
use Rattle.command_line.specs.declared.ask.Ask.{Ask}
use Rattle.command_line.specs.declared.terms.Terms.{Terms}
use Rattle.jobs.specs.Due.{DueRun, End}
use Rattle.jobs.specs.declared.ending.Ending.TheVariants.{Run}
use Rattle.poke_batch.specs.RunsUnder.{MapsRequested}
use Rattle.run_parts.specs.Outcomes.{outcome_saying, outcome_status}
use Rattle.run_parts.specs.declared.outcome.Outcome.{Outcome}
use Rattle.run_parts.specs.declared.status.Status.TheVariants.{Fault}

-- whether a text has at most so many bytes
abbrev pub is_within : (most : Option ℕ) → (text : List ℕ) → Bool
is_within None text = true
is_within (Some most) text = nat_le (length text) most

-- what may be shown of a value that had a fault
pub record MayShow (terms : Terms) (ended : Outcome) (met : List ℕ) : Type 0 where
  pub faulty : outcome_status ended ≡ Fault
  pub shown : IsSome terms.look
  pub within : is_within terms.most_output met ≡ true

-- of a mapping over a file, from its view before to its view after: what the run must say; for a value that is shown to
-- the eye, if reasons are requested, what the mapping had before its fault, unless that is longer than the output may
-- be
pub data DueSpace (pickle : List ℕ) (ask : Ask) (terms : Terms) (file after : SpaceView) (why : Bool) :
    (lines : List (List ℕ)) → Option End → Type 0 where
  run_due : {lines : List (List ℕ)} {end : Option End} → DueRun (MapsRequested pickle ask terms file after) lines end →
      DueSpace pickle ask terms file after why lines end
  met_due : {ended : Outcome} (met : List ℕ) → MapsRequested pickle ask terms file after (outcome_saying ended)
      → why ≡ true → MayShow terms ended met
      → DueSpace pickle ask terms file after why (met ∷ []) (Some (Ok (Run ended)))
