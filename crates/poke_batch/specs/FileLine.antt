-- The line of one file among many: its name, the exit status of its run, and what the run wrote.
use Rattle.std.specs.Prelude.{◌≡◌, ℕ, List, [], ◌∷◌, ◌++◌, Option, Some, ◌==◌, if◌then◌else◌, codes}
use Rattle.run_parts.specs.declared.status.Status.{Status}
use Rattle.run_parts.specs.declared.status.Status.TheVariants.{Done, Fault, Refused, Outside}
use Rattle.run_parts.specs.declared.outcome.Failure.{Failure}
use Rattle.run_parts.specs.declared.outcome.Failure.TheVariants as failure
use Rattle.run_parts.specs.declared.outcome.Outcome.{Outcome}
use Rattle.run_parts.specs.declared.outcome.Outcome.TheVariants as outcome
use Rattle.command_line.specs.declared.fault_form.FaultForm.{FaultForm}
use Rattle.command_line.specs.declared.fault_form.FaultForm.TheVariants as form
use Rattle.run_parts.specs.Outcomes.{EndsAs, outcome_json, outcome_line, outcome_status}
use Rattle.run_parts.specs.Told.{Saying}
use Rattle.value_text.specs.ValueText.{is_plain, escape_text}
use Rattle.poke_batch.specs.declared.each.Kept.{Kept}
use Rattle.std.specs.Io.KnownBytes.{Appends}

-- a byte of a name, as in a string, but for `"` (34), which isn't escaped
abbrev pub name_byte : ℕ → List ℕ
name_byte byte =
    if byte == 34 then 34 ∷ []
    else if is_plain byte then byte ∷ []
    else escape_text byte

abbrev pub shown_name : List ℕ → List ℕ
shown_name [] = []
shown_name (byte ∷ bytes) = name_byte byte ++ shown_name bytes

-- the exit status between two tabs
abbrev pub status_text : Status → List ℕ
status_text Done = codes "\t0\t"
status_text Fault = codes "\t1\t"
status_text Refused = codes "\t2\t"
status_text Outside = codes "\t3\t"

-- what reports an outcome: its line, or a JSON object
abbrev pub outcome_text : FaultForm → Outcome → List ℕ
outcome_text form.Text ended = outcome_line ended
outcome_text form.Json ended = outcome_json ended

-- what a run wrote: its text if it is done, else what reports its outcome
abbrev pub written_of : FaultForm → Outcome → (text : List ℕ) → List ℕ
written_of faults outcome.Done text = text
written_of faults ended text = outcome_text faults ended

-- status and what was written, which ends with a line feed
abbrev pub after_name : FaultForm → Outcome → (text : List ℕ) → List ℕ
after_name faults ended text = status_text (outcome_status ended) ++ written_of faults ended text

-- the same after the name
abbrev pub file_line : FaultForm → (name : List ℕ) → Outcome → (text : List ℕ) → List ℕ
file_line faults name ended text = shown_name name ++ after_name faults ended text

-- a run that writes into memory fails to write only where an allocation fails
abbrev pub failed_in_memory : Failure → Outcome
failed_in_memory failure.Write = outcome.Failed failure.Memory
failed_in_memory why = outcome.Failed why

abbrev pub in_memory : Outcome → Outcome
in_memory (outcome.Failed why) = failed_in_memory why
in_memory ended = ended

-- the line of a file has the exit status of its run, and what the run wrote into memory
pub record TellsFile (faults : FaultForm) (IsRight : Saying → Type 0)
    (Takes : Option (List ℕ) → Option (List ℕ) → List ℕ → Type 0) (name : List ℕ) (status : Status)
    (old new : Option (List ℕ)) : Type 0 where
  pub text : List ℕ
  pub ended : Outcome
  pub ends : EndsAs IsRight ended (Some []) (Some text)
  pub status_is : status ≡ outcome_status (in_memory ended)
  pub takes : Takes old new (file_line faults name (in_memory ended) text)

-- the line of a file is made from what is stored of its run
pub record TellsKept (faults : FaultForm) (kept : Kept) (name : List ℕ) (status : Status)
    (old new : Option (List ℕ)) : Type 0 where
  pub status_is : status ≡ outcome_status kept.outcome
  pub takes : Appends old new (file_line faults name kept.outcome kept.text.items)
