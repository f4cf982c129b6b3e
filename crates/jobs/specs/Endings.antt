-- How a job ended: its exit status, and the line that reports it.
use Rattle.std.specs.Prelude.{ℕ, Bool, true, false, List, []}
use Rattle.command_line.specs.declared.fault_form.FaultForm.{FaultForm}
use Rattle.jobs.specs.declared.ending.Ending.{Ending}
use Rattle.jobs.specs.declared.ending.Ending.TheVariants.{Run, Silent}
use Rattle.poke_batch.specs.FileLine.{outcome_text}
use Rattle.run_parts.specs.Outcomes.{outcome_status}
use Rattle.run_parts.specs.declared.status.Status.{Status}
use Rattle.run_parts.specs.declared.status.Status.TheVariants.{Done, Fault, Refused, Outside}

abbrev pub ending_status : Ending → Status
ending_status (Run ended) = outcome_status ended
ending_status (Silent status) = status

abbrev pub ending_text : FaultForm → Ending → List ℕ
ending_text faults (Run ended) = outcome_text faults ended
ending_text faults (Silent status) = []

-- whether a run with this exit status mapped its file, and nothing in the environment failed
abbrev pub is_mapped : Status → Bool
is_mapped Done = true
is_mapped Fault = true
is_mapped Refused = false
is_mapped Outside = false
