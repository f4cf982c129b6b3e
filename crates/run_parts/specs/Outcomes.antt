-- How a run ends, and what is printed of it.
use Rattle.std.specs.Prelude.{ℕ, List, [], Option, codes}
use Rattle.std.specs.Io.KnownBytes.{Appends, Keeps}
use Rattle.pickle_meaning.specs.declared.faults.MapFaultKind.{MapFaultKind}
use Rattle.pickle_meaning.specs.declared.faults.MapFaultKind.TheVariants as fault
use Rattle.pickle_meaning.specs.FaultNames.{fault_kind}
use Rattle.run_parts.specs.Accepted.{refusal_kind, refusal_saying}
use Rattle.run_parts.specs.FaultLines.{fault_saying}
use Rattle.run_parts.specs.Lines.{refused_line, fault_line, fault_at_line, fault_starts_line}
use Rattle.run_parts.specs.Reports.{report_members, report_json}
use Rattle.run_parts.specs.Told.{Saying, Text, Line}
use Rattle.run_parts.specs.declared.accept.Refusal.{Refusal}
use Rattle.run_parts.specs.declared.accept.Refusal.TheVariants as refusal
use Rattle.run_parts.specs.declared.lines.RunEnd.{RunEnd}
use Rattle.run_parts.specs.declared.lines.RunEnd.TheVariants.{Nowhere, Byte, Declaration, Bit, Starts}
use Rattle.run_parts.specs.declared.outcome.Failure.{Failure}
use Rattle.run_parts.specs.declared.outcome.Failure.TheVariants as failure
use Rattle.run_parts.specs.declared.outcome.Outcome.{Outcome}
use Rattle.run_parts.specs.declared.outcome.Outcome.TheVariants as outcome
use Rattle.run_parts.specs.declared.status.Status.{Status}
use Rattle.run_parts.specs.declared.status.Status.TheVariants.{Done, Fault, Refused, Outside}
use Rattle.text_output.specs.Written.{AppendsPart}

-- the name of what failed in the environment
abbrev pub failure_kind : Failure → List ℕ
failure_kind failure.Memory = codes "Memory"
failure_kind failure.Device = codes "Device"
failure_kind failure.Write = codes "Write"
failure_kind failure.Read = codes "Read"
failure_kind failure.Open = codes "Open"
failure_kind failure.TooLong = codes "TooLong"

-- the line that reports an outcome, with its exit status; a run that is done has an empty one
abbrev pub outcome_saying : Outcome → Saying
outcome_saying outcome.Done = Line Done []
outcome_saying (outcome.Refused why) = refusal_saying why
outcome_saying outcome.NoSuchType = Line Refused (refused_line (codes "NoSuchType"))
outcome_saying outcome.ImpossiblePart = Line Refused (refused_line (codes "NoSuchPart"))
outcome_saying outcome.Offset = Line Refused (refused_line (codes "offset"))
outcome_saying (outcome.Fault why) = fault_saying why.kind why.at
outcome_saying (outcome.Slots at) = Line Fault (fault_at_line (codes "Slots") at)
outcome_saying (outcome.Storage at) = Line Fault (fault_at_line (codes "Storage") at)
outcome_saying (outcome.Left at) = Line Fault (fault_at_line (codes "Left") at)
outcome_saying outcome.NoSuchPart = Line Fault (fault_line (codes "NoSuchPart"))
outcome_saying (outcome.Output at) = Line Fault (fault_at_line (codes "Output") at)
outcome_saying outcome.Unidentified = Line Fault (fault_line (codes "Unidentified"))
outcome_saying outcome.NotFound = Line Fault (fault_line (codes "NotFound"))
outcome_saying (outcome.Attempts first count) = Line Fault (fault_starts_line (codes "Attempts") first count)
outcome_saying (outcome.Unaligned at) = Line Fault (fault_at_line (codes "Unaligned") at)
outcome_saying (outcome.Failed why) = Line Outside (fault_line (failure_kind why))

-- the exit status and the line of what is said
abbrev pub status_said : Saying → Status
status_said (Text text) = Done
status_said (Line status line) = status

abbrev pub line_said : Saying → List ℕ
line_said (Text text) = []
line_said (Line status line) = line

abbrev pub outcome_status : Outcome → Status
outcome_status ended = status_said (outcome_saying ended)

abbrev pub outcome_line : Outcome → List ℕ
outcome_line ended = line_said (outcome_saying ended)

-- the name in that line
abbrev pub outcome_kind : Outcome → List ℕ
outcome_kind outcome.Done = codes "Done"
outcome_kind (outcome.Refused why) = refusal_kind why
outcome_kind outcome.NoSuchType = codes "NoSuchType"
outcome_kind outcome.ImpossiblePart = codes "NoSuchPart"
outcome_kind outcome.Offset = codes "offset"
outcome_kind (outcome.Fault why) = fault_kind why.kind
outcome_kind (outcome.Slots at) = codes "Slots"
outcome_kind (outcome.Storage at) = codes "Storage"
outcome_kind (outcome.Left at) = codes "Left"
outcome_kind outcome.NoSuchPart = codes "NoSuchPart"
outcome_kind (outcome.Output at) = codes "Output"
outcome_kind outcome.Unidentified = codes "Unidentified"
outcome_kind outcome.NotFound = codes "NotFound"
outcome_kind (outcome.Attempts first count) = codes "Attempts"
outcome_kind (outcome.Unaligned at) = codes "Unaligned"
outcome_kind (outcome.Failed why) = failure_kind why

-- a failure of the environment is no fault of the mapping, and has no place
abbrev pub fault_status : MapFaultKind → Status
fault_status fault.Device = Outside
fault_status fault.Memory = Outside
fault_status kind = Fault

abbrev pub fault_place : MapFaultKind → (at : ℕ) → RunEnd
fault_place fault.Device at = Nowhere
fault_place fault.Memory at = Nowhere
fault_place kind at = Bit at

abbrev pub refusal_place : Refusal → RunEnd
refusal_place (refusal.Tokens kind at) = Byte at
refusal_place (refusal.Syntax at) = Byte at
refusal_place refusal.TooDeep = Nowhere
refusal_place refusal.TooMany = Nowhere
refusal_place (refusal.Types kind declaration) = Declaration declaration
refusal_place refusal.Memory = Nowhere

-- the place in that line
abbrev pub outcome_place : Outcome → RunEnd
outcome_place outcome.Done = Nowhere
outcome_place (outcome.Refused why) = refusal_place why
outcome_place outcome.NoSuchType = Nowhere
outcome_place outcome.ImpossiblePart = Nowhere
outcome_place outcome.Offset = Nowhere
outcome_place (outcome.Fault why) = fault_place why.kind why.at
outcome_place (outcome.Slots at) = Bit at
outcome_place (outcome.Storage at) = Bit at
outcome_place (outcome.Left at) = Bit at
outcome_place outcome.NoSuchPart = Nowhere
outcome_place (outcome.Output at) = Bit at
outcome_place outcome.Unidentified = Nowhere
outcome_place outcome.NotFound = Nowhere
outcome_place (outcome.Attempts first count) = Starts first count
outcome_place (outcome.Unaligned at) = Bit at
outcome_place (outcome.Failed why) = Nowhere

-- an outcome as a JSON object on a line; of a run that is done there is none
abbrev pub outcome_json : Outcome → List ℕ
outcome_json outcome.Done = []
outcome_json ended = report_json (outcome_status ended) (outcome_kind ended) (outcome_place ended)

-- the members of that object
abbrev pub outcome_members : Outcome → List ℕ
outcome_members outcome.Done = []
outcome_members ended = report_members (outcome_status ended) (outcome_kind ended) (outcome_place ended)

-- a run ends with what is right: its text is written whole, or in part to a failing writer; or nothing is written, and
-- its line is right
pub data EndsAs (IsRight : Saying → Type 0) : Outcome → (out out' : Option (List ℕ)) → Type 0 where
  writes : {out out' : Option (List ℕ)} (text : List ℕ) → IsRight (Text text) → Appends out out' text →
      EndsAs IsRight outcome.Done out out'
  cuts : {out out' : Option (List ℕ)} (text : List ℕ) → IsRight (Text text) → AppendsPart out out' text →
      EndsAs IsRight (outcome.Failed failure.Write) out out'
  reports : {ended : Outcome} {out out' : Option (List ℕ)} → IsRight (outcome_saying ended) → Keeps out out' →
      EndsAs IsRight ended out out'
