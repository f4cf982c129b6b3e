-- Why a pickle is no format, in a line.
use Rattle.std.specs.Prelude.{ℕ, List, ◌++◌, codes}
use Rattle.pickle_heads.specs.Heads.{fault_name}
use Rattle.pickle_heads.specs.declared.fault.HeadFault.{HeadFault}
use Rattle.pickle_heads.specs.declared.fault.HeadFault.TheVariants as head
use Rattle.identification.specs.declared.prepare.Unfit.{Unfit}
use Rattle.identification.specs.declared.prepare.Unfit.TheVariants as unfit
use Rattle.poke_batch.specs.FileLine.{shown_name}
use Rattle.run_parts.specs.Outcomes.{outcome_line}
use Rattle.run_parts.specs.declared.outcome.Outcome.TheVariants.{Refused}

-- a line of its head that isn't in its form
abbrev pub form_reason : (line : List ℕ) → List ℕ
form_reason line = codes "its line " ++ (line ++ codes " isn't in its form\n")

abbrev pub head_reason : HeadFault → List ℕ
head_reason head.Order = codes "a line of its head is there twice, or after one that has to follow it\n"
head_reason fault = form_reason (fault_name fault)

-- the reason; of a pickle that is refused, the line of the refusal
abbrev pub reason : Unfit → List ℕ
reason (unfit.Refused refusal) = outcome_line (Refused refusal)
reason (unfit.Head fault) = head_reason fault
reason unfit.NoIdentifyingType = codes "it has no type of the name in its line Identified by\n"
reason unfit.NoMainType = codes "it has no type of the name in its line main, or no such line\n"
reason unfit.NoForm = codes "no pickle has the name in its line Form of\n"
reason unfit.Cycle = codes "it is a form of itself\n"
reason unfit.Order = codes "its name doesn't come after that of the pickle before it\n"
reason unfit.Memory = codes "fault Memory\n"

-- the line, with the name as that of a file
abbrev pub unprepared_line : (name : List ℕ) → Unfit → List ℕ
unprepared_line name why =
    codes "error: the pickle " ++ (shown_name name ++ (codes " is no format: " ++ reason why))
