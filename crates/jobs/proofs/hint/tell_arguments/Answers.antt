use Rattle.std.proofs.Common.{◌∙◌, refl, sym}
use Rattle.jobs.specs.FileReasons.{no_fault, with_fault}
use Rattle.jobs.proofs.FileReasons.{no_false}
use Rattle.jobs.proofs.hint.tell_arguments.Goals as goal

pub returns-then-not-why : goal.returns-then-not-why
returns-then-not-why c = λ asked. absurd (no_false (sym c.if-not-why.true ∙ asked))

pub returns-in-Fault : goal.returns-in-Fault
returns-in-Fault c = λ asked. with_fault (sym c.status.ensures ∙ c.in-Fault.is)
    (rw c.deref.ensures.value at c.add_arguments.ensures)

pub returns-in_default : goal.returns-in_default
returns-in_default c = λ asked. no_fault (λ is. c.in_default.not-Fault (c.status.ensures ∙ is)) refl
