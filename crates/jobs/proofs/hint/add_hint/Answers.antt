use Rattle.std.proofs.Common.{refl}
use Rattle.jobs.specs.FileReasons.{hinted, no_cause}
use Rattle.jobs.proofs.hint.add_hint.Goals as goal

pub returns-then-not-cause : goal.returns-then-not-cause
returns-then-not-cause c = no_cause c.if-not-cause.true refl

pub returns : goal.returns
returns c = hinted c.if-not-cause.false (rw c.line.ensures at c.tell.ensures) refl
