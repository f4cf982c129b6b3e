use Rattle.std.proofs.Common.{Ok, ap}
use Rattle.std.proofs.KnownBytes.{Keeps-refl}
use Rattle.jobs.specs.Jobs.{DueReport, unreported}
use Rattle.jobs.specs.declared.ending.Ending.TheVariants.{Run}
use Rattle.jobs.proofs.Answered.{failed_other, report_holds}
use Rattle.jobs.proofs.Holding.{no_text}
use Rattle.run_parts.specs.declared.outcome.Outcome.TheVariants as outcome
use Rattle.jobs.proofs.answers.report_failure.Goals as goal

pub returns-in-Write : goal.returns-in-Write
returns-in-Write g c = no_text (DueReport (outcome.Failed c.args.why) c.args.lines.now)
    (Ok (Run (outcome.Failed c.args.why))) _ _ (unreported (ap outcome.Failed c.in-Write.is)) (Keeps-refl _)

pub returns-in_default : goal.returns-in_default
returns-in_default g c = rw c.ending_of.ensures
    (report_holds (outcome.Failed c.args.why) c.args.lines.now c.put_report.result _ _
    (failed_other c.args.why c.in_default.not-Write)
    c.put_report.ensures.status c.put_report.ensures.ok c.put_report.ensures.err)
