use Rattle.jobs.proofs.Answered.{report_holds}
use Rattle.run_parts.specs.declared.outcome.Failure.TheVariants as failure
use Rattle.jobs.proofs.answers.report_in_json.Goals as goal

pub returns-in_default : goal.returns-in_default
returns-in_default g c = rw c.ending_of.ensures
    (report_holds c.args.outcome c.args.lines.now c.put_report.result _ _ (c.in_default.not-Failed failure.Write)
    c.put_report.ensures.status c.put_report.ensures.ok c.put_report.ensures.err)
