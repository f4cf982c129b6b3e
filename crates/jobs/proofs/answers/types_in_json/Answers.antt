use Rattle.jobs.proofs.Answered.{failure_holds, refusal_holds, types_hold}
use Rattle.jobs.proofs.answers.types_in_json.Goals as goal

pub returns-in-Refused : goal.returns-in-Refused
returns-in-Refused g c =
    let refuses = c.in-Refused.ensures.refused in
    rw c.ending_of.ensures
    (refusal_holds c.args.explains c.args.pickle.now c.in-Refused.refusal c.put_refusal.result _ _ _ refuses
    c.in-Refused.ensures.ends (c.put_refusal.ensures.ok refuses) (c.put_refusal.ensures.err refuses))

pub returns-in-Done : goal.returns-in-Done
returns-in-Done g c = types_hold c.args.explains c.args.pickle.now _ _ c.in-Done.ensures.ends

pub returns-in_default : goal.returns-in_default
returns-in_default g c = failure_holds c.args.explains c.args.pickle.now c.types_outcome.result _ _ _ _
    c.in_default.not-Done c.in_default.not-Refused c.types_outcome.ensures.ends c.report_in_json.ensures
