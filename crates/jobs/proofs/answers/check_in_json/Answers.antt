use Rattle.jobs.proofs.Answered.{check_holds}
use Rattle.jobs.proofs.answers.check_in_json.Goals as goal

pub returns : goal.returns
returns g c = rw c.ending_of.ensures
    (check_holds c.args.explains c.args.pickle.now c.put_check.result _ _ c.put_check.ensures.ok
    c.put_check.ensures.err)
