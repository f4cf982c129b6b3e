use Rattle.jobs.specs.Reasons.{no_type, refused_pickle}
use Rattle.jobs.proofs.Explained.{place_said, types_said}
use Rattle.jobs.proofs.why.refusal_text.Goals as goal

pub returns-in-Refused-clause-some : goal.returns-in-Refused-clause-some
returns-in-Refused-clause-some c = rw c.in-Refused.is (
  refused_pickle,
  place_said c.args.pickle.now c.in-Refused.refusal _ _ c.refusal_explanation.result
      c.deref.ensures.value c.as_bytes-path.ensures.value c.refusal_explanation.ensures,
)

pub returns-in-NoSuchType-clause-some : goal.returns-in-NoSuchType-clause-some
returns-in-NoSuchType-clause-some c = rw c.in-NoSuchType.is
    (no_type, types_said c.args.pickle.now c.no_such_type.result c.no_such_type.ensures)
