use Rattle.jobs.proofs.Explained.{made_says}
use Rattle.jobs.proofs.why.explain_parts.Goals as goal

pub returns-clause-says : goal.returns-clause-says
returns-clause-says c = λ asked ended. made_says _ _ _ c.made.ensures c.impossible_line.ensures
