use Rattle.mapping_plans.proofs.laws.has_one_answer.Goals as goal
use Rattle.mapping_plans.proofs.Outcomes.{one_answer}

-- src/laws.rt
pub returns : goal.returns
returns c = record { law = one_answer }
