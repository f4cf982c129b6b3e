-- `end_of`: how a list ends doesn't depend on what is around it.
use Rattle.inner_records.proofs.list.end_of.Goals as goal

pub returns-then-is_met-clause-over : goal.returns-then-is_met-clause-over
returns-then-is_met-clause-over c = λ nodes around on met. c.ended_at.ensures nodes around
