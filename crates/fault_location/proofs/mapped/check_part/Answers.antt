use Rattle.std.proofs.Common.{refl}
use Rattle.pickle_meaning.specs.Clauses.{constraint}
use Rattle.fault_location.proofs.mapped.check_part.Goals as goal

pub returns-in-None-clause-is : goal.returns-in-None-clause-is
unfolding constraint
returns-in-None-clause-is c = λ nodes. rw c.in-None.is refl
