use Rattle.std.proofs.Common.{refl}
use Rattle.fault_location.proofs.arises.arises.Goals as goal

pub returns-clause-emptied : goal.returns-clause-emptied
returns-clause-emptied g c = rw c.clear.ensures.empty refl
