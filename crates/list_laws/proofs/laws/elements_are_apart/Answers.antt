use Rattle.list_laws.proofs.Apart.{elements_apart}
use Rattle.list_laws.proofs.laws.elements_are_apart.Goals as goal

pub returns : goal.returns
returns c = record { law = elements_apart }
