use Rattle.csv_text.proofs.Escaping.{escapes_back, escapes_differ}
use Rattle.csv_text.proofs.laws.escapes_read_back.Goals as goal

pub returns-clause-back : goal.returns-clause-back
returns-clause-back c = escapes_back

pub returns-clause-differ : goal.returns-clause-differ
returns-clause-differ c = escapes_differ
