use Rattle.searches.specs.Written.{lacks_memory}
use Rattle.searches.proofs.line.gather_line.Goals as goal

pub returns-in-Err-clause-err : goal.returns-in-Err-clause-err
returns-in-Err-clause-err g c = lacks_memory
