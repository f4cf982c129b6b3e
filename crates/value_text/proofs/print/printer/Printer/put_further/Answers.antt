use Rattle.value_text.specs.Steps.{steps_of}
use Rattle.value_text.proofs.Paths.{path_is}
use Rattle.value_text.proofs.print.printer.Printer.put_further.Goals as goal

pub returns : goal.returns
returns g c = rw (path_is (steps_of c.args.above.now) c.args.step) c.put_last.ensures
