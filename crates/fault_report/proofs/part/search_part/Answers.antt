-- The part that is found has the fault that the type means.
use Rattle.poke_batch.specs.TypeRuns.{run_type}
use Rattle.fault_location.specs.Ways.{fault_of}
use Rattle.fault_report.specs.Meant.{arises_there}
use Rattle.fault_report.proofs.Kept.{fault_means}
use Rattle.fault_report.proofs.part.search_part.Goals as goal

pub returns-in_ok-way-in-Ok-clause-part : goal.returns-in_ok-way-in-Ok-clause-part
returns-in_ok-way-in-Ok-clause-part g c =
    let space = g.S.Space.view c.args.space.now in
    let means = fault_means space space (run_type c.args.run.now) c.args.run.now.ask.now c.args.fault
    c.requires.of_type c.requires.meant in
    rw (c.new.ensures.way, c.in_ok-way-in-Ok.ensures, c.as_slice.ensures.value)
    (arises_there (λ bytes known. c.in-Ok.ensures.is bytes known (fault_of c.args.fault) (means bytes known)))
