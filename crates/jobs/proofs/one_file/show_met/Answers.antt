use Rattle.std.proofs.KnownBytes.{Keeps-refl}
use Rattle.jobs.specs.Given.{adds_met, adds_none, cuts_met}
use Rattle.jobs.proofs.one_file.show_met.Goals as goal

pub returns-then-not-may_show : goal.returns-then-not-may_show
returns-then-not-may_show g c = adds_none (Keeps-refl _)

pub returns-in-Ok : goal.returns-in-Ok
returns-in-Ok g c = adds_met c.args.met.now (c.may_show.ensures c.if-not-may_show.false) c.in-Ok.ensures.ok

pub returns-in-Err : goal.returns-in-Err
returns-in-Err g c = cuts_met c.args.met.now (c.may_show.ensures c.if-not-may_show.false) c.in-Err.ensures.err
