-- `try_value`: a value is found, or the attempt is stopped.
use Rattle.searches.proofs.Probes.{goes_meant, goes_unmeant, stops_at}
use Rattle.searches.proofs.round.try_value.Goals as goal

pub returns-in-Ok-clause-ok : goal.returns-in-Ok-clause-ok
returns-in-Ok-clause-ok g c = λ first since.
    goes_meant c.args.hunt.now first (g.S.Space.view c.probe.new.space) c.args.at c.args.sought.now c.in-Ok.hit _
    (c.in-Ok.ensures.ok first since) c.past_value.ensures

pub returns-in-Err-clause-ok : goal.returns-in-Err-clause-ok
returns-in-Err-clause-ok g c = λ first since.
    goes_unmeant c.args.hunt.now first (g.S.Space.view c.probe.new.space) c.args.at c.args.sought.now c.in-Err.stopped
    (c.in-Err.ensures.err first since) c.go_without.result c.go_without.ensures.ok

pub returns-in-Err-clause-err : goal.returns-in-Err-clause-err
returns-in-Err-clause-err g c = λ first since.
    stops_at c.args.hunt.now first (g.S.Space.view c.probe.new.space) c.args.at c.args.sought.now
    c.args.sought.now.id c.in-Err.stopped (c.in-Err.ensures.err first since) c.go_without.result
    c.go_without.ensures.err
