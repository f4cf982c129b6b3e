-- `try_type`: the type is tried after its signature, or the signature's attempt is stopped.
use Rattle.bit_space.proofs.Failures.{keeps_all}
use Rattle.first_numbers.proofs.Screened.{sieve_since}
use Rattle.searches.proofs.Probes.{goes_signed, goes_unsigned, stops_at, stops_signed, stops_unsigned}
use Rattle.searches.proofs.round.try_type.Goals as goal

pub returns-in-Ok-clause-ok : goal.returns-in-Ok-clause-ok
returns-in-Ok-clause-ok g c = λ first since.
    goes_signed c.args.hunt.now first (g.S.Space.view c.probe.new.space) c.args.at c.args.sought.now c.in-Ok.hit
    c.spend.result (c.in-Ok.ensures.ok first (keeps_all since c.skip.ensures.keeps)) c.spend.ensures c.try_value.result
    (c.try_value.ensures.ok first (keeps_all since (keeps_all c.skip.ensures.keeps c.probe.ensures.keeps)))

pub returns-in-Ok-clause-err : goal.returns-in-Ok-clause-err
returns-in-Ok-clause-err g c = λ first since.
    stops_signed c.args.hunt.now first (g.S.Space.view c.try_value.new.space) c.args.at c.args.sought.now c.in-Ok.hit
    c.spend.result (c.in-Ok.ensures.ok first (keeps_all since c.skip.ensures.keeps)) c.spend.ensures c.try_value.result
    (c.try_value.ensures.err first (keeps_all since (keeps_all c.skip.ensures.keeps c.probe.ensures.keeps)))

pub returns-in-Err-clause-ok : goal.returns-in-Err-clause-ok
returns-in-Err-clause-ok g c = λ first since.
    goes_unsigned c.args.hunt.now first (g.S.Space.view c.probe.new.space) c.args.at c.args.sought.now
    c.in-Err.stopped (c.in-Err.ensures.err first (keeps_all since c.skip.ensures.keeps)) c.go_without-in-Err.result
    c.go_without-in-Err.ensures.ok

pub returns-in-Err-clause-err : goal.returns-in-Err-clause-err
returns-in-Err-clause-err g c = λ first since.
    let last = g.S.Space.view c.probe.new.space in
    stops_unsigned c.args.hunt.now first last c.args.at c.args.sought.now c.go_without-in-Err.result
    (stops_at c.args.hunt.now first last c.args.at c.args.sought.now c.args.sought.now.signature c.in-Err.stopped
    (c.in-Err.ensures.err first (keeps_all since c.skip.ensures.keeps)) c.go_without-in-Err.result
    c.go_without-in-Err.ensures.err)

pub returns-in-Some-clause-ok : goal.returns-in-Some-clause-ok
returns-in-Some-clause-ok g c = λ first since.
    goes_unsigned c.args.hunt.now first (g.S.Space.view c.skip.new.space) c.args.at c.args.sought.now
    c.in-Some.stopped (c.in-Some.ensures.missed first since) c.go_without.result c.go_without.ensures.ok

pub returns-in-Some-clause-err : goal.returns-in-Some-clause-err
returns-in-Some-clause-err g c = λ first since.
    let last = g.S.Space.view c.skip.new.space in
    stops_unsigned c.args.hunt.now first last c.args.at c.args.sought.now c.go_without.result
    (stops_at c.args.hunt.now first last c.args.at c.args.sought.now c.args.sought.now.signature c.in-Some.stopped
    (c.in-Some.ensures.missed first since) c.go_without.result c.go_without.ensures.err)

pub returns-in-Ok-clause-sieve : goal.returns-in-Ok-clause-sieve
returns-in-Ok-clause-sieve g c =
    sieve_since _ _ _ (keeps_all c.probe.ensures.keeps c.try_value.ensures.keeps) c.skip.ensures.sieve

pub returns-in-Err-clause-sieve : goal.returns-in-Err-clause-sieve
returns-in-Err-clause-sieve g c = sieve_since _ _ _ c.probe.ensures.keeps c.skip.ensures.sieve
