use Rattle.first_numbers.proofs.Screened.{sieve_since}
use Rattle.searches.proofs.Missed.{holds_since, stopped_since}
use Rattle.searches.proofs.skips.attempt.Goals as goal

pub returns-in-None-clause-ok : goal.returns-in-None-clause-ok
returns-in-None-clause-ok g c =
    holds_since c.args.run.now (g.S.Space.view c.args.space.now) (g.S.Space.view c.missed.new.space)
    c.attempt.new.kept.store c.attempt.result c.missed.ensures.keeps c.attempt.ensures.ok

pub returns-in-None-clause-err : goal.returns-in-None-clause-err
returns-in-None-clause-err g c =
    stopped_since c.args.run.now (g.S.Space.view c.args.space.now) (g.S.Space.view c.missed.new.space)
    (g.S.Space.view c.attempt.new.space) c.attempt.result c.missed.ensures.keeps c.attempt.ensures.keeps
    c.attempt.ensures.err

pub returns-in-None-clause-sieve : goal.returns-in-None-clause-sieve
returns-in-None-clause-sieve g c = sieve_since _ _ _ c.attempt.ensures.keeps c.missed.ensures.sieve
