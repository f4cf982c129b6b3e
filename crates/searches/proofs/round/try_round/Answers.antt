-- `try_round`: all types were tried, and then the lines are written.
use Rattle.std.proofs.KnownBytes.{Keeps-refl}
use Rattle.std.proofs.lemmas.Result.{err_from_is_err_and}
use Rattle.searches.proofs.Trials.{on_since}
use Rattle.searches.specs.Round.{cut_off, no_more}
use Rattle.searches.specs.Rounds.{breaks}
use Rattle.searches.proofs.round.try_round.Goals as goal

pub returns-in_err-next-clause-err : goal.returns-in_err-next-clause-err
returns-in_err-next-clause-err g c = λ first since.
    let p = err_from_is_err_and c.from_residual.result c.from_residual.ensures.1 in
    rw (p.1, p.2)
    (no_more
    (breaks (on_since c.args.hunt.now.search c.args.at first _ since c.requires.on)
    (c.in_err-next.ensures.err first since)) (Keeps-refl _))

pub returns-in-Err-clause-err : goal.returns-in-Err-clause-err
returns-in-Err-clause-err g c = λ first since.
    cut_off (on_since c.args.hunt.now.search c.args.at first _ since c.requires.on)
    (c.in_ok-next.ensures.ok first since) (rw c.deref.ensures.value at c.in-Err.ensures.err)
