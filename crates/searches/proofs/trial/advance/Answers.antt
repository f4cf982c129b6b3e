-- `advance`: some starts are passed over, or the next one is tried.
use Rattle.std.proofs.Common.{◌≡◌, ◌*◌, true, sym, subst}
use Rattle.std.proofs.KnownBytes.{Keeps-refl}
use Rattle.bit_space.proofs.Failures.{keeps_all}
use Rattle.searches.specs.Starts.{goes_on}
use Rattle.searches.specs.Trial.{some_passed}
use Rattle.searches.proofs.Passed.{tried_later}
use Rattle.searches.proofs.trial.advance.Goals as goal

pub returns-then-passed-at-clause-ok : goal.returns-then-passed-at-clause-ok
returns-then-passed-at-clause-ok g c = λ first since.
    some_passed (c.pass_over-passed.ensures.passes first since) c.if-passed-at.true (Keeps-refl _)

pub try_start-requires-clause-on : goal.try_start-requires-clause-on
try_start-requires-clause-on g c =
    subst (λ len. goes_on c.args.search c.args.at (8 * len) ≡ true) (sym c.pass_over-passed.ensures.keeps.len)
    c.requires.on

pub returns-clause-ok : goal.returns-clause-ok
returns-clause-ok g c = λ first since.
    tried_later c.args.run.now c.args.search first c.args.at _ _ c.try_start.result
    (c.try_start.ensures.ok first (keeps_all since c.pass_over-passed.ensures.keeps))

pub returns-clause-err : goal.returns-clause-err
returns-clause-err g c = λ first since.
    c.try_start.ensures.err first (keeps_all since c.pass_over-passed.ensures.keeps)
