-- `advance`: some starts are passed over, or the next one is tried.
use Rattle.std.proofs.Common.{◌≡◌, ◌*◌, ℕ, List, true, sym, subst}
use Rattle.std.proofs.KnownBytes.{Keeps-refl}
use Rattle.bit_space.proofs.Failures.{keeps_all}
use Rattle.searches.specs.Starts.{goes_on}
use Rattle.searches.specs.Stretches.{some_passed}
use Rattle.searches.proofs.Together.{tried_later}
use Rattle.searches.proofs.stretches.advance.Goals as goal

pub returns-then-passed-at-clause-ok : goal.returns-then-passed-at-clause-ok
returns-then-passed-at-clause-ok g c = λ first since.
    some_passed (c.pass_starts-passed.ensures.passes first since) c.if-passed-at.true
    c.pass_starts-passed.ensures.places (Keeps-refl _)

pub try_round-requires-clause-on : goal.try_round-requires-clause-on
try_round-requires-clause-on g c =
    subst (λ len. goes_on c.args.hunt.now.search c.args.at (8 * len) ≡ true)
    (sym c.pass_starts-passed.ensures.keeps.len) c.requires.on

pub returns-clause-ok : goal.returns-clause-ok
returns-clause-ok g c = λ first since.
    tried_later c.args.hunt.now first c.args.at _ _ _ _ c.try_round.result
    (rw (sym c.pass_starts-passed.ensures.places)
    (c.try_round.ensures.ok first (keeps_all since c.pass_starts-passed.ensures.keeps)))

pub returns-clause-err : goal.returns-clause-err
returns-clause-err g c = λ first since.
    rw (sym c.pass_starts-passed.ensures.places)
    (c.try_round.ensures.err first (keeps_all since c.pass_starts-passed.ensures.keeps))
