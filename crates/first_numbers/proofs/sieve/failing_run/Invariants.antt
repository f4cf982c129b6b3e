use Rattle.std.proofs.Common.{◌-◌, IfSome}
use Rattle.bit_space.specs.SpaceView.{Keeps}
use Rattle.first_numbers.specs.Screens.{AreMissed, IsScreen}
use Rattle.first_numbers.proofs.sieve.failing_run.Given as goal

abbrev pub invariant-loop-to : goal.invariant-loop-to
invariant-loop-to g l = record {
  keeps : Keeps (g.S.Space.view l.fn.space) (g.S.Space.view l.space);
  missed : IfSome l.screen (IsScreen l.first l.order) → IfSome l.second (IsScreen l.first l.order) →
      AreMissed l.first (g.S.Space.view l.fn.space) l.order l.at l.to l.steps;
}

abbrev pub decreases-loop-to : goal.decreases-loop-to
decreases-loop-to g l = l.end - l.to
