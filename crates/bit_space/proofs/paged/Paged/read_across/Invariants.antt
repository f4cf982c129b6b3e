use Rattle.std.proofs.Common.{◌-◌, ◌≤◌, length}
use Rattle.bit_space.specs.SpaceView.{Keeps}
use Rattle.bit_space.proofs.Pages.{Filled}
use Rattle.bit_space.proofs.paged.Paged.read_across.Given as goal

abbrev pub invariant-loop-done : goal.invariant-loop-done
invariant-loop-done g l =
    Keeps (g.S.Space.view l.initial.self) (g.S.Space.view l.self) × (l.done ≤ length l.initial.into)
    × Filled (g.S.Space.view l.initial.self) l.at l.done l.into

abbrev pub decreases-loop-done : goal.decreases-loop-done
decreases-loop-done g l = length l.initial.into - l.done
