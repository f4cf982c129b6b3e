use Rattle.std.proofs.Common.{◌-◌, ◌≤◌, length}
use Rattle.bit_space.specs.SpaceView.{SpaceView}
use Rattle.searches.proofs.Sieves.{AreMade}
use Rattle.searches.proofs.types.new_sieves.Given as goal

abbrev pub invariant-loop-done : goal.invariant-loop-done
invariant-loop-done l = record {
  within : l.done ≤ length l.list;
  made : (space : SpaceView) → AreMade l.list space l.done l.sieves.items;
}

abbrev pub decreases-loop-done : goal.decreases-loop-done
decreases-loop-done l = length l.list - l.done
