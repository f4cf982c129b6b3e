use Rattle.std.proofs.Common.{◌≡◌, ◌≤◌, ◌-◌, length}
use Rattle.bit_space.specs.SpaceView.{Keeps}
use Rattle.searches.specs.Round.{IsStocked}
use Rattle.searches.specs.Stretches.{PassesTypes}
use Rattle.searches.proofs.stretches.common_stretch.Given as goal

abbrev pub invariant-loop-done : goal.invariant-loop-done
invariant-loop-done g l = record {
  within : l.done ≤ length l.hunt.list.now;
  keeps : Keeps (g.S.Space.view l.fn.space) (g.S.Space.view l.space);
  ready : IsStocked l.hunt (g.S.Space.view l.space) l.stock;
  places : l.stock.places.items ≡ l.fn.stock.places.items;
  passes : PassesTypes l.hunt (g.S.Space.view l.fn.space) l.at l.fn.stock.places.items l.common.count l.done
      l.common.miss.steps;
}

abbrev pub decreases-loop-done : goal.decreases-loop-done
decreases-loop-done g l = length l.hunt.list.now - l.done
