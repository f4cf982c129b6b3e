use Rattle.std.proofs.Common.{◌≤◌, ◌-◌, length}
use Rattle.bit_space.specs.SpaceView.{Keeps, SpaceView}
use Rattle.searches.specs.Round.{IsStocked}
use Rattle.searches.specs.Rounds.{TriesTypes}
use Rattle.searches.proofs.round.try_types.Given as goal

abbrev pub invariant-loop-done : goal.invariant-loop-done
invariant-loop-done g l = record {
  within : l.done ≤ length l.hunt.list.now;
  keeps : Keeps (g.S.Space.view l.fn.space) (g.S.Space.view l.space);
  ready : IsStocked l.hunt (g.S.Space.view l.space) l.stock;
  tried : (first : SpaceView) → Keeps first (g.S.Space.view l.fn.space) →
      TriesTypes l.hunt first l.fn.at l.fn.stock.places.items l.done l.reach l.stock.places.items l.stock.text.items;
}

abbrev pub decreases-loop-done : goal.decreases-loop-done
decreases-loop-done g l = length l.hunt.list.now - l.done
