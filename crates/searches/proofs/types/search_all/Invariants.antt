use Rattle.std.proofs.Common.{◌≤◌, ◌-◌}
use Rattle.bit_space.specs.SpaceView.{Keeps}
use Rattle.searches.specs.Round.{IsStocked}
use Rattle.searches.proofs.Hunts.{IsHunted}
use Rattle.searches.proofs.types.search_all.Given as goal

abbrev pub invariant-loop-stock : goal.invariant-loop-stock
invariant-loop-stock g l = record {
  keeps : Keeps (g.S.Space.view l.fn.space) (g.S.Space.view l.space);
  ready : IsStocked l.hunt (g.S.Space.view l.space) l.stock;
  inside : l.reach.place ≤ l.bits;
  hunted : IsHunted l.hunt (g.S.Space.view l.fn.space) l.reach l.stock.places.items
      (g.O.Write.contents l.fn.out) (g.O.Write.contents l.out);
}

abbrev pub decreases-loop-stock : goal.decreases-loop-stock
decreases-loop-stock g l = l.bits - l.reach.place
