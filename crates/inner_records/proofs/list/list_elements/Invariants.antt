use Rattle.std.proofs.Common.{◌≤◌, ◌-◌}
use Rattle.bit_space.specs.SpaceView.{Keeps, SpaceView}
use Rattle.inner_records.specs.Elements.{IsElement}
use Rattle.inner_records.specs.Next.{StaysAtList}
use Rattle.inner_records.specs.Stored.{listed_of}
use Rattle.list_laws.specs.Meanings.{bytes_in}
use Rattle.records.proofs.Lists.{IsListed}
use Rattle.inner_records.proofs.list.list_elements.Given as goal

abbrev pub invariant-loop-stored : goal.invariant-loop-stored
invariant-loop-stored g l = record {
  keeps : Keeps (g.S.Space.view l.fn.space) (g.S.Space.view l.space);
  stays : StaysAtList l.run l.elements.place l.fn.stored l.stored;
  few : l.progress.count ≤ l.progress.place;
  inside : l.progress.place ≤ l.bits;
  listed : (first : SpaceView) → Keeps first (g.S.Space.view l.fn.space) →
      IsListed (IsElement (listed_of l.run l.elements.place l.fn.stored) (bytes_in first)) l.run l.listing first
      l.fn.begin l.progress (g.O.Write.contents l.fn.out) (g.O.Write.contents l.out);
}

abbrev pub decreases-loop-stored : goal.decreases-loop-stored
decreases-loop-stored g l = l.bits - l.progress.place
