use Rattle.std.proofs.Common.{◌≤◌, ◌-◌}
use Rattle.bit_space.specs.SpaceView.{Keeps}
use Rattle.records.specs.Next.{IsReady}
use Rattle.records.specs.Records.{IsRecord, first_of}
use Rattle.records.proofs.Lists.{IsListed}
use Rattle.records.proofs.list.list_records.Given as goal

abbrev pub invariant-loop-listing : goal.invariant-loop-listing
invariant-loop-listing g l = record {
  keeps : Keeps (g.S.Space.view l.fn.space) (g.S.Space.view l.space);
  ready : IsReady l.run l.kept;
  few : l.progress.count ≤ l.progress.place;
  inside : l.progress.place ≤ l.bits;
  listed : IsListed (IsRecord l.run (g.S.Space.view l.fn.space)) l.run l.listing (g.S.Space.view l.fn.space)
      (first_of l.run.ask.now) l.progress (g.O.Write.contents l.fn.out) (g.O.Write.contents l.out);
}

abbrev pub decreases-loop-listing : goal.decreases-loop-listing
decreases-loop-listing g l = l.bits - l.progress.place
