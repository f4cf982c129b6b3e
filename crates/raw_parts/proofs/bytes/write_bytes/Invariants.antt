use Rattle.std.proofs.Common.{◌≤◌, ◌-◌}
use Rattle.bit_space.specs.SpaceView.{Keeps}
use Rattle.raw_parts.specs.Copied.{Copies}
use Rattle.raw_parts.proofs.bytes.write_bytes.Given as goal

abbrev pub invariant-loop-place : goal.invariant-loop-place
invariant-loop-place g l = record {
  starts : l.range.from ≤ l.place;
  within : l.place ≤ l.range.end;
  keeps : Keeps (g.S.Space.view l.initial.space) (g.S.Space.view l.space);
  copies : Copies (g.S.Space.view l.initial.space) l.range.from l.place (g.O.Write.contents l.initial.out)
      (g.O.Write.contents l.out);
}

abbrev pub decreases-loop-place : goal.decreases-loop-place
decreases-loop-place g l = l.range.end - l.place
