use Rattle.std.proofs.Common.{◌≡◌, length}
use Rattle.identification.specs.Prepared.{AreLines}
use Rattle.identification.proofs.prepare.lines_of.Given as goal

abbrev pub invariant-loop-place : goal.invariant-loop-place
invariant-loop-place l = record {
  count : length l.lines.items ≡ l.place;
  so_far : AreLines l.list 0 l.lines.items;
}
