use Rattle.std.specs.List.{AllAdjacentBelow}
use Rattle.identification.specs.Prepared.{IsNamedBefore}
use Rattle.identification.proofs.prepare.misplaced.Given as goal

abbrev pub invariant-loop-place : goal.invariant-loop-place
invariant-loop-place l = AllAdjacentBelow IsNamedBefore l.sources l.place
