-- The places of the way are those of the levels so far.
use Rattle.std.proofs.Common.{◌≡◌, take}
use Rattle.fault_report.specs.Found.{places_under_way, way_places}
use Rattle.fault_report.proofs.trail.way_along.Given as goal

abbrev pub invariant-loop-level : goal.invariant-loop-level
invariant-loop-level l = way_places l.way ≡ places_under_way (take l.level-index l.levels)
