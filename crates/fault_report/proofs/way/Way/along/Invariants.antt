-- The places of the way are the places so far.
use Rattle.std.proofs.Common.{◌≡◌, take}
use Rattle.fault_report.specs.Found.{way_places}
use Rattle.fault_report.proofs.way.Way.along.Given as goal

abbrev pub invariant-loop-place : goal.invariant-loop-place
invariant-loop-place l = way_places l.way ≡ take l.place-index l.places
