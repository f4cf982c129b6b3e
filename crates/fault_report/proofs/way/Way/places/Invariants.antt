-- The places so far are those of the steps so far.
use Rattle.std.proofs.Common.{◌≡◌, take}
use Rattle.fault_report.specs.Found.{places_of}
use Rattle.fault_report.proofs.way.Way.places.Given as goal

abbrev pub invariant-loop-step : goal.invariant-loop-step
invariant-loop-step l = l.places.items ≡ places_of (take l.step-index l.step-items)
