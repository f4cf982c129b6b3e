use Rattle.std.proofs.Common.{◌<◌, ◌≤◌, ◌-◌, length}
use Rattle.identification.specs.Prepared.{Leads}
use Rattle.identification.proofs.prepare.line_of.Given as goal

abbrev pub invariant-loop-places : goal.invariant-loop-places
invariant-loop-places l = record {
  within : l.at < length l.list;
  few : length l.places.items ≤ length l.list;
  leads : Leads l.list l.fn.place l.places.items l.at;
}

abbrev pub decreases-loop-places : goal.decreases-loop-places
decreases-loop-places l = length l.list - length l.places.items
