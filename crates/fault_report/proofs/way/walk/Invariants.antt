-- The steps so far lead to the node that is reached, and each way along all steps goes on from there.
use Rattle.std.proofs.Common.{◌<◌, length, take, drop}
use Rattle.pickle_types.specs.Table.{type_of}
use Rattle.fault_report.specs.Found.{places_of}
use Rattle.fault_report.specs.Ways.{LeadsTo, HasPart}
use Rattle.fault_report.proofs.way.walk.Given as goal

abbrev pub invariant-loop-step : goal.invariant-loop-step
invariant-loop-step l =
    LeadsTo (type_of l.nodes l.root) (places_of (take l.step-index l.steps)) l.text.bytes.items (type_of l.nodes l.node)
    × (l.node < length l.nodes)
    × (HasPart (type_of l.nodes l.root) (places_of l.steps) →
    HasPart (type_of l.nodes l.node) (places_of (drop l.step-index l.steps)))
