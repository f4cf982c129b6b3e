use Rattle.std.proofs.Common.{◌≡◌, Some, drop}
use Rattle.value_text.specs.TypedValue.{mapped_in, node_in, nodes_in, types_in}
use Rattle.raw_parts.specs.Integral.{enters_integral}
use Rattle.raw_parts.proofs.integral.enters_integral.Given as goal

abbrev pub invariant-loop-step : goal.invariant-loop-step
invariant-loop-step l = record {
  enters : enters_integral (nodes_in (types_in l.value)) l.steps (node_in l.value) (Some (mapped_in l.value))
      ≡ enters_integral (nodes_in (types_in l.value)) (drop l.step-index l.steps) (node_in l.part)
      (Some (mapped_in l.part));
  types : types_in l.part ≡ types_in l.value;
}
