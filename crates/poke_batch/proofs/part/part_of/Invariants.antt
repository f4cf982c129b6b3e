use Rattle.std.proofs.Common.{◌≡◌, Some, drop}
use Rattle.value_text.specs.TypedValue.{nodes_in, types_in, node_in, mapped_in}
use Rattle.poke_batch.specs.PathParts.{part_of, node_from}
use Rattle.poke_batch.specs.PathNodes.{node_after}
use Rattle.poke_batch.proofs.part.part_of.Given as goal

abbrev pub invariant-loop-step : goal.invariant-loop-step
invariant-loop-step l = record {
  value : part_of l.steps (mapped_in l.value) ≡ part_of (drop l.step-index l.steps) (mapped_in l.part);
  types : types_in l.part ≡ types_in l.value;
  node : node_after l.steps l.value
      ≡ node_from (nodes_in (types_in l.value)) (drop l.step-index l.steps) (node_in l.part) (Some (mapped_in l.part));
}
