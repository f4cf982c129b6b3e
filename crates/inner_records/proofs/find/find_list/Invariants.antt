use Rattle.std.proofs.Common.{◌≡◌, ◌<◌, drop, length}
use Rattle.inner_records.specs.Find.{list_at}
use Rattle.inner_records.proofs.Lists.{onward}
use Rattle.pickle_types.specs.Table.{type_of}
use Rattle.poke_batch.specs.TypeRuns.{run_type}
use Rattle.inner_records.proofs.find.find_list.Given as goal

abbrev pub invariant-loop-step : goal.invariant-loop-step
invariant-loop-step l = record {
  inside : l.node < length l.nodes;
  found : list_at l.path.steps.items (run_type l.run)
      ≡ onward l.fields.items (drop l.step-index l.path.steps.items) (type_of l.nodes l.node);
}
