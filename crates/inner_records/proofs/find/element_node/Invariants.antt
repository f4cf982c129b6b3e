use Rattle.std.proofs.Common.{◌≡◌, ◌<◌, true, drop, length}
use Rattle.pickle_types.specs.Table.{type_of}
use Rattle.inner_records.specs.Find.{element_type}
use Rattle.list_laws.specs.Paths.{is_list}
use Rattle.inner_records.proofs.find.element_node.Given as goal

abbrev pub invariant-loop-place : goal.invariant-loop-place
invariant-loop-place l = record {
  inside : l.at < length l.nodes;
  list : is_list (type_of l.nodes l.at) (drop l.place-index l.path) ≡ true;
  type : element_type (type_of l.nodes l.node) l.path
      ≡ element_type (type_of l.nodes l.at) (drop l.place-index l.path);
}
