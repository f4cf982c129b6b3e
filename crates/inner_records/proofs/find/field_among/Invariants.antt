use Rattle.std.proofs.Common.{◌≡◌, drop, List}
use Rattle.inner_records.specs.Find.{field_step}
use Rattle.pickle_types.specs.Table.{open_fields, type_of}
use Rattle.pickle_types.specs.declared.node.Node.{Node as TableNode}
use Rattle.inner_records.proofs.find.field_among.Given as goal

abbrev pub invariant-loop-place : goal.invariant-loop-place
invariant-loop-place l = record {
  is : (nodes : List TableNode) → field_step l.step (open_fields (type_of nodes) l.fields) 0
      ≡ field_step l.step (open_fields (type_of nodes) (drop l.place l.fields)) l.place;
}
