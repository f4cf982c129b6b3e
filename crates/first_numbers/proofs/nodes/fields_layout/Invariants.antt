use Rattle.std.proofs.Common.{◌≡◌, ◌≤◌, ◌-◌, List, length, drop}
use Rattle.pickle_types.specs.declared.node.Node.{Node}
use Rattle.pickle_types.specs.Table.{type_of, open_fields}
use Rattle.first_numbers.specs.Held.{AreKnown}
use Rattle.first_numbers.specs.Layouts.{fields_layout, none_passed}
use Rattle.first_numbers.proofs.nodes.fields_layout.Given as goal

abbrev pub invariant-loop-at : goal.invariant-loop-at
invariant-loop-at l = record {
  within : l.at ≤ length l.fields;
  counted : l.b.count ≡ l.at;
  so_far : (nodes : List Node) → AreKnown nodes l.known →
      fields_layout l.pinned (open_fields (type_of nodes) l.fields) none_passed
      ≡ fields_layout l.pinned (open_fields (type_of nodes) (drop l.at l.fields)) l.b;
}

abbrev pub decreases-loop-at : goal.decreases-loop-at
decreases-loop-at l = length l.fields - l.at
