use Rattle.std.proofs.Common.{◌≡◌, ◌≤◌, ◌-◌, List, length, drop}
use Rattle.pickle_types.specs.declared.node.Node.{Node}
use Rattle.pickle_types.specs.Table.{type_of, open_parts}
use Rattle.first_numbers.specs.Held.{AreKnown, HoldsFirst, IsSoundFirst}
use Rattle.first_numbers.specs.Layouts.{First, alternatives_layout, none_tried}
use Rattle.first_numbers.proofs.nodes.alternatives_layout.Given as goal

abbrev pub invariant-loop-at : goal.invariant-loop-at
invariant-loop-at l = record {
  within : l.at ≤ length l.parts;
  sound : IsSoundFirst l.all;
  so_far : (nodes : List Node) → AreKnown nodes l.known → (first : First) × HoldsFirst l.all first
      × (alternatives_layout (open_parts (type_of nodes) l.parts) none_tried
      ≡ alternatives_layout (open_parts (type_of nodes) (drop l.at l.parts)) first);
}

abbrev pub decreases-loop-at : goal.decreases-loop-at
decreases-loop-at l = length l.parts - l.at
