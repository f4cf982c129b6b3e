use Rattle.std.proofs.Common.{◌≡◌, ◌≤◌, ◌-◌, length}
use Rattle.std.specs.List.{All}
use Rattle.pickle_types.specs.TypeTable.{nodes_of}
use Rattle.first_numbers.specs.Held.{AreKnown, IsSoundLayout}
use Rattle.first_numbers.proofs.nodes.type_layout.Given as goal

abbrev pub invariant-loop-at : goal.invariant-loop-at
invariant-loop-at l = record {
  within : l.at ≤ l.id.node;
  counted : length l.known.items ≡ l.at;
  known : AreKnown (nodes_of l.table) l.known.items;
  sound : All IsSoundLayout l.known.items;
}

abbrev pub decreases-loop-at : goal.decreases-loop-at
decreases-loop-at l = l.id.node - l.at
