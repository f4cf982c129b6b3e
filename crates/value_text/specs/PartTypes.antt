-- The nodes of the types of a value's parts, by the nodes of a table.
use Rattle.std.specs.Prelude.{ℕ, List, Option, Some, None, unwrap_or}
use Rattle.pickle_types.specs.declared.node.Node.{Node}
use Rattle.pickle_types.specs.NodeParts.{node_part}
use Rattle.pickle_meaning.specs.Values.{Label}
use Rattle.value_store.specs.Labels.{taken_of}

-- the number in its type of the part at a place of a value: for a union that of the alternative that matched
abbrev pub part_number : Label → (place : ℕ) → ℕ
part_number label place = unwrap_or (taken_of label) place

-- the node of the type of the part at a place of a value whose type has this node; none if nothing is known
abbrev pub part_node : List Node → (node : Option ℕ) → Label → (place : ℕ) → Option ℕ
part_node nodes None label place = None
part_node nodes (Some of) label place = node_part nodes of (part_number label place)
