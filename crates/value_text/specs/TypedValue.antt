-- A value beside its type.
use Rattle.std.specs.Prelude.{ℕ, Bool, List, Option}
use Rattle.pickle_types.specs.declared.node.Node.{Node}
use Rattle.pickle_meaning.specs.Values.{Value, label_of}
use Rattle.value_store.specs.declared.value.ValueRef.{ValueRef}
use Rattle.value_store.specs.Refs.{value_shown}
use Rattle.value_text.specs.declared.typed.Types.{Types}
use Rattle.value_text.specs.declared.typed.Typed.{Typed}
use Rattle.value_text.specs.PartTypes.{part_node}
use Rattle.value_text.specs.CharTexts.{has_chars, with_texts}

abbrev pub nodes_in : Types → List Node
nodes_in types = types.nodes.now

abbrev pub char_node_in : Types → Option ℕ
char_node_in types = types.char_node

abbrev pub value_in : Typed → ValueRef
value_in typed = typed.value

abbrev pub types_in : Typed → Types
types_in typed = typed.types.now

abbrev pub node_in : Typed → Option ℕ
node_in typed = typed.node

-- the mapped value
abbrev pub mapped_in : Typed → Value
mapped_in typed = value_shown (value_in typed)

-- the node of the type of the part at a place
abbrev pub part_node_in : Typed → (place : ℕ) → Option ℕ
part_node_in typed place = part_node (nodes_in (types_in typed)) (node_in typed) (label_of (mapped_in typed)) place

-- whether the value is an array of chars
abbrev pub is_of_chars : Typed → Bool
is_of_chars typed = has_chars (char_node_in (types_in typed)) (part_node_in typed 0) (label_of (mapped_in typed))

-- the value with its arrays of chars as texts
abbrev pub typed_shown : Typed → Value
typed_shown typed =
    with_texts (nodes_in (types_in typed)) (char_node_in (types_in typed)) (node_in typed) (mapped_in typed)
