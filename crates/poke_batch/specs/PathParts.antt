-- The part of a value to which a path leads.
use Rattle.std.specs.Prelude.{ℕ, zero, suc, ◌+◌, Bool, true, false, List, [], ◌∷◌, Option, Some, None, if◌then◌else◌}
use Rattle.std.specs.Str.{bytes_eq}
use Rattle.pickle_meaning.specs.Values.{Naming, Label, IntegerLabel, OffsetLabel, TextLabel, ArrayLabel, StructLabel, UnionLabel, Value, label_of, members_of, member_at, member_count}
use Rattle.pickle_types.specs.declared.node.Node.{Node}
use Rattle.value_store.specs.Labels.{member_name}
use Rattle.value_text.specs.PartTypes.{part_node}
use Rattle.command_line.specs.declared.path.Path.{Path}
use Rattle.command_line.specs.declared.path.Step.{Step}
use Rattle.command_line.specs.declared.path.Step.TheVariants.{Field, Place, Element}

abbrev pub is_array : Label → Bool
is_array (IntegerLabel number type) = false
is_array (OffsetLabel magnitude type unit) = false
is_array (TextLabel bytes) = false
is_array ArrayLabel = true
is_array (StructLabel name fields) = false
is_array (UnionLabel name index alternative) = false

abbrev pub is_named : (name : List ℕ) → Naming → Bool
is_named name None = false
is_named name (Some its) = bytes_eq its name

abbrev pub is_nameless : Naming → Bool
is_nameless None = true
is_nameless (Some its) = false

-- whether the member at a place of a value is a field or an alternative, and has no name
abbrev pub is_nameless_at : Value → (place : ℕ) → Bool
is_nameless_at value place =
    if is_array (label_of value) then false else is_nameless (member_name (label_of value) place)

-- the first of so many places, from one on, whose member has this name
abbrev pub place_named : (name : List ℕ) → Label → (count place : ℕ) → Option ℕ
place_named name label zero place = None
place_named name label (suc count) place =
    if is_named name (member_name label place) then Some place else place_named name label count (place + 1)

abbrev pub member_if : Bool → Option Value → Option Value
member_if true found = found
member_if false found = None

abbrev pub member_there : Value → Option ℕ → Option Value
member_there value None = None
member_there value (Some place) = member_at (members_of value) place

-- the part to which a step leads: a field or alternative by its name, a nameless one by its place, an element by its
-- place
abbrev pub step_to : Step → Value → Option Value
step_to (Field name) value =
    member_there value (place_named name.items (label_of value) (member_count (members_of value)) 0)
step_to (Place place) value = member_if (is_nameless_at value place) (member_at (members_of value) place)
step_to (Element place) value = member_if (is_array (label_of value)) (member_at (members_of value) place)

abbrev pub step_from : Step → Option Value → Option Value
step_from step None = None
step_from step (Some value) = step_to step value

-- the part to which steps lead, one after the other
abbrev pub part_from : List Step → Option Value → Option Value
part_from [] found = found
part_from (step ∷ steps) found = part_from steps (step_from step found)

abbrev pub part_of : List Step → Value → Option Value
part_of steps value = part_from steps (Some value)

-- the part that is requested; without a path, the value itself
abbrev pub part_at : Option Path → Value → Option Value
part_at None value = Some value
part_at (Some path) value = part_of path.steps.items value

abbrev pub place_if : Bool → (place : ℕ) → Option ℕ
place_if true place = Some place
place_if false place = None

-- the place of the member to which a step leads
abbrev pub place_of : Step → Value → Option ℕ
place_of (Field name) value = place_named name.items (label_of value) (member_count (members_of value)) 0
place_of (Place place) value = place_if (is_nameless_at value place) place
place_of (Element place) value = place_if (is_array (label_of value)) place

-- the node of the type of the member at a place of a value whose type has this node
abbrev pub node_there : List Node → (of : Option ℕ) → Value → (place : Option ℕ) → Option ℕ
node_there nodes of value None = None
node_there nodes of value (Some place) = part_node nodes of (label_of value) place

-- the node of the type of the part to which steps lead
abbrev pub node_from : List Node → List Step → (of : Option ℕ) → Option Value → Option ℕ
node_from nodes [] of found = of
node_from nodes (step ∷ steps) of None = None
node_from nodes (step ∷ steps) of (Some value) =
    node_from nodes steps (node_there nodes of value (place_of step value)) (step_to step value)

-- the node of the type of the part that is requested
abbrev pub node_at : List Node → Option Path → (of : Option ℕ) → Value → Option ℕ
node_at nodes None of value = of
node_at nodes (Some path) of value = node_from nodes path.steps.items of (Some value)
