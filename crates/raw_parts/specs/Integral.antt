-- Parts inside integral structs.
use Rattle.std.specs.Prelude.{ℕ, Bool, true, false, ◌||◌, List, [], ◌∷◌, Option, Some, None, slice_get}
use Rattle.command_line.specs.declared.path.Path.{Path}
use Rattle.command_line.specs.declared.path.Step.{Step}
use Rattle.pickle_meaning.specs.Values.{Value}
use Rattle.pickle_types.specs.declared.node.Node.{Node}
use Rattle.pickle_types.specs.declared.node.Shape.{Shape}
use Rattle.pickle_types.specs.declared.node.Shape.TheVariants as shape
use Rattle.poke_batch.specs.PathParts.{node_there, place_of, step_to}

abbrev pub is_integral_shape : Shape → Bool
is_integral_shape (shape.Integer type) = false
is_integral_shape (shape.Offset type unit) = false
is_integral_shape shape.String = false
is_integral_shape (shape.Array element bound) = false
is_integral_shape (shape.Struct name pinned fields) = false
is_integral_shape (shape.Integral name type fields) = true
is_integral_shape (shape.Union name alternatives) = false

abbrev pub is_integral_node : Option Node → Bool
is_integral_node None = false
is_integral_node (Some node) = is_integral_shape node.shape

-- whether a value whose type has this node is an integral struct
abbrev pub is_integral : List Node → (of : Option ℕ) → Bool
is_integral nodes None = false
is_integral nodes (Some of) = is_integral_node (slice_get nodes of)

-- whether steps from a value whose type has this node lead into an integral struct
abbrev pub enters_integral : List Node → List Step → (of : Option ℕ) → Option Value → Bool
enters_integral nodes [] of found = false
enters_integral nodes (step ∷ steps) of None = false
enters_integral nodes (step ∷ steps) of (Some value) =
    is_integral nodes of
    || enters_integral nodes steps (node_there nodes of value (place_of step value)) (step_to step value)

-- whether the requested part of such a value is inside an integral struct
abbrev pub is_inside_integral : List Node → Option Path → (of : Option ℕ) → Value → Bool
is_inside_integral nodes None of value = false
is_inside_integral nodes (Some path) of value = enters_integral nodes path.steps.items of (Some value)
