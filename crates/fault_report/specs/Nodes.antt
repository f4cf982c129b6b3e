-- What the node at a place of a table is: an array, what begins with one number, what goes on after a part that stops.
use Rattle.std.specs.Prelude.{ℕ, Bool, true, false, List, Option, Some, None, slice_get}
use Rattle.pickle_types.specs.declared.node.Node.{Node}
use Rattle.pickle_types.specs.declared.node.Shape.{Shape}
use Rattle.pickle_types.specs.declared.node.Shape.TheVariants as shape
use Rattle.pickle_types.specs.declared.node.Extent.{Extent as Bound}
use Rattle.pickle_types.specs.declared.node.Extent.TheVariants as bound
use Rattle.pickle_meaning.specs.declared.extent.Extent.TheVariants.{Open}
use Rattle.pickle_map.specs.declared.mapper.stop.Stop.{Stop}
use Rattle.pickle_map.specs.Stops.{stop_ends, stop_misses}

-- whether a node has a shape of this kind
abbrev pub has_shape : (Shape → Bool) → Option Node → Bool
has_shape test None = false
has_shape test (Some node) = test node.shape

abbrev pub is_array_shape : Shape → Bool
is_array_shape (shape.Integer type) = false
is_array_shape (shape.Offset type unit) = false
is_array_shape shape.String = false
is_array_shape (shape.Array element bound) = true
is_array_shape (shape.Struct name pinned fields) = false
is_array_shape (shape.Integral name type fields) = false
is_array_shape (shape.Union name alternatives) = false

abbrev pub is_array : List Node → (at : ℕ) → Bool
is_array nodes at = has_shape is_array_shape (slice_get nodes at)

-- all parts begin with the same number: those of a union, and of an integral struct
abbrev pub is_one_place_shape : Shape → Bool
is_one_place_shape (shape.Integer type) = false
is_one_place_shape (shape.Offset type unit) = false
is_one_place_shape shape.String = false
is_one_place_shape (shape.Array element bound) = false
is_one_place_shape (shape.Struct name pinned fields) = false
is_one_place_shape (shape.Integral name type fields) = true
is_one_place_shape (shape.Union name alternatives) = true

abbrev pub is_one_place : List Node → (at : ℕ) → Bool
is_one_place nodes at = has_shape is_one_place_shape (slice_get nodes at)

-- a part that stops in this way only means that an array without a bound ends, or that an alternative doesn't match
abbrev pub ends_open : Stop → Bound → Bool
ends_open stop bound.Unbounded = stop_ends Open stop
ends_open stop (bound.Count count) = false
ends_open stop (bound.Size size) = false

abbrev pub catches_shape : Stop → Shape → Bool
catches_shape stop (shape.Integer type) = false
catches_shape stop (shape.Offset type unit) = false
catches_shape stop shape.String = false
catches_shape stop (shape.Array element bound) = ends_open stop bound
catches_shape stop (shape.Struct name pinned fields) = false
catches_shape stop (shape.Integral name type fields) = false
catches_shape stop (shape.Union name alternatives) = stop_misses stop

abbrev pub catches : List Node → (at : ℕ) → Stop → Bool
catches nodes at stop = has_shape (catches_shape stop) (slice_get nodes at)
