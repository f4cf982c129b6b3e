use Rattle.std.proofs.Common.{◌≡◌, ◌+◌, ◌*◌, drop}
use Rattle.pickle_types.specs.Table.{type_of, open_fields, open_parts}
use Rattle.mapping_plans.specs.Rows.{fields_weight, parts_weight}
use Rattle.pickle_map.specs.Layouts.{left_of}
use Rattle.pickle_map.proofs.Shapes.{fields_bound, parts_bound}
use Rattle.pickle_map.proofs.mapper.weights.+weights.Given as goal

-- a type calls no other but for the nodes before its own
abbrev pub decreases-left_in : goal.decreases-left_in
decreases-left_in l = 2 * l.at + 1

abbrev pub decreases-left_in_fields : goal.decreases-left_in_fields
decreases-left_in_fields l = 2 * fields_bound l.fields.now

abbrev pub decreases-left_in_parts : goal.decreases-left_in_parts
decreases-left_in_parts l = 2 * parts_bound l.parts.now

abbrev pub invariant-left_in_fields-loop-field : goal.invariant-left_in_fields-loop-field
invariant-left_in_fields-loop-field l =
    left_of (fields_weight (open_fields (type_of l.nodes) l.fields)) l.left
    ≡ left_of (fields_weight (open_fields (type_of l.nodes) (drop l.field-index l.fields))) l.rest

abbrev pub invariant-left_in_parts-loop-part : goal.invariant-left_in_parts-loop-part
invariant-left_in_parts-loop-part l =
    left_of (parts_weight (open_parts (type_of l.nodes) l.parts)) l.left
    ≡ left_of (parts_weight (open_parts (type_of l.nodes) (drop l.part-index l.parts))) l.rest
