use Rattle.std.proofs.Common.{◌≡◌, ℕ, ◌+◌, ◌-◌, ◌*◌, ◌≤◌, ◌<◌, ◌∷◌, List, Option, max, drop}
use Rattle.pickle_types.specs.Bounds.{least_width}
use Rattle.pickle_types.specs.Table.{type_of, open_fields, open_parts}
use Rattle.pickle_map.specs.Calls.{as_fields, as_alternatives, as_elements}
use Rattle.pickle_map.specs.Follows.{Partly}
use Rattle.pickle_map.specs.AtWork.{StaysLent}
use Rattle.pickle_map.specs.Framed.{Frame, Runs, LevelStays, under_way}
use Rattle.pickle_map.specs.LaidArrays.{HasValues}
use Rattle.pickle_meaning.specs.Values.{Value, outer_of}
use Rattle.mapping_plans.specs.Mapping.{plan, fields_plan, element_plan, elements_plan, alternatives_plan}
use Rattle.value_store.specs.Slots.{levels}
use Rattle.pickle_map.proofs.Shapes.{fields_bound, parts_bound}
use Rattle.pickle_map.proofs.mapper.state.Mapper.+mapping.Given as goal

-- a type calls no other but for the nodes before its own
abbrev pub decreases-map_type : goal.decreases-map_type
decreases-map_type g l = 8 * l.at + 6

abbrev pub decreases-map_inside : goal.decreases-map_inside
decreases-map_inside g l = 8 * l.at + 5

abbrev pub decreases-map_shape : goal.decreases-map_shape
decreases-map_shape g l = 8 * l.at + 4

abbrev pub decreases-map_checked : goal.decreases-map_checked
decreases-map_checked g l = 8 * l.node + 7

abbrev pub decreases-map_array : goal.decreases-map_array
decreases-map_array g l = 8 * l.element + 10

abbrev pub decreases-array_body : goal.decreases-array_body
decreases-array_body g l = 8 * l.element + 9

abbrev pub decreases-elements_body : goal.decreases-elements_body
decreases-elements_body g l = 8 * l.element + 8

abbrev pub decreases-map_elements : goal.decreases-map_elements
decreases-map_elements g l = 8 * l.element + 7

abbrev pub decreases-values_body : goal.decreases-values_body
decreases-values_body g l = 8 * l.element + 8

abbrev pub decreases-map_values : goal.decreases-map_values
decreases-map_values g l = 8 * l.element + 7

abbrev pub decreases-map_value : goal.decreases-map_value
decreases-map_value g l = 8 * l.at + 6

abbrev pub decreases-map_struct : goal.decreases-map_struct
decreases-map_struct g l = 8 * fields_bound l.fields.now + 2

abbrev pub decreases-struct_body : goal.decreases-struct_body
decreases-struct_body g l = 8 * fields_bound l.fields.now + 1

abbrev pub decreases-map_fields : goal.decreases-map_fields
decreases-map_fields g l = 8 * fields_bound l.fields.now

abbrev pub decreases-map_union : goal.decreases-map_union
decreases-map_union g l = 8 * parts_bound l.alternatives.now + 2

abbrev pub decreases-union_body : goal.decreases-union_body
decreases-union_body g l = 8 * parts_bound l.alternatives.now + 1

abbrev pub decreases-map_alternatives : goal.decreases-map_alternatives
decreases-map_alternatives g l = 8 * parts_bound l.alternatives.now

abbrev pub invariant-map_fields-loop-field : goal.invariant-map_fields-loop-field
invariant-map_fields-loop-field g l = record {
  lent : StaysLent l.initial.self l.self;
  frame : Frame (g.S.Space.view l.initial.space) (g.S.Space.view l.space) l.initial.self.meter.now l.self.meter.now
      l.initial.self.store.now l.self.store.now 0 under_way;
  after : l.start.bit ≤ l.top;
  inside : l.top ≤ 8 * (g.S.Space.view l.initial.space).len;
  level : LevelStays l.initial.self.nodes.now l.initial.self.store.now l.self.store.now;
  so_far : Runs (g.S.Space.view l.initial.space) l.initial.self.meter.now l.self.meter.now
      l.initial.self.store.now l.self.store.now
      (as_fields l.pinned l.fields l.start.order l.start.bit l.initial.self.nodes.now
      (8 * (g.S.Space.view l.initial.space).len)
      (levels l.initial.self.nodes.now l.initial.self.store.now))
      (Partly (fields_plan (8 * (g.S.Space.view l.initial.space).len) l.pinned l.start.bit
      (open_fields (type_of l.initial.self.nodes.now) (drop l.field-index l.fields)) l.start.order
      (levels l.initial.self.nodes.now l.self.store.now) l.last_end l.top));
}

abbrev pub invariant-map_alternatives-loop-index : goal.invariant-map_alternatives-loop-index
invariant-map_alternatives-loop-index g l = record {
  lent : StaysLent l.initial.self l.self;
  frame : Frame (g.S.Space.view l.initial.space) (g.S.Space.view l.space) l.initial.self.meter.now l.self.meter.now
      l.initial.self.store.now l.self.store.now 0 under_way;
  same : levels l.initial.self.nodes.now l.self.store.now ≡ levels l.initial.self.nodes.now l.initial.self.store.now;
  level : LevelStays l.initial.self.nodes.now l.initial.self.store.now l.self.store.now;
  so_far : Runs (g.S.Space.view l.initial.space) l.initial.self.meter.now l.self.meter.now
      l.initial.self.store.now l.self.store.now
      (as_alternatives l.alternatives l.start.order l.start.bit l.initial.self.nodes.now
      (8 * (g.S.Space.view l.initial.space).len) (levels l.initial.self.nodes.now l.initial.self.store.now))
      (Partly (alternatives_plan (8 * (g.S.Space.view l.initial.space).len)
      (open_parts (type_of l.initial.self.nodes.now) (drop l.index l.alternatives)) l.index l.start.order
      (levels l.initial.self.nodes.now l.initial.self.store.now) l.start.bit));
}

abbrev pub decreases-map_elements-loop-self : goal.decreases-map_elements-loop-self
decreases-map_elements-loop-self g l = 8 * (g.S.Space.view l.initial.space).len - l.place

abbrev pub invariant-map_elements-loop-self : goal.invariant-map_elements-loop-self
invariant-map_elements-loop-self g l = record {
  lent : StaysLent l.initial.self l.self;
  frame : Frame (g.S.Space.view l.initial.space) (g.S.Space.view l.space) l.initial.self.meter.now l.self.meter.now
      l.initial.self.store.now l.self.store.now 0 under_way;
  after : l.start.bit ≤ l.place;
  inside : l.place ≤ 8 * (g.S.Space.view l.initial.space).len;
  level : LevelStays l.initial.self.nodes.now l.initial.self.store.now l.self.store.now;
  counted : l.count + l.start.bit ≤ l.place;
  so_far : (n : ℕ) × (8 * (g.S.Space.view l.initial.space).len
      < l.place + n * max 1 (least_width (type_of l.initial.self.nodes.now l.element))) ×
      Runs (g.S.Space.view l.initial.space) l.initial.self.meter.now l.self.meter.now
      l.initial.self.store.now l.self.store.now
      (as_elements l.element l.extent l.start.order l.start.bit l.initial.self.nodes.now
      (8 * (g.S.Space.view l.initial.space).len) (levels l.initial.self.nodes.now l.initial.self.store.now))
      (Partly (elements_plan (element_plan (type_of l.initial.self.nodes.now l.element)
      (plan (8 * (g.S.Space.view l.initial.space).len) (type_of l.initial.self.nodes.now l.element) l.start.order))
      (8 * (g.S.Space.view l.initial.space).len) l.start.bit l.extent n l.count
      (levels l.initial.self.nodes.now l.self.store.now) l.place));
}

abbrev pub decreases-map_values-loop-self : goal.decreases-map_values-loop-self
decreases-map_values-loop-self g l = 8 * (g.S.Space.view l.initial.space).len - l.place

abbrev pub invariant-map_values-loop-self : goal.invariant-map_values-loop-self
invariant-map_values-loop-self g l = record {
  lent : StaysLent l.initial.self l.self;
  frame : Frame (g.S.Space.view l.initial.space) (g.S.Space.view l.space) l.initial.self.meter.now l.self.meter.now
      l.initial.self.store.now l.self.store.now 0 under_way;
  after : l.start.bit ≤ l.place;
  inside : l.place ≤ 8 * (g.S.Space.view l.initial.space).len;
  level : LevelStays l.initial.self.nodes.now l.initial.self.store.now l.self.store.now;
  counted : l.count + l.start.bit ≤ l.place;
  first : (l.count ≡ 0 → l.place ≡ l.start.bit) × (l.place ≡ l.start.bit → l.count ≡ 0);
  so_far : (values : List (Option Value)) × (n : ℕ) × (8 * (g.S.Space.view l.initial.space).len
      < l.place + n * max 1 (least_width (type_of l.initial.self.nodes.now l.element))) ×
      HasValues l.initial.self.nodes.now l.self.store.now (type_of l.initial.self.nodes.now l.element) l.start.bit
      (outer_of (levels l.initial.self.nodes.now l.initial.self.store.now)) l.place values ×
      Runs (g.S.Space.view l.initial.space) l.initial.self.meter.now l.self.meter.now
      l.initial.self.store.now l.self.store.now
      (as_elements l.element l.extent l.start.order l.start.bit l.initial.self.nodes.now
      (8 * (g.S.Space.view l.initial.space).len) (levels l.initial.self.nodes.now l.initial.self.store.now))
      (Partly (elements_plan (element_plan (type_of l.initial.self.nodes.now l.element)
      (plan (8 * (g.S.Space.view l.initial.space).len) (type_of l.initial.self.nodes.now l.element) l.start.order))
      (8 * (g.S.Space.view l.initial.space).len) l.start.bit l.extent n l.count
      (values ∷ outer_of (levels l.initial.self.nodes.now l.initial.self.store.now)) l.place));
}
