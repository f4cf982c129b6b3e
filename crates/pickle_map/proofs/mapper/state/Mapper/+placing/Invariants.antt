use Rattle.std.proofs.Common.{◌+◌, ◌*◌, ◌≤◌, drop}
use Rattle.pickle_types.specs.Table.{type_of, open_parts}
use Rattle.pickle_map.specs.Follows.{Partly}
use Rattle.pickle_map.specs.AtWork.{StaysLent}
use Rattle.pickle_map.specs.Framed.{WorkFrame, Works, LevelStays, under_way}
use Rattle.mapping_plans.specs.Mapping.{digits_plan}
use Rattle.value_store.specs.Slots.{levels}
use Rattle.pickle_map.proofs.Shapes.{parts_bound}
use Rattle.pickle_map.proofs.mapper.state.Mapper.+placing.Given as goal

abbrev pub decreases-place_number : goal.decreases-place_number
decreases-place_number g l = 5 * l.at + 4

abbrev pub decreases-place_integral : goal.decreases-place_integral
decreases-place_integral g l = 5 * parts_bound l.fields.now + 3

abbrev pub decreases-integral_body : goal.decreases-integral_body
decreases-integral_body g l = 5 * parts_bound l.fields.now + 2

abbrev pub decreases-place_fields : goal.decreases-place_fields
decreases-place_fields g l = 5 * parts_bound l.fields.now + 1

abbrev pub decreases-place_part : goal.decreases-place_part
decreases-place_part g l = 5 * l.part.now.node + 5

abbrev pub invariant-place_fields-loop-part : goal.invariant-place_fields-loop-part
invariant-place_fields-loop-part g l = record {
  lent : StaysLent l.initial.self l.self;
  frame : WorkFrame l.initial.self.meter.now l.self.meter.now l.initial.self.store.now l.self.store.now 0 under_way;
  left : l.left ≤ 64;
  level : LevelStays l.initial.self.nodes.now l.initial.self.store.now l.self.store.now;
  so_far : Works l.initial.self.meter.now l.self.meter.now l.initial.self.store.now l.self.store.now
      (digits_plan (open_parts (type_of l.initial.self.nodes.now) l.fields) l.digits l.width
      (levels l.initial.self.nodes.now l.initial.self.store.now) l.start)
      (Partly (digits_plan (open_parts (type_of l.initial.self.nodes.now) (drop l.part-index l.fields)) l.digits l.left
      (levels l.initial.self.nodes.now l.self.store.now) l.start));
}
