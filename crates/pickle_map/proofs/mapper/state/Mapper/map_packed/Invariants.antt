use Rattle.std.proofs.Common.{◌≡◌, ℕ, ◌+◌, ◌-◌, ◌*◌, ◌≤◌, ◌<◌, max, List, length}
use Rattle.pickle_types.specs.Bounds.{least_width}
use Rattle.pickle_types.specs.Table.{type_of}
use Rattle.pickle_map.specs.Calls.{as_elements}
use Rattle.pickle_map.specs.Framed.{Frame, Runs, LevelStays, under_way}
use Rattle.pickle_map.specs.Follows.{Partly}
use Rattle.pickle_meaning.specs.Values.{outer_of}
use Rattle.mapping_plans.specs.Mapping.{plan, element_plan, elements_plan}
use Rattle.pickle_map.specs.Row.{row_levels}
use Rattle.value_store.specs.Slots.{levels, element_width, IsPacking}
use Rattle.pickle_map.proofs.mapper.state.Mapper.map_packed.Given as goal

abbrev pub decreases-loop-meter : goal.decreases-loop-meter
decreases-loop-meter g l = 8 * (g.S.Space.view l.initial.space).len - l.place

abbrev pub invariant-loop-meter : goal.invariant-loop-meter
invariant-loop-meter g l = record {
  frame : Frame (g.S.Space.view l.initial.space) (g.S.Space.view l.space) l.initial.meter l.meter l.initial.store
      l.store 0 under_way;
  after : l.start.bit ≤ l.place;
  inside : l.place ≤ 8 * (g.S.Space.view l.initial.space).len;
  level : LevelStays l.fn.self.nodes.now l.initial.store l.store;
  counted : l.count + l.start.bit ≤ l.place;
  so_far : (numbers : List ℕ) × (n : ℕ) × (8 * (g.S.Space.view l.initial.space).len
      < l.place + n * max 1 (least_width (type_of l.fn.self.nodes.now l.element))) ×
      (l.place ≡ l.start.bit + element_width l.shape * length numbers) × (l.count ≡ length numbers)
      × IsPacking l.fn.self.nodes.now l.store l.shape numbers l.start.bit
      (outer_of (levels l.fn.self.nodes.now l.initial.store)) ×
      Runs (g.S.Space.view l.initial.space) l.initial.meter l.meter l.initial.store l.store
      (as_elements l.element l.extent l.start.order l.start.bit l.fn.self.nodes.now
      (8 * (g.S.Space.view l.initial.space).len)
      (levels l.fn.self.nodes.now l.initial.store))
      (Partly (elements_plan (element_plan (type_of l.fn.self.nodes.now l.element)
      (plan (8 * (g.S.Space.view l.initial.space).len) (type_of l.fn.self.nodes.now l.element) l.start.order))
      (8 * (g.S.Space.view l.initial.space).len) l.start.bit l.extent n l.count
      (row_levels l.shape numbers l.start.bit (outer_of (levels l.fn.self.nodes.now l.initial.store))) l.place));
}
