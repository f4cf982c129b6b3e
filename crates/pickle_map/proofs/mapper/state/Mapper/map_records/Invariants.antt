use Rattle.std.proofs.Common.{◌≡◌, ℕ, ◌+◌, ◌-◌, ◌*◌, ◌≤◌, ◌<◌, ◌∷◌, max, List, length}
use Rattle.pickle_types.specs.Bounds.{least_width}
use Rattle.pickle_types.specs.Table.{type_of}
use Rattle.pickle_map.specs.AtWork.{StaysLent}
use Rattle.pickle_map.specs.Calls.{as_elements}
use Rattle.pickle_map.specs.Columns.{shapes_of}
use Rattle.pickle_map.specs.Framed.{Frame, Runs, LevelStays, under_way}
use Rattle.pickle_map.specs.Follows.{Partly}
use Rattle.pickle_map.specs.Records.{HasStructs}
use Rattle.pickle_meaning.specs.Values.{outer_of}
use Rattle.mapping_plans.specs.Mapping.{plan, element_plan, elements_plan}
use Rattle.value_store.specs.PackedStructs.{struct_bits, structs_of}
use Rattle.value_store.specs.Slots.{levels}
use Rattle.pickle_map.proofs.mapper.state.Mapper.map_records.Given as goal

abbrev pub decreases-loop-row : goal.decreases-loop-row
decreases-loop-row g l = 8 * (g.S.Space.view l.initial.space).len - l.place

abbrev pub invariant-loop-row : goal.invariant-loop-row
invariant-loop-row g l = record {
  lent : StaysLent l.fn.self l.self;
  frame : Frame (g.S.Space.view l.fn.space) (g.S.Space.view l.space) l.fn.self.meter.now l.self.meter.now
      l.fn.self.store.now l.self.store.now 0 under_way;
  after : l.start.bit ≤ l.place;
  inside : l.place ≤ 8 * (g.S.Space.view l.fn.space).len;
  level : LevelStays l.fn.self.nodes.now l.fn.self.store.now l.self.store.now;
  counted : l.count + l.start.bit ≤ l.place;
  so_far : (rows : List (List ℕ)) × (n : ℕ) × (8 * (g.S.Space.view l.fn.space).len
      < l.place + n * max 1 (least_width (type_of l.fn.self.nodes.now l.element))) ×
      (l.place ≡ l.start.bit + struct_bits (shapes_of (type_of l.fn.self.nodes.now) l.fields) * length rows) ×
      HasStructs l.fn.self.nodes.now l.self.store.now l.element (shapes_of (type_of l.fn.self.nodes.now) l.fields)
      l.start.bit (outer_of (levels l.fn.self.nodes.now l.fn.self.store.now)) rows ×
      Runs (g.S.Space.view l.fn.space) l.fn.self.meter.now l.self.meter.now l.fn.self.store.now l.self.store.now
      (as_elements l.element l.extent l.start.order l.start.bit l.fn.self.nodes.now
      (8 * (g.S.Space.view l.fn.space).len)
      (levels l.fn.self.nodes.now l.fn.self.store.now))
      (Partly (elements_plan (element_plan (type_of l.fn.self.nodes.now l.element)
      (plan (8 * (g.S.Space.view l.fn.space).len) (type_of l.fn.self.nodes.now l.element) l.start.order))
      (8 * (g.S.Space.view l.fn.space).len) l.start.bit l.extent n l.count
      (structs_of l.fn.self.nodes.now l.element (shapes_of (type_of l.fn.self.nodes.now) l.fields) l.start.bit rows
      ∷ outer_of (levels l.fn.self.nodes.now l.fn.self.store.now)) l.place));
}
