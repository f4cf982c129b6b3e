use Rattle.std.proofs.Common.{◌+◌, ◌*◌, ◌≤◌, drop, take, false}
use Rattle.pickle_types.specs.Table.{type_of, open_fields}
use Rattle.mapping_plans.specs.Avoids.{AreColumns}
use Rattle.mapping_plans.specs.Mapping.{fields_plan}
use Rattle.pickle_map.specs.AtWork.{StaysLent}
use Rattle.pickle_map.specs.Calls.{as_fields}
use Rattle.arrayvec.specs.ArrayVec.{array_vec_len}
use Rattle.value_store.specs.PackedStructs.{struct_bytes}
use Rattle.pickle_map.specs.Columns.{PlacesMore, AddsColumns, shapes_of}
use Rattle.pickle_map.specs.Follows.{Partly}
use Rattle.pickle_map.specs.Framed.{Frame, LevelStays, Runs, under_way}
use Rattle.value_store.specs.Slots.{levels}
use Rattle.pickle_map.proofs.mapper.state.Mapper.map_columns.Given as goal

abbrev pub invariant-loop-field : goal.invariant-loop-field
invariant-loop-field g l = record {
  lent : StaysLent l.fn.self l.self;
  frame : Frame (g.S.Space.view l.fn.space) (g.S.Space.view l.space) l.fn.self.meter.now l.self.meter.now
      l.fn.self.store.now l.self.store.now 0 under_way;
  after : l.start.bit ≤ l.place;
  inside : l.place ≤ 8 * (g.S.Space.view l.fn.space).len;
  level : LevelStays l.fn.self.nodes.now l.fn.self.store.now l.self.store.now;
  columns : AreColumns (open_fields (type_of l.fn.self.nodes.now) (drop l.field-index l.fields));
  more : PlacesMore l.fn.self.store.now l.self.store.now;
  adds : AddsColumns l.fn.self.store.now l.self.store.now
      (shapes_of (type_of l.fn.self.nodes.now) (take l.field-index l.fields)) l.start.bit l.place
      l.fn.row.items l.row.items;
  room : array_vec_len l.row + struct_bytes (shapes_of (type_of l.fn.self.nodes.now) (drop l.field-index l.fields))
      ≤ 512;
  so_far : Runs (g.S.Space.view l.fn.space) l.fn.self.meter.now l.self.meter.now l.fn.self.store.now l.self.store.now
      (as_fields false l.fields l.start.order l.start.bit l.fn.self.nodes.now (8 * (g.S.Space.view l.fn.space).len)
      (levels l.fn.self.nodes.now l.fn.self.store.now))
      (Partly (fields_plan (8 * (g.S.Space.view l.fn.space).len) false l.start.bit
      (open_fields (type_of l.fn.self.nodes.now) (drop l.field-index l.fields)) l.start.order
      (levels l.fn.self.nodes.now l.self.store.now) l.place l.place));
}
