use Rattle.std.proofs.Common.{◌≡◌, ◌+◌, ◌≤◌, drop, take}
use Rattle.pickle_types.specs.Table.{type_of, open_fields}
use Rattle.mapping_plans.specs.Avoids.{AreColumns}
use Rattle.pickle_map.specs.Columns.{after_columns, shapes_of}
use Rattle.pickle_map.specs.Framed.{LevelStays}
use Rattle.pickle_map.specs.Records.{Drafts}
use Rattle.value_store.specs.Moves.{state_of}
use Rattle.value_store.specs.PackedStructs.{struct_bits, struct_bytes}
use Rattle.value_store.specs.Slots.{HoldsInRoom, KeepsRoom}
use Rattle.pickle_map.proofs.mapper.packed_structs.draft_columns.Given as goal

abbrev pub invariant-loop-field : goal.invariant-loop-field
invariant-loop-field l = record {
  columns : AreColumns (open_fields (type_of l.nodes) (drop l.field-index l.fields));
  place : l.place ≡ l.start + struct_bits (shapes_of (type_of l.nodes) (take l.field-index l.fields));
  at : l.at ≡ struct_bytes (shapes_of (type_of l.nodes) (take l.field-index l.fields));
  few : l.at + struct_bytes (shapes_of (type_of l.nodes) (drop l.field-index l.fields)) ≤ 512;
  draft : Drafts l.nodes l.fn.store l.store (shapes_of (type_of l.nodes) (take l.field-index l.fields)) l.start;
  within : HoldsInRoom l.store;
  state : state_of l.store ≡ after_columns l.field-index (state_of l.fn.store);
  room : KeepsRoom l.fn.store l.store;
  stays : LevelStays l.nodes l.fn.store l.store;
}
