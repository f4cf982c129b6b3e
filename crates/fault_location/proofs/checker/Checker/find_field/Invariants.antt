use Rattle.std.proofs.Common.{◌≡◌, ◌+◌, ◌≤◌, drop}
use Rattle.pickle_types.specs.Table.{type_of, open_fields}
use Rattle.fault_location.specs.AtWork.{Frame}
use Rattle.value_store.specs.Slots.{level_count}
use Rattle.fault_parts.specs.Arises.{FieldsBefore}
use Rattle.fault_location.specs.Searched.{fields_search}
use Rattle.fault_location.specs.Ways.{OnBits}
use Rattle.fault_location.specs.Frames.{frames_after, frames_of}
use Rattle.fault_location.proofs.checker.Checker.find_field.Given as goal

abbrev pub invariant-loop-place : goal.invariant-loop-place
invariant-loop-place g l = record {
  frame : Frame (g.S.Space.view l.initial.space) (g.S.Space.view l.space) l.initial.self l.self;
  depth : level_count l.self.store.now ≡ level_count l.initial.self.store.now;
  so_far : OnBits (g.S.Space.view l.initial.space) (λ bits. FieldsBefore bits l.whole.pinned l.whole.start l.whole.order
      (open_fields (type_of l.initial.self.nodes.now) l.fields) (frames_of l.initial.self) l.place
      (open_fields (type_of l.initial.self.nodes.now) (drop l.place l.fields))
      (frames_after l.initial.self l.self) l.behind);
  spent : OnBits (g.S.Space.view l.initial.space) (λ bits. l.self.meter.now.steps + fields_search bits l.whole.pinned
      l.whole.start (open_fields (type_of l.initial.self.nodes.now) (drop l.place l.fields)) l.whole.order
      (frames_after l.initial.self l.self) l.behind
      ≤ l.initial.self.meter.now.steps + fields_search bits l.whole.pinned l.whole.start
      (open_fields (type_of l.initial.self.nodes.now) l.fields) l.whole.order (frames_of l.initial.self) l.whole.start);
}
