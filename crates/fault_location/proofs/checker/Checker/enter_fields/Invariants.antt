use Rattle.std.proofs.Common.{◌≡◌, drop}
use Rattle.pickle_types.specs.Table.{type_of, open_fields}
use Rattle.fault_location.specs.AtWork.{Frame}
use Rattle.value_store.specs.Slots.{level_count}
use Rattle.fault_parts.specs.Arises.{FieldsBefore}
use Rattle.fault_location.specs.Ways.{OnBits}
use Rattle.fault_location.specs.Frames.{frames_after, frames_of}
use Rattle.fault_location.proofs.checker.Checker.enter_fields.Given as goal

abbrev pub invariant-loop-index : goal.invariant-loop-index
invariant-loop-index g l = record {
  frame : Frame (g.S.Space.view l.initial.space) (g.S.Space.view l.space) l.initial.self l.self;
  depth : level_count l.self.store.now ≡ level_count l.initial.self.store.now;
  so_far : OnBits (g.S.Space.view l.initial.space) (λ bits. FieldsBefore bits l.whole.pinned l.whole.start l.whole.order
      (open_fields (type_of l.initial.self.nodes.now) l.fields) (frames_of l.initial.self) l.index
      (open_fields (type_of l.initial.self.nodes.now) (drop l.index l.fields))
      (frames_after l.initial.self l.self) l.behind);
}
