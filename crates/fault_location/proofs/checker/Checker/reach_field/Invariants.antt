use Rattle.std.proofs.Common.{◌≡◌, ◌≤◌, drop}
use Rattle.pickle_types.specs.Table.{type_of, open_parts}
use Rattle.fault_location.specs.AtWork.{WorkFrame}
use Rattle.value_store.specs.Slots.{level_count}
use Rattle.fault_parts.specs.Arises.{DigitsBefore}
use Rattle.fault_location.specs.Frames.{frames_after, frames_of}
use Rattle.fault_location.proofs.checker.Checker.reach_field.Given as goal

abbrev pub invariant-loop-index : goal.invariant-loop-index
invariant-loop-index l = record {
  frame : WorkFrame l.initial.self l.self;
  depth : level_count l.self.store.now ≡ level_count l.initial.self.store.now;
  few : l.left ≤ 64;
  before : DigitsBefore l.digits l.start (open_parts (type_of l.initial.self.nodes.now) l.fields) l.width
      (frames_of l.initial.self) l.index
      (open_parts (type_of l.initial.self.nodes.now) (drop l.index l.fields)) l.left
      (frames_after l.initial.self l.self);
}
