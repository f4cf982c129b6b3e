use Rattle.std.proofs.Common.{◌≡◌, ◌+◌, ◌≤◌, drop}
use Rattle.pickle_types.specs.Table.{type_of, open_parts}
use Rattle.fault_location.specs.AtWork.{WorkFrame}
use Rattle.value_store.specs.Slots.{level_count}
use Rattle.fault_parts.specs.Arises.{DigitsBefore}
use Rattle.fault_location.specs.Searched.{digits_search}
use Rattle.fault_location.specs.Frames.{frames_after, frames_of}
use Rattle.fault_location.proofs.checker.Checker.find_digits.Given as goal

abbrev pub invariant-loop-place : goal.invariant-loop-place
invariant-loop-place l = record {
  frame : WorkFrame l.initial.self l.self;
  depth : level_count l.self.store.now ≡ level_count l.initial.self.store.now;
  few : l.left ≤ 64;
  before : DigitsBefore l.digits l.start (open_parts (type_of l.initial.self.nodes.now) l.fields) l.width
      (frames_of l.initial.self) l.place
      (open_parts (type_of l.initial.self.nodes.now) (drop l.place l.fields)) l.left
      (frames_after l.initial.self l.self);
  spent : l.self.meter.now.steps + digits_search (open_parts (type_of l.initial.self.nodes.now) (drop l.place l.fields))
      l.digits l.left (frames_after l.initial.self l.self) l.start
      ≤ l.initial.self.meter.now.steps + digits_search (open_parts (type_of l.initial.self.nodes.now) l.fields) l.digits
      l.width (frames_of l.initial.self) l.start;
}
