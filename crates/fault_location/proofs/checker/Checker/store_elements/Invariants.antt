use Rattle.std.proofs.Common.{◌≡◌, ◌*◌, ◌≤◌}
use Rattle.pickle_types.specs.Table.{type_of}
use Rattle.fault_location.specs.AtWork.{Frame}
use Rattle.value_store.specs.Slots.{level_count}
use Rattle.fault_location.specs.Ways.{OnBits}
use Rattle.fault_location.specs.Elements.{ElementsTo}
use Rattle.fault_location.specs.Frames.{frames_after, frames_of}
use Rattle.fault_location.proofs.checker.Checker.store_elements.Given as goal

abbrev pub invariant-loop-place : goal.invariant-loop-place
invariant-loop-place g l = record {
  frame : Frame (g.S.Space.view l.initial.space) (g.S.Space.view l.space) l.initial.self l.self;
  after : l.elements.start ≤ l.behind;
  inside : l.behind ≤ 8 * (g.S.Space.view l.initial.space).len;
  depth : level_count l.self.store.now ≡ level_count l.initial.self.store.now;
  before : OnBits (g.S.Space.view l.initial.space) (λ bits.
      ElementsTo bits (type_of l.initial.self.nodes.now l.elements.element) l.elements.order l.elements.start
      l.elements.extent (frames_of l.initial.self) (frames_after l.initial.self l.self) l.place l.behind);
}
