use Rattle.std.proofs.Common.{drop}
use Rattle.fault_location.specs.AtWork.{Frame}
use Rattle.value_store.specs.Slots.{level_count}
use Rattle.fault_location.specs.Ways.{OnBits, IsPart, InPart, fault_of}
use Rattle.fault_location.specs.Frames.{frames_after, frames_of}
use Rattle.fault_location.proofs.checker.Checker.follow.Given as goal

abbrev pub invariant-loop-step : goal.invariant-loop-step
invariant-loop-step g l = record {
  frame : Frame (g.S.Space.view l.initial.space) (g.S.Space.view l.space) l.initial.self l.self;
  part : IsPart l.initial.self.nodes.now (level_count l.self.store.now) l.part;
  so_far : OnBits (g.S.Space.view l.initial.space) (λ bits. InPart bits l.initial.self.nodes.now
      (frames_after l.initial.self l.self) l.part (fault_of l.fault) (drop l.step l.path)
      → InPart bits l.initial.self.nodes.now (frames_of l.initial.self) l.whole (fault_of l.fault) l.path);
}
