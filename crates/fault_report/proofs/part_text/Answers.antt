use Rattle.fault_report.specs.Found.{scene_type}
use Rattle.fault_report.specs.Why.{tells_unfound}
use Rattle.fault_report.proofs.Shown.{shown_fault}
use Rattle.fault_report.proofs.part_text.Goals as goal

pub returns-in_default : goal.returns-in_default
returns-in_default c = record { part = λ run fault kept. rw c.new.ensures (tells_unfound (rw c.in_default.is at kept)) }

pub returns : goal.returns
returns c = record {
  part = λ run fault kept.
      shown_fault run (scene_type c.args.scene.now) fault _ _ (rw c.in-Some.is at kept) c.in_ok-text.ensures.part;
}
