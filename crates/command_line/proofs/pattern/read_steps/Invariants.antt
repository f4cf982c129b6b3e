use Rattle.std.proofs.Common.{◌≡◌, ◌-◌, ◌≤◌, ◌⊎◌, length, take, drop}
use Rattle.command_line.specs.Patterns.{parts_of, ArePartsText}
use Rattle.command_line.specs.StepCuts.{MayFollow}
use Rattle.command_line.proofs.pattern.read_steps.Given as goal

abbrev pub invariant-loop-done : goal.invariant-loop-done
invariant-loop-done l = record {
  within : l.done ≤ length l.text;
  so_far : ArePartsText (take l.done l.text) (parts_of l.steps.items);
  begins : (l.done ≡ 0) ⊎ MayFollow (drop l.done l.text);
}

abbrev pub decreases-loop-done : goal.decreases-loop-done
decreases-loop-done l = length l.text - l.done
