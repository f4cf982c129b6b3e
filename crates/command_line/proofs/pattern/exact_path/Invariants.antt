use Rattle.std.proofs.Common.{◌≡◌, ◌++◌, length}
use Rattle.std.specs.Vec.Iter.{into_iter_items, into_iter_len}
use Rattle.command_line.specs.Paths.{steps_of}
use Rattle.command_line.specs.Patterns.{parts_of, exact_parts}
use Rattle.command_line.proofs.pattern.exact_path.Given as goal

abbrev pub invariant-loop-step : goal.invariant-loop-step
invariant-loop-step l = record {
  all : l.yielded ++ into_iter_items l.step-iterator ≡ into_iter_items l.initial.step-iterator;
  so_far : exact_parts (steps_of l.steps.items) ≡ parts_of l.yielded;
  left : into_iter_len l.step-iterator ≡ length (into_iter_items l.step-iterator);
}
