use Rattle.std.proofs.Common.{rules}
use Rattle.fault_parts.specs.Arises.{no_field_before}
use Rattle.fault_location.proofs.checker.Checker.enter_fields.Goals as goal

pub loop-index-init : goal.loop-index-init
loop-index-init g c = record {
  frame = search rules;
  depth = search rules;
  so_far = λ bytes known. no_field_before;
}
