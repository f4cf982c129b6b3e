use Rattle.std.proofs.Common.{subst, map}
use Rattle.value_notes.specs.Entries.{entry}
use Rattle.value_notes.specs.Naming.{stairs, IsStairs}
use Rattle.value_notes.proofs.Stairs.{stairs_sorted}
use Rattle.value_notes.proofs.names.Names.new.Goals as goal

pub invariant_of-result : goal.invariant_of-result
invariant_of-result c =
    let p = subst (λ xs. IsStairs (map entry xs) (stairs c.in_ok-steps.steps.items)) c.deref.ensures.value
    c.in_ok-steps.ensures in
    record {
      sorted = stairs_sorted (map entry c.args.named.items) (stairs c.in_ok-steps.steps.items) p;
      same = p.names;
    }
