use Rattle.type_soundness.proofs.laws.mappings_are_safe.Goals as goal
use Rattle.type_soundness.proofs.Evaluations.{evaluates_safe}
use Rattle.type_soundness.proofs.WellTyped.{stands_well}

-- src/laws.rt
pub returns : goal.returns
returns c = record {
  law = λ seen count t bits order scope levels s a h ok d.
      evaluates_safe h.declarations d seen count (stands_well seen count t h) ok;
}
