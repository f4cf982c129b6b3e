use Rattle.type_soundness.proofs.laws.faults_are_yielded.Goals as goal
use Rattle.type_soundness.proofs.Faults.{fault_yields}
use Rattle.type_soundness.proofs.WellTyped.{stands_well}

-- src/laws.rt
pub returns : goal.returns
returns c = record {
  law = λ seen count t bits order scope levels s f k j h ok m.
      fault_yields h.declarations m h.form scope seen count (stands_well seen count t h) ok;
}
