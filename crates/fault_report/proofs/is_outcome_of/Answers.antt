use denote.Enum.Bare.{true_same}
use Rattle.std.proofs.Common.{sym, ap, ◌∙◌}
use Rattle.std.proofs.lemmas.Bool.{false≢true}
use Rattle.pickle_meaning.specs.contracts.faults.MapFaultKind.{the_type}
use Rattle.pickle_meaning.specs.declared.faults.MapFault.{MapFault}
use Rattle.fault_report.proofs.Outcomes.{not_own, both_true, eqb_self, neither}
use Rattle.fault_report.proofs.is_outcome_of.Goals as goal

pub returns-then-eq-clause-other : goal.returns-then-eq-clause-other
returns-then-eq-clause-other c = λ differs own.
    let own = rw c.in-Fault.is at own in
    not_own c.args.start c.args.terms.now.most_slots c.args.terms.now.most_bytes c.args.fault c.in-Fault.told
    (λ same.
    false≢true
    (sym differs ∙ c.eq-then-eq.ensures
    ∙ both_true (true_same the_type c.in-Fault.told.kind c.args.fault.kind (ap (λ (f : MapFault). f.kind) same))
    (rw same (eqb_self c.args.fault.at))))
    own

pub returns-in_default : goal.returns-in_default
returns-in_default c = record {
  saying = λ is. absurd (false≢true is);
  faulty = λ is. absurd (false≢true is);
  other = λ differs. neither c.args.start c.args.terms.now.most_slots c.args.terms.now.most_bytes c.args.fault
      c.args.outcome c.in_default.not-Fault c.in_default.not-Slots c.in_default.not-Storage;
}
