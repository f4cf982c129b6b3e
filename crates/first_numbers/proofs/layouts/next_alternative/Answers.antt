use Rattle.std.proofs.Common.{inl, inr, subst, sym}
use Rattle.pickle_types.specs.Table.{optional_term}
use Rattle.first_numbers.specs.Held.{HoldsPart}
use Rattle.first_numbers.proofs.Steps.{HasTests, takes_none, takes_tests}
use Rattle.first_numbers.proofs.layouts.next_alternative.Goals as goal

pub returns-in-Tests-clause-is : goal.returns-in-Tests-clause-is
returns-in-Tests-clause-is c =
    takes_tests c.args.part.now c.args.mine.now c.args.all.now c.add_besides.new.all c.in-Tests.first
    c.add_besides.result
    (subst (HoldsPart 0 c.args.mine.now (optional_term c.args.part.now.constraint)) c.in-Tests.is
    c.in_ok-first.ensures.is)
    c.add_besides.ensures.is

pub returns-in-Number : goal.returns-in-Number
returns-in-Number c = record {
  is = takes_none c.args.part.now c.args.mine.now c.args.all.now c.args.all.now c.in_ok-first.field-0
      (elim c.in-Number.is [
        | inl p ↦ subst (λ l. HasTests l → ⊥) (sym p.1) (λ h. h)
        | inr q ↦ elim q [
          | inl p ↦ subst (λ l. HasTests l → ⊥) (sym p.2) (λ h. h)
          | inr e ↦ subst (λ l. HasTests l → ⊥) (sym e) (λ h. h)
        ]
      ])
      c.in_ok-first.ensures.is;
  sound = c.requires.all;
}
