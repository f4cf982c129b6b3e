use Rattle.std.proofs.Common.{subst, sym}
use Rattle.pickle_types.specs.Table.{optional_term}
use Rattle.first_numbers.specs.Held.{HoldsLayout}
use Rattle.first_numbers.specs.Layouts.{Layout, part_layout}
use Rattle.first_numbers.proofs.Steps.{tests_part}
use Rattle.first_numbers.proofs.layouts.part_layout.Goals as goal

pub returns-in-Fixed-clause-is : goal.returns-in-Fixed-clause-is
returns-in-Fixed-clause-is c = λ l h.
    let own = c.args.own in
    let fixed = subst (λ mine. HoldsLayout mine l) c.in-Fixed.is h in
    subst (λ (x : Layout). HoldsLayout c.fixed_part.result (part_layout own x (optional_term c.args.constraint.now)))
    (sym fixed) (c.fixed_part.ensures.is own)

pub returns-in_ok-copy_of-in-Tests-clause-is : goal.returns-in_ok-copy_of-in-Tests-clause-is
returns-in_ok-copy_of-in-Tests-clause-is c = λ l h.
    tests_part c.args.own c.in-Tests.first c.in_ok-copy_of-in-Tests.field-0 (optional_term c.args.constraint.now) l
    (subst (λ mine. HoldsLayout mine l) c.in-Tests.is h) c.in_ok-copy_of-in-Tests.ensures.is
