use Rattle.std.proofs.Common.{ℕ, ◌<◌, Option, Some, None}
use Rattle.std.specs.Prelude.{IfOk, IfSome}
use Rattle.pickle_types.specs.declared.fault.FaultKind.TheVariants.{UnknownName}
use Rattle.pickle_types.specs.Expressions.{or_wrong}
use Rattle.pickle_types.proofs.check.sorts.shape_field.Goals as goal

unknown_below : (n : ℕ) (o : Option (ℕ × ℕ)) → IfSome o (λ x. x.1 < n) → IfOk (or_wrong UnknownName o) (λ x. x.1 < n)
unknown_below n None h = tt
unknown_below n (Some x) h = h

pub returns-in-Struct-clause-below : goal.returns-in-Struct-clause-below
returns-in-Struct-clause-below c n h =
    rw c.or_unknown.ensures
    (unknown_below n _ (c.field_at.ensures.below n (rw c.deref.ensures.value (rw c.in-Struct.is at h))))

pub returns-in-Integral-clause-below : goal.returns-in-Integral-clause-below
returns-in-Integral-clause-below c n h =
    let names = rw c.in-Integral.is at h in
    rw c.or_unknown-in-Integral.ensures
    (unknown_below n _ (c.part_at.ensures.below n (rw c.deref-in-Integral.ensures.value names.1)))

pub returns-in-Union-clause-below : goal.returns-in-Union-clause-below
returns-in-Union-clause-below c n h =
    rw c.or_unknown-in-Union.ensures
    (unknown_below n _ (c.part_at-in-Union.ensures.below n (rw c.deref-in-Union.ensures.value (rw c.in-Union.is at h))))
