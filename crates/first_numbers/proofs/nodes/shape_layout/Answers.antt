use Rattle.std.proofs.Common.{inl, inr, refl}
use Rattle.first_numbers.specs.Layouts.{layout}
use Rattle.first_numbers.proofs.nodes.shape_layout.Goals as goal

pub returns-in-Integer-clause-is : goal.returns-in-Integer-clause-is
unfolding layout
returns-in-Integer-clause-is c = λ nodes are. rw c.in-Integer.is refl

pub returns-in-Offset-clause-is : goal.returns-in-Offset-clause-is
unfolding layout
returns-in-Offset-clause-is c = λ nodes are. rw c.in-Offset.is refl

pub returns-in-Struct-clause-is : goal.returns-in-Struct-clause-is
unfolding layout
returns-in-Struct-clause-is c = rw (c.in-Struct.is, ← c.deref.ensures.value) c.fields_layout.ensures.is

pub returns-in-Union-clause-is : goal.returns-in-Union-clause-is
unfolding layout
returns-in-Union-clause-is c =
    rw (c.in-Union.is, ← c.deref-in-Union.ensures.value) c.alternatives_layout.ensures.is

pub returns-in-String-clause-is : goal.returns-in-String-clause-is
unfolding layout
returns-in-String-clause-is c = λ nodes are.
    elim c.in-String.is [
      | inl e ↦ rw e refl
      | inr q ↦ elim q [ inl p ↦ rw p.2 refl | inr p ↦ rw p.3 refl ]
    ]
