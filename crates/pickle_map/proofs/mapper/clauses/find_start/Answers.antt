use Rattle.std.proofs.Common.{refl, arith}
use Rattle.pickle_meaning.specs.Clauses.{field_start}
use Rattle.pickle_map.proofs.mapper.clauses.find_start.Goals as goal

pub returns-in-None-clause-is : goal.returns-in-None-clause-is
unfolding field_start
returns-in-None-clause-is c nodes = rw (c.if-pinned.false, c.in-None.is, c.from-in-None.ensures) (refl, omega arith)

pub returns-in-Some-clause-is : goal.returns-in-Some-clause-is
unfolding field_start
returns-in-Some-clause-is c nodes = rw (c.if-pinned.false, c.in-Some.is, ← c.deref.ensures)
    (rw c.from-in-Some.ensures at (c.evaluate_label.ensures.is nodes))

pub returns-then-pinned-clause-is : goal.returns-then-pinned-clause-is
unfolding field_start
returns-then-pinned-clause-is c nodes = rw (c.if-pinned.true, c.from.ensures) (refl, omega arith)
