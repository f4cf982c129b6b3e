use Rattle.std.proofs.Common.{refl, arith}
use Rattle.pickle_meaning.specs.Clauses.{extent_of}
use Rattle.pickle_map.proofs.mapper.clauses.find_extent.Goals as goal

pub returns-in-Unbounded-clause-is : goal.returns-in-Unbounded-clause-is
unfolding extent_of
returns-in-Unbounded-clause-is c nodes = rw c.in-Unbounded.is (refl, omega arith)

pub returns-in-Count-clause-is : goal.returns-in-Count-clause-is
unfolding extent_of
returns-in-Count-clause-is c nodes = rw (c.in-Count.is, ← c.deref.ensures) (c.evaluate_count.ensures.is nodes)

pub returns-in-Size-clause-is : goal.returns-in-Size-clause-is
unfolding extent_of
returns-in-Size-clause-is c nodes = rw (c.in-Size.is, ← c.deref-in-Size.ensures) (c.evaluate_size.ensures.is nodes)
