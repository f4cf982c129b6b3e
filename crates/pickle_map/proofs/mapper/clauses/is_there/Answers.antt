use Rattle.std.proofs.Common.{refl, arith}
use Rattle.pickle_meaning.specs.Clauses.{condition}
use Rattle.pickle_map.proofs.mapper.clauses.is_there.Goals as goal

pub returns-in-None-clause-is : goal.returns-in-None-clause-is
unfolding condition
returns-in-None-clause-is c nodes = rw c.in-None.is (refl, omega arith)

pub returns-in-Some-clause-is : goal.returns-in-Some-clause-is
unfolding condition
returns-in-Some-clause-is c nodes = rw (c.in-Some.is, ← c.deref.ensures) (c.find_truth.ensures.is nodes)
