use Rattle.std.proofs.Common.{refl}
use Rattle.pickle_types.proofs.Tables.{opens}
use Rattle.pickle_types.proofs.check.sorts.shape_at.Goals as goal

pub returns-clause-is : goal.returns-clause-is
returns-clause-is c = (c.node.result.now, c.node.ensures, refl)

pub returns-clause-opens : goal.returns-clause-opens
returns-clause-opens c = opens c.args.nodes.now c.requires.table c.args.i c.node.result.now c.node.ensures

pub returns-clause-below : goal.returns-clause-below
returns-clause-below c = c.requires.table.below c.args.i c.node.result.now c.node.ensures
