use Rattle.std.proofs.Common.{refl}
use Rattle.pickle_types.specs.Table.{type_of, bound_of}
use Rattle.pickle_types.proofs.check.site.operand_type.Goals as goal

pub returns-in-Array : goal.returns-in-Array
returns-in-Array c = (
  type_of c.args.nodes.now c.in-Array.field-0,
  bound_of c.in-Array.field-1,
  rw (c.in-Node.is, c.shape_at.ensures.opens, c.in-Array.is) refl,
)
