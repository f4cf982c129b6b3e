use Rattle.std.proofs.Common.{arith}
use Rattle.value_store.proofs.Lent.{last_bytes-below}
use Rattle.value_store.proofs.store.element.join_bytes.Goals as goal

pub overflow_mul-number : goal.overflow_mul-number
overflow_mul-number c = omega (
  arith,
  c.loop-i.invariant,
  last_bytes-below c.args.bytes.now c.loop-i.i c.loop-i-test.true c.requires (λ k. omega (arith, c.type_inv.bytes k)),
)

pub overflow_add-number : goal.overflow_add-number
overflow_add-number c = omega (
  arith,
  c.from.ensures,
  c.loop-i.invariant,
  last_bytes-below c.args.bytes.now c.loop-i.i c.loop-i-test.true c.requires (λ k. omega (arith, c.type_inv.bytes k)),
)
