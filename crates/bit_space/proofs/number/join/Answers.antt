use Rattle.std.proofs.Common.{take, sym, arith}
use Rattle.std.proofs.lemmas.List.{length-take-le}
use Rattle.bit_space.proofs.Windows.{joined_below, joined_more, joined_none}
use Rattle.bit_space.proofs.number.join.Goals as goal

pub loop-byte-init : goal.loop-byte-init
loop-byte-init c = joined_none

pub overflow_mul-all : goal.overflow_mul-all
overflow_mul-all c =
    let h = joined_below (take c.loop-byte.byte-index c.args.window.now) 7
    (omega (arith, c.requires, length-take-le c.loop-byte.byte-index c.args.window.now (omega arith))) in
    omega (arith, h, c.loop-byte.invariant)

pub overflow_add-all : goal.overflow_add-all
overflow_add-all c =
    let h = joined_below (take c.loop-byte.byte-index c.args.window.now) 7
    (omega (arith, c.requires, length-take-le c.loop-byte.byte-index c.args.window.now (omega arith))) in
    omega (arith, h, c.loop-byte.invariant, c.from.ensures, c.type_inv.window c.loop-byte.byte-index)

pub loop-byte-preserved : goal.loop-byte-preserved
loop-byte-preserved c =
    let h = joined_more c.args.window.now c.loop-byte.byte-index 0 c.loop-byte-test.true
    (omega (arith, c.type_inv.window c.loop-byte.byte-index)) in
    rw (c.from.ensures, c.loop-byte.invariant) (sym h)
