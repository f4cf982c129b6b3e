use Rattle.std.proofs.Common.{sym, arith}
use Rattle.bit_space.proofs.Windows.{joined_last}
use Rattle.bit_space.proofs.number.join_wide.Goals as goal

pub returns : goal.returns
returns c = rw (c.from.ensures, c.join.ensures, c.from-2.ensures)
    (sym (joined_last c.args.window.now 8 0 c.requires (omega (arith, c.type_inv.window 8))))
