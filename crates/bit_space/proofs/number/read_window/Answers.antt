use Rattle.std.proofs.Common.{◌/◌, ◌%◌, refl, arith}
use Rattle.bit_space.proofs.Windows.{window_below, window_read}
use Rattle.bit_space.proofs.number.read_window.Goals as goal

pub in_order-requires-clause-fits : goal.in_order-requires-clause-fits
in_order-requires-clause-fits g c =
    let l = c.read_at.auto.into in
    window_below _ _ _ _ (omega (arith, l, c.requires.window)) c.cut_out-cut.ensures

pub returns-clause-ok : goal.returns-clause-ok
returns-clause-ok g c =
    let l = c.read_at.auto.into in
    rw c.in_order.ensures
    (window_read _ c.args.order _ (c.args.pos / 8) _ (c.args.pos % 8) c.args.width c.args.pos c.cut_out-cut.result _
    c.requires.some l c.requires.window.1 (omega arith) c.cut_out-cut.ensures refl c.in_ok-read_at.ensures.bytes)
