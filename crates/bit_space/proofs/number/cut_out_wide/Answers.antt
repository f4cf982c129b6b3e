use Rattle.bit_space.proofs.Windows.{cut_bits}
use Rattle.bit_space.proofs.number.cut_out_wide.Goals as goal

pub returns : goal.returns
returns c = cut_bits c.args.window.now c.args.lead c.args.width c.join_wide.result c.requires.inside
    c.requires.width c.join_wide.ensures
