-- `is_array`: the shape of the node is that of its type.
use Rattle.inner_records.proofs.Finding.{array_is_list, other_is_none}
use Rattle.inner_records.proofs.find.is_array.Goals as goal

pub returns-in-Array : goal.returns-in-Array
returns-in-Array c =
    array_is_list c.args.nodes.now c.requires.table c.args.node c.requires.at _ _ _ c.in-Array.is

pub returns-in_default : goal.returns-in_default
returns-in_default c =
    other_is_none c.args.nodes.now c.requires.table c.args.node c.requires.at _ c.in_default.not-Array
