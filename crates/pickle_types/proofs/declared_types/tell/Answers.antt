use Rattle.std.proofs.Common.{◌∙◌, sym}
use Rattle.pickle_types.proofs.DeclaredTypes.{kind_at, told_same}
use Rattle.pickle_types.proofs.declared_types.tell.Goals as goal

pub returns : goal.returns
returns c = told_same _ _ _ _ _ _ c.as_slice.ensures.value
    (c.kind_of.ensures ∙ sym (kind_at c.args.nodes.now c.requires.table c.args.named.now.declared.node
    c.index-nodes-node.result c.requires.inside))
    (c.stored_width.ensures _ c.node_bounds-bounds.ensures.least)
