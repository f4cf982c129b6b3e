use Rattle.std.proofs.Common.{arith, ◌∙◌}
use Rattle.pickle_types.specs.TypeTable.{nodes_of}
use Rattle.type_parts.specs.CanHave.{can_have_requested}
use Rattle.type_parts.proofs.Known.{known_at, known_count}
use Rattle.type_parts.proofs.can_have.can_have_requested.Goals as goal

pub returns : goal.returns
returns c =
    let nodes = nodes_of c.args.table.now in
    let are = rw c.nodes.ensures at c.in_ok-known.ensures in
    rw c.node.ensures at c.index.ensures
    ∙ known_at nodes c.in_ok-known.known.items (can_have_requested c.args.terms.now) c.args.table.now.sound are
    c.args.id.node c.index.result.now
    (omega (arith, c.requires, known_count nodes c.in_ok-known.known.items (can_have_requested c.args.terms.now) are))
