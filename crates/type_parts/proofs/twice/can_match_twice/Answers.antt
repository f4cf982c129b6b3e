use Rattle.std.proofs.Common.{arith, ◌∙◌}
use Rattle.pickle_types.specs.TypeTable.{nodes_of}
use Rattle.type_parts.specs.Twice.{can_match_twice}
use Rattle.type_parts.proofs.Known.{known_at, known_count}
use Rattle.type_parts.proofs.twice.can_match_twice.Goals as goal

pub returns : goal.returns
returns c =
    let nodes = nodes_of c.args.table.now in
    let twice = can_match_twice c.args.pattern.now.steps.items in
    let are = rw (c.nodes.ensures, c.as_slice.ensures.value) at c.in_ok-twice.ensures in
    rw c.node.ensures at c.index.ensures
    ∙ known_at nodes c.in_ok-twice.twice.items twice c.args.table.now.sound are c.args.id.node c.index.result.now
    (omega (arith, c.requires, known_count nodes c.in_ok-twice.twice.items twice are))
