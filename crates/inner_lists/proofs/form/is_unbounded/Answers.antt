-- `is_unbounded`: the type is an array.
use Rattle.std.proofs.Common.{◌∙◌, [], sym, ap}
use Rattle.pickle_types.specs.Types.{PokeType}
use Rattle.pickle_map.proofs.Shapes.{opened_as}
use Rattle.list_laws.specs.Paths.{is_open}
use Rattle.inner_lists.proofs.Shapes.{list_is_array}
use Rattle.inner_lists.proofs.form.is_unbounded.Goals as goal

pub returns : goal.returns
returns c = c.is_no_bound.ensures
    ∙ sym (ap (λ (ty : PokeType). is_open ty []) (opened_as c.args.nodes.now c.requires.table c.args.node c.requires.at
    c.index-nodes-node.result _ c.in-Array.is))

pub unreachable-requires : goal.unreachable-requires
unreachable-requires c =
    list_is_array c.args.nodes.now c.requires.table c.args.node c.requires.at c.index-nodes-node.result c.requires.list
    c.in_default.not-Array
