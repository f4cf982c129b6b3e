use Rattle.std.proofs.Common.{◌+◌, ◌≤◌, ap, arith}
use Rattle.pickle_types.specs.Types.{depth}
use Rattle.pickle_types.specs.Table.{type_of}
use Rattle.pickle_map.proofs.Stopped.{none_kept}
use Rattle.value_store.specs.Slots.{level_count}
use Rattle.fault_location.proofs.ArrayElements.{of_bare}
use Rattle.fault_location.proofs.arises.find_there.Goals as goal

pub follow-requires : goal.follow-requires
follow-requires g c =
    let one = ap level_count c.requires.empty in
    let nodes = c.args.whole.table.now.nodes.items in
    let deep = c.args.whole.table.now.sound.deep c.args.whole.id.node c.requires.known in
    let held : level_count c.args.store.now + depth (type_of nodes c.args.whole.id.node) ≤ 65 =
    omega (arith, one, deep) in
    let bare = c.bare_part.ensures in
    let new = c.new-checker.ensures in
    record {
      part = record {
        inside = rw (new.nodes, bare.inner_is, c.nodes.ensures, c.node.ensures) c.requires.known;
        deep = rw (new.nodes, new.store, bare.inner_is, c.nodes.ensures, c.node.ensures) held;
        sound = rw bare.clause_is tt;
      };
    }

pub returns-clause-is : goal.returns-clause-is
returns-clause-is g c =
    λ yes bytes e.
    let none = none_kept c.args.whole.table.now.nodes.items c.args.store.now c.requires.empty in
    let new = c.new-checker.ensures in
    let found =
    rw (new.nodes, new.store, c.bare_part.ensures.inner_is, c.nodes.ensures, c.node.ensures, none, c.from.ensures)
    at (c.follow.ensures.is yes bytes e) in
    of_bare c.bare_part.ensures.clause_is found
