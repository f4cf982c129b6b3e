use Rattle.std.proofs.lemmas.Result.{err_from_is_err_and}
use Rattle.bit_space.specs.Bits.{bits_of}
use Rattle.pickle_meaning.specs.Values.{no_values}
use Rattle.pickle_map.proofs.Stopped.{none_kept}
use Rattle.fault_location.specs.Ways.{start_type}
use Rattle.fault_location.proofs.Located.{located}
use Rattle.fault_location.proofs.locate.find_part.Goals as goal

pub returns-clause-is : goal.returns-clause-is
returns-clause-is g c =
    λ bytes known f means.
    let none = none_kept c.args.whole.table.now.nodes.items c.args.store.now c.requires.empty in
    let e = c.new-checker.ensures in
    let grown =
    rw (e.nodes, e.store, c.nodes.ensures, c.node.ensures, none, c.from.ensures, c.new-path.ensures.items)
    at (c.in_ok-located.ensures.is bytes known) in
    located (bits_of bytes) (start_type c.args.whole) c.args.whole.order no_values c.args.whole.start
    c.locate-located.new.path.items grown f means

pub returns-in_err-located-clause-ended : goal.returns-in_err-located-clause-ended
returns-in_err-located-clause-ended g c =
    let p = err_from_is_err_and c.from_residual.result c.from_residual.ensures.1 in
    let none = none_kept c.args.whole.table.now.nodes.items c.args.store.now c.requires.empty in
    let e = c.new-checker.ensures in
    rw (p.1, p.2)
    (λ bytes known. rw (e.nodes, e.meter, e.store, c.nodes.ensures, c.node.ensures, none, c.from.ensures)
    at (c.in_err-located.ensures.spends bytes known))
