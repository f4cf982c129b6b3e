use Rattle.std.proofs.Common.{arith}
use Rattle.pickle_types.specs.Table.{type_of}
use Rattle.fault_location.proofs.Searching.{placed_spends, spends_later}
use Rattle.fault_location.proofs.Numbers.{number_kept, number_stopped}
use Rattle.fault_location.proofs.checker.Checker.store_number.Goals as goal

pub returns-clause-is : goal.returns-clause-is
returns-clause-is c =
    let e = c.new-mapper.ensures in
    number_kept c.args.self.now.nodes.now c.tick.new.self c.place_number.new.self.meter.now c.args.self.now.store.now
    c.place_number.new.self.store.now (type_of c.args.self.now.nodes.now c.args.number.node)
    c.args.number.digits c.args.number.start
    c.place_number.result (rw (e.nodes, e.meter, e.store) at c.place_number.ensures.is)

pub returns-clause-stops : goal.returns-clause-stops
returns-clause-stops c =
    let e = c.new-mapper.ensures in
    number_stopped c.args.self.now.nodes.now c.tick.new.self c.place_number.new.self.meter.now c.args.self.now.store.now
    c.place_number.new.self.store.now (type_of c.args.self.now.nodes.now c.args.number.node)
    c.args.number.digits c.args.number.start
    c.place_number.result (rw (e.nodes, e.meter, e.store) at c.place_number.ensures.is)
    (rw (e.nodes, e.store) at c.place_number.ensures.level).same

pub returns-clause-spends : goal.returns-clause-spends
returns-clause-spends c =
    let e = c.new-mapper.ensures in
    spends_later ⊥ _ _ _ _ _ _ _ c.place_number.result c.in_ok-tick.ensures.limit
    (omega (arith, c.in_ok-tick.ensures.ok))
    (placed_spends c.args.self.now.nodes.now c.tick.new.self c.place_number.new.self.meter.now c.args.self.now.store.now
    c.place_number.new.self.store.now (type_of c.args.self.now.nodes.now c.args.number.node)
    c.args.number.digits c.args.number.start
    c.place_number.result (rw (e.nodes, e.meter, e.store) at c.place_number.ensures.is)
    (rw (e.meter, e.store) at c.place_number.ensures.frame.left).device)
