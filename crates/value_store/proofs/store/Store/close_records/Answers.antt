use Rattle.value_store.proofs.Gathering.{closes-records}
use Rattle.value_store.proofs.LayoutArrays.{closes-packing}
use Rattle.value_store.proofs.PackedStructs.{closed-structs}
use Rattle.value_store.proofs.Below.{below-same}
use Rattle.value_store.proofs.store.Store.close_records.Goals as goal

pub returns-clause-ok : goal.returns-clause-ok
returns-clause-ok c = closed-structs c.args.self.now c.lift_level.new.self
    (closes-records c.args.self.now c.lift_level.new.self c.lift_level.ensures.levels)

pub returns-clause-packing : goal.returns-clause-packing
returns-clause-packing c = closes-packing c.args.self.now c.lift_level.new.self
    (closes-records c.args.self.now c.lift_level.new.self c.lift_level.ensures.levels)

pub returns-clause-below : goal.returns-clause-below
returns-clause-below c = below-same c.args.self.now c.lift_level.new.self c.lift_level.ensures.slots
