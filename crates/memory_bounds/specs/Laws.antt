-- The law of the bound on memory.
use Rattle.std.specs.Prelude.{◌≡◌, ℕ, ◌*◌, ◌≤◌, true, Result, IfErr}
use Rattle.bit_space.specs.declared.meter.Meter.{Meter}
use Rattle.bit_space.specs.declared.order.Order.{Order}
use Rattle.bit_space.specs.SpaceView.{SpaceView}
use Rattle.pickle_types.specs.declared.table.Table.{Table}
use Rattle.pickle_types.specs.declared.table.TypeId.{TypeId}
use Rattle.pickle_types.specs.TypeTable.{type_named}
use Rattle.pickle_meaning.specs.declared.faults.MapFault.{MapFault}
use Rattle.pickle_meaning.specs.declared.faults.MapFaultKind.TheVariants as faults
use Rattle.pickle_map.specs.Mapped.{RunsNamed}
use Rattle.type_soundness.specs.CapacityLaws.{bound_lengths}
use Rattle.value_store.specs.declared.store.room.Growth.TheVariants.{Within}
use Rattle.value_store.specs.Slots.{Held}
use Rattle.value_store.specs.Weights.{Covers, weight}

-- a store that takes what the bound of a type weighs, and has capacity for it, refuses nothing of the type
abbrev pub NothingIsRefused : Type 0
NothingIsRefused = (table : Table) (id : TypeId) (order : Order) (start : ℕ) (space : SpaceView) (meter meter' : Meter)
    (store store' : Held) (result : Result (Unit {0}) MapFault) (most : ℕ) →
    store.room.growth ≡ Within most → Covers most store.capacity →
    weight (bound_lengths true (type_named table id) (8 * space.len)) ≤ most →
    RunsNamed table id order start space meter meter' store store' result →
    IfErr result (λ f. f.kind ≡ faults.Memory → ⊥)
