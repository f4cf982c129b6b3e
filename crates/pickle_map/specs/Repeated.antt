-- The law that repeating a mapping needs no more memory.
use Rattle.std.specs.Prelude.{◌≡◌, ◌⊎◌, ℕ, ◌-◌, ◌≤◌, List, Some, Result, IfErr}
use Rattle.bit_space.specs.declared.meter.Meter.{Meter}
use Rattle.bit_space.specs.declared.order.Order.{Order}
use Rattle.bit_space.specs.SpaceView.{SpaceView}
use Rattle.pickle_types.specs.declared.node.Node.{Node}
use Rattle.pickle_types.specs.Types.{PokeType}
use Rattle.pickle_meaning.specs.declared.faults.MapFault.{MapFault}
use Rattle.pickle_meaning.specs.declared.faults.MapFaultKind.TheVariants as faults
use Rattle.pickle_map.specs.Mapped.{IsMapped}
use Rattle.value_store.specs.Slots.{Held, packs}
use Rattle.value_store.specs.Takes.{Vector, of_vector}
use Rattle.value_store.specs.Weights.{IsUnbounded}

-- a mapping of a type into a store, and what it left
pub record OneMapping (type : PokeType) (order : Order) (start : ℕ) : Type 0 where
  pub nodes : List Node
  pub space : SpaceView
  pub space' : SpaceView
  pub meter : Meter
  pub meter' : Meter
  pub store : Held
  pub store' : Held
  pub result : Result (Unit {0}) MapFault
  pub mapped : IsMapped nodes type order start space space' meter meter' store store' result

-- it was not broken off
pub record IsUnbroken (result : Result (Unit {0}) MapFault) : Type 0 where
  pub device : IfErr result (λ f. f.kind ≡ faults.Device → ⊥)
  pub memory : IfErr result (λ f. f.kind ≡ faults.Memory → ⊥)

-- A second mapping over the same bytes, with no more steps left than the first one had, into a store that packs as the
-- first one's does and has at least the capacity that the first one's had in the end, and whose weight isn't bounded,
-- or as the first one's is.
pub record IsAgain {type : PokeType} {order : Order} {start : ℕ}
    (first second : OneMapping type order start) : Type 0 where
  pub bytes : List ℕ
  pub known : first.space.bytes ≡ Some bytes
  pub same : second.space.bytes ≡ Some bytes
  pub len : second.space.len ≡ first.space.len
  pub steps : second.meter.limit - second.meter.steps ≤ first.meter.limit - first.meter.steps
  pub packing : packs second.store.room ≡ packs first.store.room
  pub room : (vector : Vector) → of_vector vector first.store'.capacity ≤ of_vector vector second.store.capacity
  pub weight : IsUnbounded second.store.room ⊎ (second.store.room.growth ≡ first.store.room.growth)

-- after a mapping that was not broken off, the same mapping again returns no `Memory`
abbrev pub WantsNoMore : Type 0
WantsNoMore = (type : PokeType) (order : Order) (start : ℕ) (first second : OneMapping type order start) →
    IsUnbroken first.result → IsAgain first second → IfErr second.result (λ f. f.kind ≡ faults.Memory → ⊥)
