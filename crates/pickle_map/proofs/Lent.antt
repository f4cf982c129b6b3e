-- What a mapping did with the meter and the store that a mapper borrowed, once they are given back.
use Rattle.std.proofs.Common.{◌≡◌, ℕ, List, Result, subst}
use Rattle.bit_space.specs.declared.meter.Meter.{Meter}
use Rattle.bit_space.specs.declared.order.Order.{Order}
use Rattle.bit_space.specs.SpaceView.{SpaceView}
use Rattle.pickle_types.specs.declared.node.Node.{Node}
use Rattle.pickle_types.specs.Types.{PokeType}
use Rattle.pickle_meaning.specs.declared.faults.MapFault.{MapFault}
use Rattle.pickle_map.specs.Mapped.{IsMapped}
use Rattle.value_store.specs.Slots.{Held}

pub given_back : {nodes : List Node} {type : PokeType} {order : Order} {start : ℕ} {space space' : SpaceView}
    {meter : Meter} {store : Held} {result : Result (Unit {0}) MapFault}
    (meter1 : Meter) (store1 : Held) {meter' : Meter} {store' : Held} → meter1 ≡ meter' → store1 ≡ store' →
    IsMapped nodes type order start space space' meter meter1 store store1 result →
    IsMapped nodes type order start space space' meter meter' store store' result
given_back {nodes} {type} {order} {start} {space} {space'} {meter} {store} {result} meter1 store1
    {meter'} {store'} e f h =
    subst (λ s. IsMapped nodes type order start space space' meter meter' store s result) f
    (subst (λ m. IsMapped nodes type order start space space' meter m store store1 result) e h)
