-- A mapping that returned without a fault: each vector of its store has at most the bound of its type.
use Rattle.std.proofs.Common.{◌≡◌, ℕ, ◌+◌, ◌*◌, ◌≤◌, Ok, Err, subst, arith}
use Rattle.bit_space.specs.declared.order.Order.{Order}
use Rattle.pickle_types.specs.Types.{PokeType}
use Rattle.pickle_types.specs.TypeTable.{type_named}
use Rattle.pickle_meaning.specs.Values.{Value, Levels, no_values}
use Rattle.mapping_plans.specs.Mapping.{plan}
use Rattle.mapping_plans.specs.Rows.{Apart}
use Rattle.mapping_plans.proofs.Stored.{Stores, Leaves, past_end}
use Rattle.pickle_map.specs.Follows.{World, Done, Follows}
use Rattle.pickle_map.proofs.Added.{walk_stores}
use Rattle.value_store.specs.Moves.{State}
use Rattle.value_store.specs.Slots.{packs}
use Rattle.value_store.specs.Takes.{Vector, of_vector}
use Rattle.type_soundness.specs.Capacity.{capacity_bound}
use Rattle.type_soundness.specs.CapacityLaws.{StoresTakeBound}
use Rattle.type_soundness.proofs.Moving.{Added, moves_within}
use Rattle.type_soundness.proofs.Lacking.{nothing}

module _ {world : World} {limit : ℕ} (m : ℕ) (ty : PokeType) (order : Order) (levels : Levels) (s : ℕ) {v : Value}
    {k j k' j' : ℕ} {state state' : State} where
  run_holds : Follows world limit (plan m ty order levels s) k j state k' j' state' (Done (Ok v)) → (vector : Vector) →
      of_vector vector state'.now ≤ of_vector vector state.now + capacity_bound (packs world.room) vector ty m
  run_holds h vector =
      let most = capacity_bound (packs world.room) vector ty m in
      let at_end = walk_stores h.walk (moves_within (packs world.room) vector m ty order levels s state) in
      let a = past_end (subst (λ p.
      Stores (packs world.room) Apart (λ now. of_vector vector now.now ≤ of_vector vector state.now + most)
      (Leaves (λ v. Added (packs world.room) vector most state) (λ last. last ≡ state)) p h.at) h.ends.0 at_end) in
      let few = a.few in
      subst (λ now. of_vector vector now.now ≤ of_vector vector state.now + most) h.ends.1 few

pub stores_take : StoresTakeBound
stores_take table id order start space meter meter' store store' (Ok u) h = λ vector.
    let few = run_holds (8 * space.len) (type_named table id) order no_values start h.holds vector in
    let none = nothing vector in
    omega (arith, few, none)
stores_take table id order start space meter meter' store store' (Err f) h = tt
