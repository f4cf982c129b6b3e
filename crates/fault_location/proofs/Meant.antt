-- What a call of the mapper has done, as what its type means.
use Rattle.std.proofs.Common.{◌≡◌, ℕ, ◌*◌, length, List, Some, Result, Ok, Err, OnErr, option_map, sym, ap, ◌∙◌}
use Rattle.bit_space.specs.declared.meter.Meter.{Meter}
use Rattle.bit_space.specs.declared.order.Order.{Order}
use Rattle.bit_space.specs.Bits.{bits_of}
use Rattle.bit_space.specs.SpaceView.{SpaceView, IsWhole}
use Rattle.bit_space.proofs.Digits.{length-bits_of}
use Rattle.pickle_types.specs.declared.node.Node.{Node}
use Rattle.pickle_types.specs.Types.{PokeType}
use Rattle.pickle_types.specs.Table.{type_of}
use Rattle.pickle_meaning.specs.Clauses.{FaultAt}
use Rattle.pickle_meaning.specs.Means.{Means}
use Rattle.pickle_meaning.specs.Values.{Value, Levels, outer_of}
use Rattle.mapping_plans.specs.Mapping.{plan}
use Rattle.mapping_plans.proofs.Exists.{plan_means}
use Rattle.pickle_map.specs.declared.mapper.stop.Stop.{Stop}
use Rattle.pickle_map.specs.declared.mapper.stop.Stop.TheVariants.{Fault, Limit, Device, Memory}
use Rattle.pickle_map.specs.Calls.{Maps, Planned, as_type}
use Rattle.pickle_map.specs.Follows.{World, Follows, Done}
use Rattle.pickle_map.specs.Settles.{Settles}
use Rattle.pickle_map.proofs.Followed.{walk_leaves}
use Rattle.pickle_map.proofs.Walks.{outer_pushed}
use Rattle.value_store.specs.Moves.{State}
use Rattle.value_store.specs.Slots.{Held, levels}
use Rattle.fault_parts.specs.Somehow.{Somehow}
use Rattle.fault_location.specs.Ways.{OnBits, Comes, Settled}

-- a plan that was followed to its end over known bits
pub followed_means : {world : World} {limit : ℕ} (bits : List ℕ) (ty : PokeType) (order : Order) (levels : Levels)
    (s : ℕ) {k j k' j' : ℕ} {state state' : State} {r : Result Value FaultAt} → world.known ≡ Some bits →
    Follows world limit (plan (length bits) ty order levels s) k j state k' j' state' (Done r) →
    Somehow (Means bits ty order levels s r)
followed_means bits ty order levels s known h =
    let l = walk_leaves bits known h.walk in
    let e = rw h.ends.0 at l.result in
    let m = plan_means bits ty order levels s in
    record { steps = _; made = _; holds = rw e at m }

module _ (nodes : List Node) (space : SpaceView) (meter meter' : Meter) (store store' : Held) (at : ℕ) (order : Order)
    (s : ℕ) (whole : IsWhole space) where
  pub comes_mapped : (result : Result ℕ Stop) → Maps nodes space meter meter' store store' (as_type at order s) result →
      OnBits space (λ bits. Comes (Means bits (type_of nodes at) order (levels nodes store) s) (levels nodes store)
      (levels nodes store') result)
  comes_mapped (Ok end) h bytes e =
      let len = ap (λ n. 8 * n) (sym (whole bytes e)) ∙ sym (length-bits_of bytes) in
      let follows = rw len at h.follows in
      record {
        value = h.value;
        keeps = h.kept;
        ends = h.ends;
        means = followed_means (bits_of bytes) (type_of nodes at) order (levels nodes store) s
            (ap (option_map bits_of) e) follows;
      }
  comes_mapped (Err (Fault kind place)) h bytes e =
      let len = ap (λ n. 8 * n) (sym (whole bytes e)) ∙ sym (length-bits_of bytes) in
      let follows = rw len at h in
      followed_means (bits_of bytes) (type_of nodes at) order (levels nodes store) s (ap (option_map bits_of) e) follows
  comes_mapped (Err Limit) h bytes e = tt
  comes_mapped (Err Device) h bytes e = tt
  comes_mapped (Err Memory) h bytes e = tt

-- a clause that settled
pub settled : {A : Type 0} (limit before after steps : ℕ) (result : Result A Stop) (o : Result A FaultAt) →
    Settles limit before after result o steps → Settled result o
settled limit before after steps (Ok x) o h = h.0
settled limit before after steps (Err (Fault kind place)) o h = h.0
settled limit before after steps (Err Limit) o h = tt
settled limit before after steps (Err Device) o h = tt
settled limit before after steps (Err Memory) o h = tt

-- the frames around the innermost one, after a mapping
pub outer_mapped : (nodes : List Node) (space : SpaceView) (meter meter' : Meter) (store store' : Held)
    (planned : Planned Value) (result : Result ℕ Stop) → Maps nodes space meter meter' store store' planned result →
    OnErr result (levels nodes store' ≡ levels nodes store) →
    outer_of (levels nodes store') ≡ outer_of (levels nodes store)
outer_mapped nodes space meter meter' store store' planned (Ok end) h same =
    ap outer_of h.kept ∙ outer_pushed (levels nodes store) (Some h.value)
outer_mapped nodes space meter meter' store store' planned (Err stop) h same = ap outer_of same
