-- What the fault of a mapping says that followed its type's plan.
use Rattle.std.proofs.Common.{◌≡◌, ℕ, ◌+◌, ◌-◌, ◌*◌, ◌<◌, ◌≤◌, length, List, Some, Result, Err, refl, sym, ap, subst, ◌∙◌, arith}
use Rattle.bit_space.specs.declared.meter.Meter.{Meter}
use Rattle.bit_space.specs.declared.order.Order.{Order}
use Rattle.bit_space.specs.Bits.{bits_of}
use Rattle.bit_space.specs.SpaceView.{SpaceView, IsWhole}
use Rattle.bit_space.proofs.Digits.{length-bits_of}
use Rattle.pickle_types.specs.declared.node.Node.{Node}
use Rattle.value_store.specs.Slots.{Held, packs, levels, emptied}
use Rattle.value_store.specs.Moves.{State, IsWithin, no_state, state_of}
use Rattle.value_store.proofs.Held.{none-open}
use Rattle.pickle_types.specs.Types.{PokeType}
use Rattle.pickle_types.specs.Bounds.{cost, room}
use Rattle.pickle_meaning.specs.declared.faults.MapFaultKind.{MapFaultKind}
use Rattle.pickle_meaning.specs.declared.faults.MapFaultKind.TheVariants as fault
use Rattle.pickle_map.specs.declared.mapper.stop.Stop.{Stop}
use Rattle.pickle_map.specs.declared.mapper.stop.Stop.TheVariants.{Fault, Limit, Device, Memory}
use Rattle.pickle_meaning.specs.Answer.{Answer}
use Rattle.pickle_map.specs.FaultKinds.{IsMeant}
use Rattle.pickle_map.specs.Follows.{World, Finish, Done, HasRoom, Follows}
use Rattle.pickle_map.specs.Mapped.{fault_of, fault_finish, RunsTo, FaultMeans, UnlessBreaks, EndsRun}
use Rattle.mapping_plans.specs.Mapping.{plan}
use Rattle.pickle_map.specs.Stops.{stop_finish}
use Rattle.pickle_meaning.specs.Clauses.{FaultAt}
use Rattle.mapping_plans.specs.Plan.{Plan}
use Rattle.mapping_plans.specs.Kept.{KeepsBy}
use Rattle.pickle_meaning.specs.Values.{Value, no_values}
use Rattle.pickle_map.proofs.FaultKinds.{followed_kind}
use Rattle.value_store.specs.Weights.{IsUnbounded, TakesWeight}
use Rattle.pickle_map.specs.Weighed.{WeighsBy}
use Rattle.pickle_map.proofs.Weighed.{none_light}
use Rattle.pickle_map.proofs.Repeated.{room_when_done, room_when_limited, light_when_done, light_when_limited, no_room_before}
use Rattle.pickle_map.proofs.Followed.{followed_limit, followed_room, followed_result, followed_too_long, followed_part}

answered : (bits : List ℕ) (ty : PokeType) (order : Order) (s limit : ℕ) (kind : MapFaultKind) (at k j : ℕ) →
    IsMeant kind → Answer bits ty order s limit (Err (kind, at)) k j → FaultMeans bits ty order s limit kind at k j
answered bits ty order s limit fault.End at k j m a = a
answered bits ty order s limit fault.Constraint at k j m a = a
answered bits ty order s limit fault.Bounds at k j m a = a
answered bits ty order s limit fault.NoBits at k j m a = a
answered bits ty order s limit fault.Zero at k j m a = a
answered bits ty order s limit fault.Overflow at k j m a = a
answered bits ty order s limit fault.Absent at k j m a = a
answered bits ty order s limit fault.Index at k j m a = a
answered bits ty order s limit fault.Limit at k j m a = absurd m
answered bits ty order s limit fault.Device at k j m a = absurd m
answered bits ty order s limit fault.Memory at k j m a = absurd m

no_run : (kind : MapFaultKind) → IsMeant kind → EndsRun kind → ⊥
no_run fault.End m r = r
no_run fault.Constraint m r = r
no_run fault.Bounds m r = r
no_run fault.NoBits m r = r
no_run fault.Zero m r = r
no_run fault.Overflow m r = r
no_run fault.Absent m r = r
no_run fault.Index m r = r
no_run fault.Limit m r = m
no_run fault.Device m r = m
no_run fault.Memory m r = m

meant_counts : (space : SpaceView) (meter meter' : Meter) (store store' : Held) (p : Plan (Result Value FaultAt))
    (kind : MapFaultKind) (at : ℕ) → IsMeant kind → RunsTo space meter meter' store store' p (Done (Err (kind, at))) →
    RunsTo space meter meter' store store' p (fault_finish kind at)
meant_counts space meter meter' store store' p fault.End at m h = h
meant_counts space meter meter' store store' p fault.Constraint at m h = h
meant_counts space meter meter' store store' p fault.Bounds at m h = h
meant_counts space meter meter' store store' p fault.NoBits at m h = h
meant_counts space meter meter' store store' p fault.Zero at m h = h
meant_counts space meter meter' store store' p fault.Overflow at m h = h
meant_counts space meter meter' store store' p fault.Absent at m h = h
meant_counts space meter meter' store store' p fault.Index at m h = h
meant_counts space meter meter' store store' p fault.Limit at m h = absurd m
meant_counts space meter meter' store store' p fault.Device at m h = absurd m
meant_counts space meter meter' store store' p fault.Memory at m h = absurd m

module _ {world : World} {limit : ℕ} (m : ℕ) (ty : PokeType) (order : Order) (s : ℕ) {k j k' j' : ℕ}
    {state state' : State} where
  -- a fault that ends a run has the mapping's start as its place
  pub fault_of_there : (stop : Stop) →
      Follows world limit (plan m ty order no_values s) k j state k' j' state' (stop_finish stop) →
      EndsRun (fault_of stop s).kind → (fault_of stop s).at ≡ s
  fault_of_there (Fault kind place) h r = absurd (no_run kind (followed_kind m ty order no_values s h) r)
  fault_of_there Limit h r = refl
  fault_of_there Device h r = refl
  fault_of_there Memory h r = refl

  -- a limit that was reached is less than the bound
  pub fault_of_limit : (stop : Stop) →
      Follows world limit (plan m ty order no_values s) k j state k' j' state' (stop_finish stop) →
      (fault_of stop s).kind ≡ fault.Limit → (k' ≡ limit) × (limit < k + cost ty m)
  fault_of_limit (Fault kind place) h e = absurd (no_run kind (followed_kind m ty order no_values s h) (rw e tt))
  fault_of_limit Limit h e = followed_limit m ty order no_values s h
  fault_of_limit Device h e = cc
  fault_of_limit Memory h e = cc

  -- a request for capacity fails only where there is less than the type's bound
  pub fault_of_memory : (stop : Stop) →
      Follows world limit (plan m ty order no_values s) k j state k' j' state' (stop_finish stop) →
      (fault_of stop s).kind ≡ fault.Memory → IsUnbounded world.room → world.room.least < room ty m
  fault_of_memory (Fault kind place) h e = absurd (no_run kind (followed_kind m ty order no_values s h) (rw e tt))
  fault_of_memory Limit h e = cc
  fault_of_memory Device h e = cc
  fault_of_memory Memory h e =
      λ free. let f = followed_room m ty order no_values s h free in
      let less : world.room.least < 0 + 0 + room ty m = f.1 in omega (arith, less)

  pub fault_of_device : (stop : Stop) →
      Follows world limit (plan m ty order no_values s) k j state k' j' state' (stop_finish stop) →
      (fault_of stop s).kind ≡ fault.Device → stop ≡ Device
  fault_of_device (Fault kind place) h e = absurd (no_run kind (followed_kind m ty order no_values s h) (rw e tt))
  fault_of_device Limit h e = cc
  fault_of_device Device h e = refl
  fault_of_device Memory h e = cc

-- the run along the plan, to the fault
module _ (m : ℕ) (ty : PokeType) (order : Order) (s : ℕ) (space : SpaceView) (meter meter' : Meter)
    (store store' : Held) where
  pub fault_of_counts : (stop : Stop) →
      RunsTo space meter meter' store store' (plan m ty order no_values s) (stop_finish stop) →
      RunsTo space meter meter' store store' (plan m ty order no_values s)
      (fault_finish (fault_of stop s).kind (fault_of stop s).at)
  fault_of_counts (Fault kind place) h =
      meant_counts space meter meter' store store' _ kind place (followed_kind m ty order no_values s h.follows) h
  fault_of_counts Limit h = h
  fault_of_counts Device h = h
  fault_of_counts Memory h = h

module _ {world : World} {limit : ℕ} (bits : List ℕ) (ty : PokeType) (order : Order) (s : ℕ) {k j k' j' : ℕ}
    {state state' : State} (known : world.known ≡ Some bits) (within : k' ≤ limit) where
  pub fault_of_means : (stop : Stop) →
      Follows world limit (plan (length bits) ty order no_values s) k j state k' j' state' (stop_finish stop) →
      FaultMeans bits ty order s (limit - k) (fault_of stop s).kind (fault_of stop s).at (k' - k) (j' - j)
  fault_of_means (Fault kind place) h = answered bits ty order s (limit - k) kind place (k' - k) (j' - j)
      (followed_kind (length bits) ty order no_values s h) (followed_result bits ty order s known within h)
  fault_of_means Limit h = followed_too_long bits ty order s known within h
  fault_of_means Device h = followed_part bits ty order s known within h
  fault_of_means Memory h = followed_part bits ty order s known within h

-- a fact about a fault, whatever its kind
unless : (kind : MapFaultKind) {P : Type 0} → P → UnlessBreaks kind P
unless fault.End h = h
unless fault.Constraint h = h
unless fault.Bounds h = h
unless fault.NoBits h = h
unless fault.Zero h = h
unless fault.Overflow h = h
unless fault.Absent h = h
unless fault.Index h = h
unless fault.Limit h = h
unless fault.Device h = tt
unless fault.Memory h = tt

-- what was stored, and that no more fitted
module _ {world : World} {limit : ℕ} (bits : List ℕ) (m : ℕ) (ty : PokeType) (order : Order) (s : ℕ) {k j k' j' : ℕ}
    {state' : State} (known : world.known ≡ Some bits) where
  pub done_kept : {r : Result Value FaultAt} →
      Follows world limit (plan m ty order no_values s) k j no_state k' j' state' (Done r) →
      KeepsBy (HasRoom world) (packs world.room) bits (plan m ty order no_values s) (limit - k) no_state
  done_kept h = room_when_done bits limit known h

  pub done_light : {r : Result Value FaultAt} →
      Follows world limit (plan m ty order no_values s) k j no_state k' j' state' (Done r) →
      WeighsBy (TakesWeight world.room) (packs world.room) bits (plan m ty order no_values s) (limit - k) no_state
  done_light h = light_when_done bits limit known h

  pub fault_of_light : (stop : Stop) →
      Follows world limit (plan m ty order no_values s) k j no_state k' j' state' (stop_finish stop) →
      UnlessBreaks (fault_of stop s).kind
      (WeighsBy (TakesWeight world.room) (packs world.room) bits (plan m ty order no_values s) (limit - k) no_state)
  fault_of_light (Fault kind place) h = unless kind (done_light h)
  fault_of_light Limit h = light_when_limited bits limit known h
  fault_of_light Device h = tt
  fault_of_light Memory h = tt

  pub fault_of_kept : (stop : Stop) →
      Follows world limit (plan m ty order no_values s) k j no_state k' j' state' (stop_finish stop) →
      UnlessBreaks (fault_of stop s).kind
      (KeepsBy (HasRoom world) (packs world.room) bits (plan m ty order no_values s) (limit - k) no_state)
  fault_of_kept (Fault kind place) h = unless kind (done_kept h)
  fault_of_kept Limit h = room_when_limited bits limit known h
  fault_of_kept Device h = tt
  fault_of_kept Memory h = tt

  pub fault_of_wanted : k' ≤ limit → (stop : Stop) →
      Follows world limit (plan m ty order no_values s) k j no_state k' j' state' (stop_finish stop) →
      (fault_of stop s).kind ≡ fault.Memory →
      KeepsBy (λ now. IsWithin now world.before) (packs world.room) bits (plan m ty order no_values s)
      (limit - k) no_state →
      WeighsBy (TakesWeight world.room) (packs world.room) bits (plan m ty order no_values s) (limit - k) no_state → ⊥
  fault_of_wanted within (Fault kind place) h e =
      absurd (no_run kind (followed_kind m ty order no_values s h) (rw e tt))
  fault_of_wanted within Limit h e = cc
  fault_of_wanted within Device h e = cc
  fault_of_wanted within Memory h e = no_room_before bits limit known within (none_light world.room) h

-- an empty store has no values
pub none_kept : (nodes : List Node) (store : Held) → store ≡ emptied store → levels nodes store ≡ no_values
none_kept nodes store e = ap (levels nodes) e ∙ none-open nodes store.room store.capacity

-- and so nothing is stored
pub none_stored : (store : Held) → store ≡ emptied store → state_of store ≡ no_state
none_stored store e = ap state_of e

pub from_none : {world : World} {limit : ℕ} {p : Plan (Result Value FaultAt)} {k j k' j' : ℕ} {state state' : State}
    {finish : Finish (Result Value FaultAt)} → state ≡ no_state → Follows world limit p k j state k' j' state' finish →
    Follows world limit p k j no_state k' j' state' finish
from_none {world} {limit} {p} {k} {j} {k'} {j'} {state'} {finish} e h =
    subst (λ first. Follows world limit p k j first k' j' state' finish) e h

-- a plan on as many bits as known bytes have
pub in_bits : {A : Type 0} (P : ℕ → A → Type 0) (a : A) (space : SpaceView) (bytes : List ℕ) → IsWhole space →
    space.bytes ≡ Some bytes → P (8 * space.len) a → P (length (bits_of bytes)) a
in_bits P a space bytes whole e h =
    subst (λ m. P m a) (ap (λ n. 8 * n) (sym (whole bytes e)) ∙ sym (length-bits_of bytes)) h
