-- What calls that followed a plan stored, and that the same again fits.
use Rattle.std.proofs.Common.{◌≡◌, ℕ, zero, suc, ◌+◌, ◌-◌, ◌*◌, ◌<◌, ◌≤◌, ◌⊎◌, true, Bool, List, Some, Result, Ok, Err, inl, inr, refl, sym, ap, subst, ◌∙◌, arith}
use Rattle.std.specs.Prelude.{IfErr}
use Rattle.std.proofs.lemmas.Bool.{cases_lt}
use Rattle.bit_space.specs.Bits.{bits_of}
use Rattle.pickle_meaning.specs.declared.faults.MapFault.{MapFault}
use Rattle.pickle_meaning.specs.declared.faults.MapFaultKind.{MapFaultKind}
use Rattle.pickle_meaning.specs.declared.faults.MapFaultKind.TheVariants as fault
use Rattle.pickle_meaning.specs.Values.{no_values}
use Rattle.mapping_plans.specs.Plan.{Plan, Ended, Tick, Made, Read}
use Rattle.mapping_plans.specs.Mapping.{plan}
use Rattle.mapping_plans.specs.Kept.{KeepsBy}
use Rattle.mapping_plans.proofs.Kept.{keeps_less}
use Rattle.pickle_map.specs.Follows.{World, HasRoom, RefusesMove, after_move, during_move, Walk, arrived, stepped, kept, read, Done, NoSteps, NoRoom, NeedsStep, NeedsRoom, Follows}
use Rattle.pickle_map.specs.Mapped.{HasRoomFor, IsLightFor, UnlessBreaks, UnlessBroken, prepared}
use Rattle.pickle_map.specs.Repeated.{OneMapping, IsUnbroken, IsAgain, WantsNoMore}
use Rattle.pickle_map.proofs.Prepared.{kept_more, least_more, packs_made}
use Rattle.bit_space.specs.declared.order.Order.{Order}
use Rattle.pickle_types.specs.Bounds.{room as room_of}
use Rattle.pickle_types.specs.Types.{PokeType}
use Rattle.value_store.specs.Promises.{least_capacity}
use Rattle.value_store.specs.Slots.{packs_as, packs}
use Rattle.value_store.specs.Moves.{State, IsWithin, moved, no_state}
use Rattle.pickle_map.proofs.Followed.{walk_rises}
use Rattle.pickle_meaning.specs.Numbers.{number_at}
use Rattle.value_store.specs.declared.store.room.Growth.{Growth}
use Rattle.value_store.specs.declared.store.room.Growth.TheVariants.{Free, Never, Within}
use Rattle.value_store.specs.Weights.{GrowsFreely, IsUnbounded, Allows, TakesWeight}
use Rattle.pickle_map.specs.Weighed.{WeighsBy}
use Rattle.pickle_map.proofs.Weighed.{AreLight, free_light, walk_light, heavy_adds}
use Rattle.pickle_map.proofs.Worlds.{within_more, not_within}

-- ---- along a walk over known bits

-- within one step less
tick_kept : {A : Type 0} (M : State → Type 0) (packing : Bool) (bits : List ℕ) (p : Plan A) (n m : ℕ) (state : State) →
    m ≡ n - 1 → KeepsBy M packing bits p m state → KeepsBy M packing bits (Tick p) n state
tick_kept M packing bits p zero m state e h = tt
tick_kept M packing bits p (suc n) m state e h =
    subst (λ x. KeepsBy M packing bits p x state) (let same : m ≡ n = omega (arith, e) in same) h

kept_tick : {A : Type 0} (M : State → Type 0) (packing : Bool) (bits : List ℕ) (p : Plan A) (n m : ℕ) (state : State) →
    n ≡ m + 1 → KeepsBy M packing bits (Tick p) n state → KeepsBy M packing bits p m state
kept_tick M packing bits p zero m state e h = absurd (omega (arith, e))
kept_tick M packing bits p (suc n) m state e h =
    subst (λ x. KeepsBy M packing bits p x state) (let same : n ≡ m = omega (arith, e) in same) h

-- the same of weights
tick_weighs : {A : Type 0} (M : ℕ → Type 0) (packing : Bool) (bits : List ℕ) (p : Plan A) (n m : ℕ) (state : State) →
    m ≡ n - 1 → WeighsBy M packing bits p m state → WeighsBy M packing bits (Tick p) n state
tick_weighs M packing bits p zero m state e h = tt
tick_weighs M packing bits p (suc n) m state e h =
    subst (λ x. WeighsBy M packing bits p x state) (let same : m ≡ n = omega (arith, e) in same) h

weighs_tick : {A : Type 0} (M : ℕ → Type 0) (packing : Bool) (bits : List ℕ) (p : Plan A) (n m : ℕ) (state : State) →
    n ≡ m + 1 → WeighsBy M packing bits (Tick p) n state → WeighsBy M packing bits p m state
weighs_tick M packing bits p zero m state e h = absurd (omega (arith, e))
weighs_tick M packing bits p (suc n) m state e h =
    subst (λ x. WeighsBy M packing bits p x state) (let same : n ≡ m = omega (arith, e) in same) h

weighs_less : {A : Type 0} (M : ℕ → Type 0) (packing : Bool) (bits : List ℕ) (p : Plan A) (n m : ℕ) (state : State) →
    m ≤ n → WeighsBy M packing bits p n state → WeighsBy M packing bits p m state
weighs_less M packing bits (Ended a) n m state le h = tt
weighs_less M packing bits (Tick p) n zero state le h = tt
weighs_less M packing bits (Tick p) zero (suc m) state le h = absurd (omega (arith, le))
weighs_less M packing bits (Tick p) (suc n) (suc m) state le h =
    weighs_less M packing bits p n m state (omega (arith, le)) h
weighs_less M packing bits (Made count move levels p) n m state le h =
    (h.0, weighs_less M packing bits p n m (moved packing move state) le h.1)
weighs_less M packing bits (Read place width order rest) n m state le h =
    weighs_less M packing bits (rest (number_at bits order place width)) n m state le h

no_weight_left : {A : Type 0} (M : ℕ → Type 0) (packing : Bool) (bits : List ℕ) (q : Plan A) (n : ℕ) (state : State) →
    NeedsStep q → n ≡ 0 → WeighsBy M packing bits q n state
no_weight_left M packing bits (Ended a) n state h e = absurd h
no_weight_left M packing bits (Tick p) zero state h e = tt
no_weight_left M packing bits (Tick p) (suc n) state h e = absurd (omega (arith, e))
no_weight_left M packing bits (Made count move these p) n state h e = absurd h
no_weight_left M packing bits (Read place width order rest) n state h e = absurd h

no_step_left : {A : Type 0} (M : State → Type 0) (packing : Bool) (bits : List ℕ) (q : Plan A) (n : ℕ) (state : State) →
    NeedsStep q → n ≡ 0 → KeepsBy M packing bits q n state
no_step_left M packing bits (Ended a) n state h e = absurd h
no_step_left M packing bits (Tick p) zero state h e = tt
no_step_left M packing bits (Tick p) (suc n) state h e = absurd (omega (arith, e))
no_step_left M packing bits (Made count move these p) n state h e = absurd h
no_step_left M packing bits (Read place width order rest) n state h e = absurd h

no_room_left : {A : Type 0} (world : World) (bits : List ℕ) (q : Plan A) (n : ℕ) (state : State) →
    AreLight world.room state → NeedsRoom world state q →
    KeepsBy (λ now. IsWithin now world.before) (packs world.room) bits q n state →
    WeighsBy (TakesWeight world.room) (packs world.room) bits q n state → ⊥
no_room_left world bits (Ended a) n state are h g w = absurd h
no_room_left world bits (Tick p) n state are h g w = absurd h
no_room_left world bits (Made count move these p) n state are h g w = refused h.before
  where
    refused : RefusesMove world move state → ⊥
    refused (inl over) = not_within (during_move world move state) world.before over g.0
    refused (inr heavy) = heavy_adds world.room move state (after_move world move state) are h.takes heavy w.0
no_room_left world bits (Read place width order rest) n state are h g w = absurd h

module _ {world : World} (bits : List ℕ) (limit : ℕ) (known : world.known ≡ Some bits) {A : Type 0} where
  -- all that was stored on the way fitted
  walk_has_room : {q : Plan A} {k' j' : ℕ} {last : State} {p : Plan A} {k j : ℕ} {state : State} →
      Walk world q k' j' last p k j state → KeepsBy (HasRoom world) (packs world.room) bits q (limit - k') last →
      KeepsBy (HasRoom world) (packs world.room) bits p (limit - k) state
  walk_has_room arrived h = h
  walk_has_room (stepped {p} {k} {state} w) h = tick_kept (HasRoom world) (packs world.room) bits p
      (limit - k) (limit - (k + 1)) state (omega arith) (walk_has_room w h)
  walk_has_room (kept has w) h = (has.room, walk_has_room w h)
  walk_has_room (read {ps} {k} {state} n m w) h =
      subst (λ x. KeepsBy (HasRoom world) (packs world.room) bits (ps x) (limit - k) state)
      (m.exact bits known) (walk_has_room w h)

  -- and weighed no more than the store takes
  walk_weighs : {q : Plan A} {k' j' : ℕ} {last : State} {p : Plan A} {k j : ℕ} {state : State} →
      Walk world q k' j' last p k j state →
      WeighsBy (TakesWeight world.room) (packs world.room) bits q (limit - k') last →
      WeighsBy (TakesWeight world.room) (packs world.room) bits p (limit - k) state
  walk_weighs arrived h = h
  walk_weighs (stepped {p} {k} {state} w) h = tick_weighs (TakesWeight world.room) (packs world.room) bits p
      (limit - k) (limit - (k + 1)) state (omega arith) (walk_weighs w h)
  walk_weighs (kept has w) h = (has.light, walk_weighs w h)
  walk_weighs (read {ps} {k} {state} n m w) h =
      subst (λ x. WeighsBy (TakesWeight world.room) (packs world.room) bits (ps x) (limit - k) state)
      (m.exact bits known) (walk_weighs w h)

  -- what holds of all that is stored, holds at the end of the way too
  walk_still : (M : State → Type 0) {q : Plan A} {k' j' : ℕ} {last : State} {p : Plan A} {k j : ℕ} {state : State} →
      k' ≤ limit → Walk world q k' j' last p k j state → KeepsBy M (packs world.room) bits p (limit - k) state →
      KeepsBy M (packs world.room) bits q (limit - k') last
  walk_still M within arrived h = h
  walk_still M within (stepped {p} {k} {state} w) h =
      let up = (walk_rises w).0 in
      walk_still M within w (kept_tick M (packs world.room) bits p (limit - k) (limit - (k + 1)) state (omega arith) h)
  walk_still M within (kept has w) h = walk_still M within w h.1
  walk_still M within (read {ps} {k} {state} n m w) h = walk_still M within w
      (subst (λ x. KeepsBy M (packs world.room) bits (ps x) (limit - k) state) (sym (m.exact bits known)) h)

  weighs_still : (M : ℕ → Type 0) {q : Plan A} {k' j' : ℕ} {last : State} {p : Plan A} {k j : ℕ} {state : State} →
      k' ≤ limit → Walk world q k' j' last p k j state → WeighsBy M (packs world.room) bits p (limit - k) state →
      WeighsBy M (packs world.room) bits q (limit - k') last
  weighs_still M within arrived h = h
  weighs_still M within (stepped {p} {k} {state} w) h =
      let up = (walk_rises w).0 in
      weighs_still M within w
      (weighs_tick M (packs world.room) bits p (limit - k) (limit - (k + 1)) state (omega arith) h)
  weighs_still M within (kept has w) h = weighs_still M within w h.1
  weighs_still M within (read {ps} {k} {state} n m w) h = weighs_still M within w
      (subst (λ x. WeighsBy M (packs world.room) bits (ps x) (limit - k) state) (sym (m.exact bits known)) h)

  -- ---- consequences for a call that followed a plan

  pub room_when_done : {p : Plan A} {k j k' j' : ℕ} {state state' : State} {a : A} →
      Follows world limit p k j state k' j' state' (Done a) →
      KeepsBy (HasRoom world) (packs world.room) bits p (limit - k) state
  room_when_done {k'} h = walk_has_room h.walk
      (subst (λ q. KeepsBy (HasRoom world) (packs world.room) bits q (limit - k') h.at) (sym h.ends.0) tt)

  pub room_when_limited : {p : Plan A} {k j k' j' : ℕ} {state state' : State} →
      Follows world limit p k j state k' j' state' NoSteps →
      KeepsBy (HasRoom world) (packs world.room) bits p (limit - k) state
  room_when_limited {k'} h =
      let e = h.ends.1 in
      walk_has_room h.walk
      (no_step_left (HasRoom world) (packs world.room) bits h.rest (limit - k') h.at h.ends.0 (omega arith))

  pub light_when_done : {p : Plan A} {k j k' j' : ℕ} {state state' : State} {a : A} →
      Follows world limit p k j state k' j' state' (Done a) →
      WeighsBy (TakesWeight world.room) (packs world.room) bits p (limit - k) state
  light_when_done {k'} h = walk_weighs h.walk
      (subst (λ q. WeighsBy (TakesWeight world.room) (packs world.room) bits q (limit - k') h.at) (sym h.ends.0) tt)

  pub light_when_limited : {p : Plan A} {k j k' j' : ℕ} {state state' : State} →
      Follows world limit p k j state k' j' state' NoSteps →
      WeighsBy (TakesWeight world.room) (packs world.room) bits p (limit - k) state
  light_when_limited {k'} h =
      let e = h.ends.1 in
      walk_weighs h.walk (no_weight_left (TakesWeight world.room) (packs world.room) bits h.rest (limit - k') h.at
      h.ends.0 (omega arith))

  pub no_room_before : {p : Plan A} {k j k' j' : ℕ} {state state' : State} → k' ≤ limit → AreLight world.room state →
      Follows world limit p k j state k' j' state' NoRoom →
      KeepsBy (λ now. IsWithin now world.before) (packs world.room) bits p (limit - k) state →
      WeighsBy (TakesWeight world.room) (packs world.room) bits p (limit - k) state → ⊥
  no_room_before {k'} within are h g w = no_room_left world bits h.rest (limit - k') h.at (walk_light h.walk are)
      h.ends (walk_still (λ now. IsWithin now world.before) within h.walk g)
      (weighs_still (TakesWeight world.room) within h.walk w)

-- ---- the same mapping again

unbroken_kind : (kind : MapFaultKind) (P : Type 0) → (kind ≡ fault.Device → ⊥) → (kind ≡ fault.Memory → ⊥) →
    UnlessBreaks kind P → P
unbroken_kind fault.End P device memory h = h
unbroken_kind fault.Constraint P device memory h = h
unbroken_kind fault.Bounds P device memory h = h
unbroken_kind fault.NoBits P device memory h = h
unbroken_kind fault.Zero P device memory h = h
unbroken_kind fault.Overflow P device memory h = h
unbroken_kind fault.Absent P device memory h = h
unbroken_kind fault.Index P device memory h = h
unbroken_kind fault.Limit P device memory h = h
unbroken_kind fault.Device P device memory h = absurd (device refl)
unbroken_kind fault.Memory P device memory h = absurd (memory refl)

unbroken : (result : Result (Unit {0}) MapFault) (P : Type 0) → IfErr result (λ f. f.kind ≡ fault.Device → ⊥) →
    IfErr result (λ f. f.kind ≡ fault.Memory → ⊥) → UnlessBroken result P → P
unbroken (Ok u) P device memory h = h
unbroken (Err f) P device memory h = unbroken_kind f.kind P device memory h

not_wanted : (result : Result (Unit {0}) MapFault) (P Q : Type 0) →
    IfErr result (λ f. f.kind ≡ fault.Memory → P → Q → ⊥) → P → Q → IfErr result (λ f. f.kind ≡ fault.Memory → ⊥)
not_wanted (Ok u) P Q wanted h g = tt
not_wanted (Err f) P Q wanted h g = λ e. wanted e h g

not_lacking : (result : Result (Unit {0}) MapFault) (capacity bound : ℕ) (P : Type 0) → P → bound ≤ capacity →
    IfErr result (λ f. f.kind ≡ fault.Memory → P → capacity < bound) → IfErr result (λ f. f.kind ≡ fault.Memory → ⊥)
not_lacking (Ok u) capacity bound P h le lacks = tt
not_lacking (Err f) capacity bound P h le lacks = λ e. let lt = lacks e h in omega (arith, le, lt)

-- neither store has capacity for the bound, and so both are as they were
packs_again : (type : PokeType) (order : Order) (start : ℕ) (first second : OneMapping type order start) →
    (again : IsAgain first second) → least_capacity second.store.capacity < room_of type (8 * second.space.len) →
    packs (prepared type second.space second.store).room ≡ packs (prepared type first.space first.store).room
packs_again type order start first second again lt =
    let more : least_capacity first.store.capacity ≤ least_capacity second.store.capacity =
    least_more _ _ (λ vector. kept_more first.store first.store' vector first.mapped.room (again.room vector)) in
    let bound : room_of type (8 * second.space.len) ≡ room_of type (8 * first.space.len) =
    ap (λ len. room_of type (8 * len)) again.len in
    packs_made type second.space second.store lt ∙ again.packing
    ∙ sym (packs_made type first.space first.store (omega (arith, more, bound, lt)))

-- the values weigh as much, within no more steps
light_alike : (type : PokeType) (order : Order) (start : ℕ) (first second : OneMapping type order start) →
    IsUnbroken first.result → (again : IsAgain first second) →
    packs (prepared type second.space second.store).room ≡ packs (prepared type first.space first.store).room →
    second.store.room.growth ≡ first.store.room.growth →
    IsLightFor (prepared type second.space second.store).room type order start second.space second.meter again.bytes
light_alike type order start first second whole again packing same =
    let bits = bits_of again.bytes in
    let room = (prepared type first.space first.store).room in
    let room' = (prepared type second.space second.store).room in
    let then : IsLightFor room type order start first.space first.meter again.bytes =
    unbroken first.result (IsLightFor room type order start first.space first.meter again.bytes)
    whole.device whole.memory (first.mapped.weighed again.bytes again.known) in
    let less = weighs_less (TakesWeight room) (packs room) bits (plan (8 * first.space.len) type order no_values start)
    (first.meter.limit - first.meter.steps) (second.meter.limit - second.meter.steps) no_state again.steps then in
    let less = subst (λ b. WeighsBy (TakesWeight room) b bits
    (plan (8 * first.space.len) type order no_values start) (second.meter.limit - second.meter.steps) no_state)
    (sym packing) less in
    let now = subst (λ growth. WeighsBy (Allows growth) (packs room') bits
    (plan (8 * first.space.len) type order no_values start) (second.meter.limit - second.meter.steps) no_state)
    (sym same) less in
    subst (λ n. WeighsBy (TakesWeight room') (packs room') bits
    (plan (8 * n) type order no_values start) (second.meter.limit - second.meter.steps) no_state) (sym again.len) now

light_again : (type : PokeType) (order : Order) (start : ℕ) (first second : OneMapping type order start) →
    IsUnbroken first.result → (again : IsAgain first second) →
    packs (prepared type second.space second.store).room ≡ packs (prepared type first.space first.store).room →
    IsLightFor (prepared type second.space second.store).room type order start second.space second.meter again.bytes
light_again type order start first second whole again packing = light again.weight
  where
    light : IsUnbounded second.store.room ⊎ (second.store.room.growth ≡ first.store.room.growth) →
        IsLightFor (prepared type second.space second.store).room type order start second.space second.meter again.bytes
    light (inl free) =
        free_light (prepared type second.space second.store).room free
        (packs (prepared type second.space second.store).room)
        (bits_of again.bytes) (plan (8 * second.space.len) type order no_values start)
        (second.meter.limit - second.meter.steps) no_state
    light (inr same) = light_alike type order start first second whole again packing same

wants_no_more_capacity : (type : PokeType) (order : Order) (start : ℕ) (first second : OneMapping type order start) →
    IsUnbroken first.result → (again : IsAgain first second) →
    packs (prepared type second.space second.store).room ≡ packs (prepared type first.space first.store).room →
    IfErr second.result (λ f. f.kind ≡ fault.Memory → ⊥)
wants_no_more_capacity type order start first second whole again packing =
    let bits = bits_of again.bytes in
    let room = (prepared type first.space first.store).room in
    let room' = (prepared type second.space second.store).room in
    let then : HasRoomFor room first.store'.capacity type order start first.space first.meter again.bytes =
    unbroken first.result (HasRoomFor room first.store'.capacity type order start first.space first.meter again.bytes)
    whole.device whole.memory (first.mapped.kept again.bytes again.known) in
    let less =
    keeps_less (λ state. IsWithin state first.store'.capacity) (λ state. IsWithin state second.store.capacity)
    (λ state. within_more state first.store'.capacity second.store.capacity again.room) (packs room)
    bits (plan (8 * first.space.len) type order no_values start)
    (first.meter.limit - first.meter.steps) (second.meter.limit - second.meter.steps) no_state again.steps then in
    let less = subst (λ b. KeepsBy (λ state. IsWithin state second.store.capacity) b bits
    (plan (8 * first.space.len) type order no_values start) (second.meter.limit - second.meter.steps) no_state)
    (sym packing) less in
    let now : HasRoomFor room' second.store.capacity type order start second.space second.meter again.bytes =
    subst (λ n. KeepsBy (λ state. IsWithin state second.store.capacity) (packs room') bits
    (plan (8 * n) type order no_values start) (second.meter.limit - second.meter.steps) no_state)
    (sym again.len) less in
    not_wanted second.result
    (HasRoomFor room' second.store.capacity type order start second.space second.meter again.bytes)
    (IsLightFor room' type order start second.space second.meter again.bytes)
    (second.mapped.asked again.bytes again.same) now (light_again type order start first second whole again packing)

-- a store that has the capacity, and bounds the weight as the first one does
enough_alike : (type : PokeType) (order : Order) (start : ℕ) (first second : OneMapping type order start) →
    IsUnbroken first.result → (again : IsAgain first second) →
    room_of type (8 * second.space.len) ≤ least_capacity second.store.capacity →
    second.store.room.growth ≡ first.store.room.growth → (growth : Growth) → second.store.room.growth ≡ growth →
    IfErr second.result (λ f. f.kind ≡ fault.Memory → ⊥)
enough_alike type order start first second whole again enough same Free is =
    not_lacking second.result (least_capacity second.store.capacity) (room_of type (8 * second.space.len))
    (IsUnbounded second.store.room) (subst GrowsFreely (sym is) tt) enough second.mapped.memory
enough_alike type order start first second whole again enough same Never is =
    not_lacking second.result (least_capacity second.store.capacity) (room_of type (8 * second.space.len))
    (IsUnbounded second.store.room) (subst GrowsFreely (sym is) tt) enough second.mapped.memory
enough_alike type order start first second whole again enough same (Within most) is =
    let bounded : packs (prepared type second.space second.store).room ≡ true =
    ap (λ g. packs_as g (prepared type second.space second.store).room.least) is in
    let before : packs (prepared type first.space first.store).room ≡ true =
    ap (λ g. packs_as g (prepared type first.space first.store).room.least) (sym same ∙ is) in
    wants_no_more_capacity type order start first second whole again (bounded ∙ sym before)

enough_again : (type : PokeType) (order : Order) (start : ℕ) (first second : OneMapping type order start) →
    IsUnbroken first.result → (again : IsAgain first second) →
    room_of type (8 * second.space.len) ≤ least_capacity second.store.capacity →
    IsUnbounded second.store.room ⊎ (second.store.room.growth ≡ first.store.room.growth) →
    IfErr second.result (λ f. f.kind ≡ fault.Memory → ⊥)
enough_again type order start first second whole again enough (inl free) =
    not_lacking second.result (least_capacity second.store.capacity) (room_of type (8 * second.space.len))
    (IsUnbounded second.store.room) free enough second.mapped.memory
enough_again type order start first second whole again enough (inr same) =
    enough_alike type order start first second whole again enough same second.store.room.growth refl

pub wants_no_more : WantsNoMore
wants_no_more type order start first second whole again =
    elim (cases_lt (least_capacity second.store.capacity) (room_of type (8 * second.space.len))) [
      | inl lt ↦ wants_no_more_capacity type order start first second whole again
          (packs_again type order start first second again lt)
      | inr enough ↦ enough_again type order start first second whole again enough again.weight
    ]
