-- A mapping that returned `Memory`: some vector of its store had less capacity than the bound of its type.
use Rattle.std.proofs.Common.{◌≡◌, ℕ, zero, suc, ◌+◌, ◌-◌, ◌*◌, ◌<◌, ◌≤◌, ◌⊎◌, Bool, true, false, Ok, Err, inl, inr, refl, sym, ap, subst, ◌∙◌, arith}
use Rattle.std.specs.Prelude.{nat_eq, if◌then◌else◌}
use Rattle.std.proofs.lemmas.Bool.{cases_lt}
use Rattle.bit_space.specs.declared.order.Order.{Order}
use Rattle.bit_space.specs.SpaceView.{SpaceView}
use Rattle.pickle_types.specs.declared.table.Table.{Table}
use Rattle.pickle_types.specs.declared.table.TypeId.{TypeId}
use Rattle.pickle_types.specs.Bounds.{room}
use Rattle.pickle_types.specs.Types.{PokeType}
use Rattle.pickle_types.specs.TypeTable.{type_named}
use Rattle.pickle_meaning.specs.Values.{Levels, no_values}
use Rattle.mapping_plans.specs.Plan.{Plan, Ended, Tick, Made, Read}
use Rattle.mapping_plans.specs.Mapping.{plan}
use Rattle.mapping_plans.specs.Rows.{Apart}
use Rattle.mapping_plans.proofs.Stored.{Stores, Leaves, now_made}
use Rattle.pickle_map.specs.Framed.{world_of}
use Rattle.pickle_map.specs.Follows.{World, RefusesMove, NoRoom, NeedsRoom, Follows}
use Rattle.pickle_map.specs.Mapped.{fault_finish, prepared, RunsTo}
use Rattle.pickle_map.proofs.Added.{walk_stores}
use Rattle.pickle_map.proofs.Prepared.{packs_made}
use Rattle.value_store.specs.declared.store.room.Growth.{Growth}
use Rattle.value_store.specs.declared.store.room.Growth.TheVariants.{Free, Never, Within}
use Rattle.value_store.specs.declared.store.slots.Marks.{Marks}
use Rattle.value_store.specs.Moves.{Move, Opens, Drops, Clears, Places, Leaves as LeavesOut, Closes, Writes, Ends, Packs, ClosesRow, OpensRecords, PacksRecord, ClosesRecords, PacksStruct, PacksValue, ValueSize, TemplateSize, State, moved, needed, with_first_value, with_next_value, with_first_drafted}
use Rattle.value_store.specs.Promises.{least_capacity}
use Rattle.value_store.specs.Slots.{Held, packs_as, packs, innermost, root_marks}
use Rattle.value_store.specs.Weights.{weight, GrowsFreely, IsUnbounded, RejectsWeight}
use Rattle.value_store.proofs.Weights.{heavy-bound}
use Rattle.pickle_map.proofs.Weighed.{rejects_more}
use Rattle.value_store.specs.Takes.{Vector, NodesOf, FamiliesOf, LinksOf, PendingOf, TextsOf, BytesOf, of_vector}
use Rattle.value_store.proofs.Promises.{promised-all}
use Rattle.type_soundness.specs.Capacity.{capacity_bound, slot_takes}
use Rattle.type_soundness.specs.CapacityLaws.{MemoryLacksCapacity, bound_lengths}
use Rattle.type_soundness.proofs.InSlots.{unpacked_slots, bounds_in_slots}
use Rattle.type_soundness.proofs.Moving.{Added, moves_within}

-- lengths of each vector
abbrev lengths_of : (Vector → ℕ) → Marks
lengths_of most = record {
  nodes = most NodesOf;
  families = most FamiliesOf;
  links = most LinksOf;
  pending = most PendingOf;
  texts = most TextsOf;
  bytes = most BytesOf;
}

-- some vector has less capacity than so much, or so much weighs more than the store takes
abbrev Lacks : World → (Vector → ℕ) → Type 0
Lacks world most = ((vector : Vector) × (of_vector vector world.before < most vector))
    ⊎ RejectsWeight world.room (weight (lengths_of most))

-- what a move leaves weighs no more than what is stored on its way
value_weighs : (first : Bool) (size : ValueSize) (template : TemplateSize) (stride : ℕ) (n : Marks) →
    weight (if first then with_first_value template stride n else with_next_value size stride n)
    ≤ weight (if first then with_first_drafted template stride n
    else record n { bytes = (n.bytes - size.bytes) + stride })
value_weighs true size template stride n = omega arith
value_weighs false size template stride n = omega arith

needed_weighs : (packing : Bool) (move : Move) (state : State) →
    weight (moved packing move state).now ≤ weight (needed packing move state).now
needed_weighs packing Opens state = omega arith
needed_weighs packing Drops state = omega arith
needed_weighs packing Clears state = omega arith
needed_weighs packing Places state = omega arith
needed_weighs packing LeavesOut state = omega arith
needed_weighs packing Closes state = omega arith
needed_weighs packing Writes state = omega arith
needed_weighs packing Ends state = omega arith
needed_weighs packing (Packs width) state = omega arith
needed_weighs packing ClosesRow state = omega arith
needed_weighs packing OpensRecords state = omega arith
needed_weighs packing (PacksRecord count) state = omega arith
needed_weighs packing ClosesRecords state = omega arith
needed_weighs packing (PacksStruct stride) state = omega arith
needed_weighs true (PacksValue size template stride) state = value_weighs
    (nat_eq state.now.pending ((innermost state.frames).pending + 1)) size template stride state.now
needed_weighs false (PacksValue size template stride) state = omega arith

-- something that was to be stored didn't fit, though it takes at most so much
lacking : {A : Type 0} {Q : Vector → A → State → Type 0} (world : World) (most : Vector → ℕ) (q : Plan A)
    (state : State) → NeedsRoom world state q →
    ((vector : Vector) →
    Stores (packs world.room) Apart (λ now. of_vector vector now.now ≤ most vector) (Q vector) q state) →
    Lacks world most
lacking world most (Ended a) state h l = absurd h
lacking world most (Tick p) state h l = absurd h
lacking world most (Made count move levels p) state h l = lacks h.before
  where
    lacks : RefusesMove world move state → Lacks world most
    lacks (inl over) =
        let few = now_made (l over.0) in let lt = over.1 in inl (over.0, omega (arith, few, lt))
    lacks (inr heavy) = inr (rejects_more world.room.growth _ (weight (lengths_of most)) (omega (
      arith,
      needed_weighs (packs world.room) move state,
      now_made (l NodesOf),
      now_made (l FamiliesOf),
      now_made (l LinksOf),
      now_made (l PendingOf),
      now_made (l TextsOf),
      now_made (l BytesOf),
    )) heavy)
lacking world most (Read place width order rest) state h l = absurd h

module _ {world : World} {limit : ℕ} (m : ℕ) (ty : PokeType) (order : Order) (levels : Levels) (s : ℕ) {k j k' j' : ℕ}
    {state state' : State} where
  run_lacks : Follows world limit (plan m ty order levels s) k j state k' j' state' NoRoom →
      Lacks world (λ vector. of_vector vector state.now + capacity_bound (packs world.room) vector ty m)
  run_lacks h =
      lacking {Q = λ vector.
      Leaves (λ v. Added (packs world.room) vector (capacity_bound (packs world.room) vector ty m) state)
      (λ last. last ≡ state)} world
      (λ vector. of_vector vector state.now + capacity_bound (packs world.room) vector ty m) h.rest h.at h.ends
      (λ vector. walk_stores h.walk (moves_within (packs world.room) vector m ty order levels s state))

pub nothing : (vector : Vector) → of_vector vector root_marks ≡ 0
nothing NodesOf = refl
nothing FamiliesOf = refl
nothing LinksOf = refl
nothing PendingOf = refl
nothing TextsOf = refl
nothing BytesOf = refl

-- ---- stores that have capacity for the type's slots, and promise it

least_of : (capacity : Marks) (vector : Vector) → least_capacity capacity ≤ of_vector vector capacity
least_of capacity NodesOf = omega arith
least_of capacity FamiliesOf = omega arith
least_of capacity LinksOf = omega arith
least_of capacity PendingOf = omega arith
least_of capacity TextsOf = omega arith
least_of capacity BytesOf = omega arith

-- where enough slots for a type are promised, nothing is packed, or there are none: its bound is at most these slots
promised_bound : (table : Table) (id : TypeId) (growth : Growth) (slots m : ℕ) → GrowsFreely growth →
    room (type_named table id) m ≤ slots → (vector : Vector) →
    capacity_bound (packs_as growth slots) vector (type_named table id) m ≤ slots
promised_bound table id Never slots m free le vector =
    let few = unpacked_slots vector (type_named table id) m in omega (arith, few, le)
promised_bound table id Free zero m free le vector =
    let none : room (type_named table id) m ≡ 0 = omega (arith, le) in
    let few = subst (λ r. capacity_bound true vector (type_named table id) m ≤ slot_takes vector * r) none
    (bounds_in_slots table id true vector m) in
    omega (arith, few)
promised_bound table id Free (suc n) m free le vector =
    let few = unpacked_slots vector (type_named table id) m in omega (arith, few, le)
promised_bound table id (Within most) slots m free le vector = absurd free

module _ (table : Table) (id : TypeId) (space : SpaceView) (store : Held) where
  abbrev type_slots : ℕ
  type_slots = room (type_named table id) (8 * space.len)

  abbrev type_bound : (packing : Bool) → Vector → ℕ
  type_bound packing vector = capacity_bound packing vector (type_named table id) (8 * space.len)

  -- whether the store packs during the mapping
  abbrev packs_meanwhile : Bool
  packs_meanwhile = packs (prepared (type_named table id) space store).room

  -- a store with capacity for the type's slots has it for the bound
  enough_bound : IsUnbounded store.room → type_slots ≤ least_capacity store.capacity → (vector : Vector) →
      type_bound packs_meanwhile vector ≤ of_vector vector store.capacity
  enough_bound free le vector =
      let few = subst (λ slots. type_bound (packs_as store.room.growth slots) vector ≤ least_capacity store.capacity)
      (sym (promised-all type_slots store le))
      (promised_bound table id store.room.growth (least_capacity store.capacity) (8 * space.len) free le vector) in
      let low = least_of store.capacity vector in
      omega (arith, few, low)

  -- a store that lacks its bound during the mapping packs then as it does before, and so it lacks that bound too
  lacks_free : IsUnbounded store.room → (vector : Vector) →
      of_vector vector store.capacity < type_bound packs_meanwhile vector →
      of_vector vector store.capacity < type_bound (packs store.room) vector
  lacks_free free vector lt =
      elim (cases_lt (least_capacity store.capacity) type_slots) [
        | inl less ↦ subst (λ packing. of_vector vector store.capacity < type_bound packing vector)
            (packs_made (type_named table id) space store less) lt
        | inr enough ↦ let few = enough_bound free enough vector in absurd (omega (arith, few, lt))
      ]

  -- one whose weight is bounded packs during the mapping and before it
  bounded_packs : (most : ℕ) → store.room.growth ≡ Within most → packs_meanwhile ≡ packs store.room
  bounded_packs most e =
      ap (λ g. packs_as g (prepared (type_named table id) space store).room.least) e
      ∙ sym (ap (λ g. packs_as g store.room.least) e)

  lacks_before : (growth : Growth) → store.room.growth ≡ growth → (vector : Vector) →
      of_vector vector store.capacity < type_bound packs_meanwhile vector →
      of_vector vector store.capacity < type_bound (packs store.room) vector
  lacks_before Free e vector lt = lacks_free (subst GrowsFreely (sym e) tt) vector lt
  lacks_before Never e vector lt = lacks_free (subst GrowsFreely (sym e) tt) vector lt
  lacks_before (Within most) e vector lt =
      subst (λ packing. of_vector vector store.capacity < type_bound packing vector) (bounded_packs most e) lt

  heavy_before : (growth : Growth) → store.room.growth ≡ growth →
      RejectsWeight store.room (weight (bound_lengths packs_meanwhile (type_named table id) (8 * space.len))) →
      RejectsWeight store.room (weight (bound_lengths (packs store.room) (type_named table id) (8 * space.len)))
  heavy_before Free e heavy = absurd (heavy-bound store.room _ heavy (subst GrowsFreely (sym e) tt))
  heavy_before Never e heavy = absurd (heavy-bound store.room _ heavy (subst GrowsFreely (sym e) tt))
  heavy_before (Within most) e heavy =
      subst (λ packing. RejectsWeight store.room
      (weight (bound_lengths packing (type_named table id) (8 * space.len)))) (bounded_packs most e) heavy

pub memory_lacks : MemoryLacksCapacity
memory_lacks table id order start space meter meter' store store' (Ok u) h = tt
memory_lacks table id order start space meter meter' store store' (Err f) h = λ e.
    let run = subst (λ kind. RunsTo space meter meter' (prepared (type_named table id) space store) store'
    (plan (8 * space.len) (type_named table id) order no_values start) (fault_finish kind f.at)) e h in
    lacks (run_lacks (8 * space.len) (type_named table id) order no_values start run.follows)
  where
    bound : Vector → ℕ
    bound vector =
        capacity_bound (packs (prepared (type_named table id) space store).room) vector (type_named table id)
        (8 * space.len)

    lacks : Lacks (world_of space (prepared (type_named table id) space store) store')
        (λ vector. of_vector vector root_marks + bound vector) →
        ((vector : Vector) × (of_vector vector store.capacity
        < capacity_bound (packs store.room) vector (type_named table id) (8 * space.len)))
        ⊎ RejectsWeight store.room (weight (bound_lengths (packs store.room) (type_named table id) (8 * space.len)))
    lacks (inl over) =
        let none = nothing over.0 in
        let lt = over.1 in
        inl (over.0, lacks_before table id space store store.room.growth refl over.0 (omega (arith, none, lt)))
    lacks (inr heavy) =
        inr (heavy_before table id space store store.room.growth refl
        (rejects_more store.room.growth _ _ (omega arith) heavy))
