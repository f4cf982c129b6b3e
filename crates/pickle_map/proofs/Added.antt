-- What a call that followed a plan has stored at its end, by what holds of the plan whatever it reads.
use Rattle.std.proofs.Common.{◌≡◌, ℕ, true, Ok, sym, subst}
use Rattle.bit_space.specs.declared.order.Order.{Order}
use Rattle.pickle_types.specs.Types.{PokeType}
use Rattle.pickle_meaning.specs.Values.{Value, Levels}
use Rattle.mapping_plans.specs.Mapping.{plan}
use Rattle.mapping_plans.specs.Plan.{Plan}
use Rattle.mapping_plans.specs.Rows.{Apart, Values, row_of}
use Rattle.mapping_plans.proofs.Adding.{Any, IsAdded, element_adding}
use Rattle.mapping_plans.proofs.Stored.{Stores, Leaves, past_end, past_tick, past_made, past_read}
use Rattle.pickle_map.specs.Follows.{World, Walk, arrived, stepped, kept, read, Done, Follows}
use Rattle.value_store.specs.Moves.{State}
use Rattle.value_store.specs.Slots.{packs}

-- it holds along a walk
pub walk_stores : {world : World} {A : Type 0} {M : State → Type 0} {Q : A → State → Type 0} {q : Plan A} {k' j' : ℕ}
    {last : State} {p : Plan A} {k j : ℕ} {state : State} → Walk world q k' j' last p k j state →
    Stores (packs world.room) Apart M Q p state → Stores (packs world.room) Apart M Q q last
walk_stores arrived h = h
walk_stores (stepped w) h = walk_stores w (past_tick h)
walk_stores (kept has w) h = walk_stores w (past_made h)
walk_stores (read n m w) h = walk_stores w (past_read h n)

-- a value of fixed layout, before it is packed, is one more member of the innermost frame, with what it takes where
-- arrays are packed
pub value_added : {world : World} {limit : ℕ} (m : ℕ) (ty : PokeType) (stride : ℕ) → row_of ty ≡ Values stride →
    (order : Order) (levels : Levels) (s : ℕ) {v : Value} {k j k' j' : ℕ} {state state' : State} →
    Follows world limit (plan m ty order levels s) k j state k' j' state' (Done (Ok v)) → packs world.room ≡ true →
    IsAdded stride state v state'
value_added {world} m ty stride row order levels s {v} {state} h packing =
    let adds = subst (λ b.
    Stores b Apart Any (Leaves (IsAdded stride state) (λ last. last ≡ state)) (plan m ty order levels s) state)
    (sym packing) (element_adding m ty stride row order levels s state) in
    let last = past_end (subst (λ p.
    Stores (packs world.room) Apart Any (Leaves (IsAdded stride state) (λ last. last ≡ state)) p h.at) h.ends.0
    (walk_stores h.walk adds)) in
    subst (IsAdded stride state v) h.ends.1 last
