-- Walks joined, and calls that follow plans one after another.
use Rattle.std.proofs.Common.{arith, ◌≡◌, ℕ, zero, suc, inl, inr, ◌+◌, ◌<◌, ◌≤◌, [], ◌∷◌, Option, Some, Result, Ok, Err, refl, sym, ◌∙◌}
use Rattle.std.proofs.lemmas.Bool.{le-leb, lt-leb, cases_lt}
use Rattle.bit_space.specs.declared.order.Order.{Order}
use Rattle.bit_space.specs.Reading.{MayRead}
use Rattle.pickle_meaning.specs.declared.faults.MapFaultKind.TheVariants.{End}
use Rattle.pickle_map.specs.declared.mapper.stop.Stop.{Stop}
use Rattle.pickle_map.specs.declared.mapper.stop.Stop.TheVariants.{Fault, Limit, Device, Memory}
use Rattle.pickle_meaning.specs.Values.{Value, Levels, pushed, outer_of}
use Rattle.pickle_meaning.specs.Clauses.{FaultAt}
use Rattle.value_store.specs.Moves.{Move, Opens, Drops, Closes, State}
use Rattle.mapping_plans.specs.Plan.{Plan, Ended, Tick, Made, Read, and_then, after, on_value, then_ok, leave_frame, framed}
use Rattle.pickle_map.specs.Follows.{World, after_move, MovesTo, LacksRoom, Walk, arrived, stepped, kept, read, Finish, Done, NoSteps, Broken, NoRoom, Partly, NeedsStep, NeedsRead, NeedsRoom, Follows}
use Rattle.mapping_plans.specs.Mapping.{from_inside, makes, closes}
use Rattle.pickle_map.specs.Stops.{stop_finish}

-- a walk to q, and on from there
pub walk_on : {world : World} {A : Type 0} {r q : Plan A} {k'' j'' k' j' : ℕ} {last mid : State} {p : Plan A} {k j : ℕ}
    {state : State} →
    Walk world q k' j' mid p k j state → Walk world r k'' j'' last q k' j' mid → Walk world r k'' j'' last p k j state
walk_on arrived w = w
walk_on (stepped v) w = stepped (walk_on v w)
walk_on (kept has v) w = kept has (walk_on v w)
walk_on (read n m v) w = read n m (walk_on v w)

-- a walk in the first of two plans
pub walk_in : {world : World} {A B : Type 0} (f : A → Plan B) {q : Plan A} {k' j' : ℕ} {last : State} {p : Plan A}
    {k j : ℕ} {state : State} →
    Walk world q k' j' last p k j state → Walk world (and_then q f) k' j' last (and_then p f) k j state
walk_in f arrived = arrived
walk_in f (stepped v) = stepped (walk_in f v)
walk_in f (kept has v) = kept has (walk_in f v)
walk_in f (read n m v) = read n m (walk_in f v)

needs_in : {A B : Type 0} (f : A → Plan B) (q : Plan A) → NeedsStep q → NeedsStep (and_then q f)
needs_in f (Ended a) h = absurd h
needs_in f (Tick p) h = tt
needs_in f (Made count move levels p) h = absurd h
needs_in f (Read place width order rest) h = absurd h

reads_in : {A B : Type 0} (f : A → Plan B) (q : Plan A) → NeedsRead q → NeedsRead (and_then q f)
reads_in f (Ended a) h = absurd h
reads_in f (Tick p) h = absurd h
reads_in f (Made count move levels p) h = absurd h
reads_in f (Read place width order rest) h = tt

wants_in : {A B : Type 0} (f : A → Plan B) (world : World) (state : State) (q : Plan A) → NeedsRoom world state q →
    NeedsRoom world state (and_then q f)
wants_in f world state (Ended a) h = absurd h
wants_in f world state (Tick p) h = absurd h
wants_in f world state (Made count move levels p) h = h
wants_in f world state (Read place width order rest) h = absurd h

-- what is to be stored doesn't fit
pub follow_no_room : {world : World} {limit : ℕ} {A : Type 0} {count : ℕ} {move : Move} {levels : Levels} {p : Plan A}
    {k j : ℕ} {state state' : State} →
    LacksRoom world state move levels → Follows world limit (Made count move levels p) k j state k j state' NoRoom
follow_no_room {count} {move} {levels} {p} {state} h =
    record { rest = Made count move levels p; at = state; walk = arrived; ends = h }

-- at the end
pub follow_done : {world : World} {limit : ℕ} {A : Type 0} {a : A} {k j : ℕ} {state : State} →
    Follows world limit (Ended a) k j state k j state (Done a)
follow_done {a} {state} = record { rest = Ended a; at = state; walk = arrived; ends = (refl, refl) }

-- a step that was left
pub follow_tick : {world : World} {limit limit' : ℕ} {A : Type 0} {p : Plan A} {k j k1 j1 k' j' : ℕ}
    {state state' : State} {finish : Finish A} → limit' ≡ limit → k1 ≡ k + 1 → j1 ≡ j →
    Follows world limit' p k1 j1 state k' j' state' finish → Follows world limit (Tick p) k j state k' j' state' finish
follow_tick {world} {limit} {p} {k} {j} {k'} {j'} {state} {state'} {finish} el ek ej h =
    let g : Follows world limit p (k + 1) j state k' j' state' finish = rw (← el, ← ek, ← ej) h in
    record { rest = g.rest; at = g.at; walk = stepped g.walk; ends = g.ends }

-- a step that was not left
pub follow_no_tick : {world : World} {limit : ℕ} {A : Type 0} {p : Plan A} {k j k' j' : ℕ} {state state' : State} →
    k' ≡ k → k' ≡ limit → j' ≡ j → Follows world limit (Tick p) k j state k' j' state' NoSteps
follow_no_tick {world} {limit} {p} {k} {j} {state} {state'} ek el ej =
    let here_at : Follows world limit (Tick p) k j state k j state' NoSteps =
    record { rest = Tick p; at = state; walk = arrived; ends = (tt, sym ek ∙ el) } in
    rw (ek, ej) here_at

-- values made, and stored
pub follow_made : {world : World} {limit limit' : ℕ} {A : Type 0} {count : ℕ} {move : Move} {levels : Levels}
    {p : Plan A} {k j k1 j1 k' j' : ℕ} {state state1 state' : State} {finish : Finish A} →
    MovesTo world move state state1 → limit' ≡ limit → k1 ≡ k → j1 ≡ j + count →
    Follows world limit' p k1 j1 state1 k' j' state' finish →
    Follows world limit (Made count move levels p) k j state k' j' state' finish
follow_made {world} {limit} {count} {move} {p} {k} {j} {k'} {j'} {state} {state1} {state'} {finish} moves el ek ej h =
    let e = moves.is in
    let g : Follows world limit p k (j + count) (after_move world move state) k' j' state' finish =
    rw (← el, ← ek, ← ej, ← e) h in
    record { rest = g.rest; at = g.at; walk = kept moves.has g.walk; ends = g.ends }

-- a number read
pub follow_read : {world : World} {limit : ℕ} {A : Type 0} {place width : ℕ} {order : Order} {ps : ℕ → Plan A}
    {k j k' j' : ℕ} {state state' : State} {finish : Finish A} (n : ℕ) →
    MayRead world.known order place width n → Follows world limit (ps n) k j state k' j' state' finish →
    Follows world limit (Read place width order ps) k j state k' j' state' finish
follow_read n m h = record { rest = h.rest; at = h.at; walk = read n m h.walk; ends = h.ends }

-- a number that the device didn't give
pub follow_broken : {world : World} {limit : ℕ} {A : Type 0} {place width : ℕ} {order : Order} {ps : ℕ → Plan A}
    {k j : ℕ} {state state' : State} → Follows world limit (Read place width order ps) k j state k j state' Broken
follow_broken {place} {width} {order} {ps} {state} =
    record { rest = Read place width order ps; at = state; walk = arrived; ends = tt }

-- the same counts by other names
pub follow_at : {world : World} {limit limit' : ℕ} {A : Type 0} {p : Plan A} {k j k1 j1 k' j' : ℕ}
    {state state' : State} {finish : Finish A} → limit' ≡ limit → k1 ≡ k → j1 ≡ j →
    Follows world limit' p k1 j1 state k' j' state' finish → Follows world limit p k j state k' j' state' finish
follow_at el ek ej h = rw (← el, ← ek, ← ej) h

-- where a walk ended
ended_at : {world : World} {A : Type 0} {p q rest : Plan A} {k' j' k j : ℕ} {at last state : State} →
    (rest ≡ q) × (at ≡ last) → Walk world rest k' j' at p k j state → Walk world q k' j' last p k j state
ended_at e w = rw (← e.0, ← e.1) w

-- one plan to its result, and then the next
pub follow_then : {world : World} {limit : ℕ} {A B : Type 0} (p : Plan A) (f : A → Plan B) {a : A}
    {k j k' j' k'' j'' : ℕ} {state mid last : State} {finish : Finish B} →
    Follows world limit p k j state k' j' mid (Done a) → Follows world limit (f a) k' j' mid k'' j'' last finish →
    Follows world limit (and_then p f) k j state k'' j'' last finish
follow_then p f v w =
    record { rest = w.rest; at = w.at; walk = walk_on (walk_in f (ended_at v.ends v.walk)) w.walk; ends = w.ends }

pub follow_then_ok : {world : World} {limit : ℕ} {A B : Type 0} (p : Plan (Result A FaultAt))
    (f : A → Plan (Result B FaultAt)) {a : A} {k j k' j' k'' j'' : ℕ} {state mid last : State}
    {finish : Finish (Result B FaultAt)} →
    Follows world limit p k j state k' j' mid (Done (Ok a)) → Follows world limit (f a) k' j' mid k'' j'' last finish →
    Follows world limit (then_ok p f) k j state k'' j'' last finish
unfolding then_ok
follow_then_ok p f v w = follow_then p (on_value f) v w

-- the first of two plans broken off, and so both
pub follow_and_no_steps : {world : World} {limit : ℕ} {A B : Type 0} (p : Plan A) (f : A → Plan B) {k j k' j' : ℕ}
    {state mid last : State} →
    Follows world limit p k j state k' j' mid NoSteps → Follows world limit (and_then p f) k j state k' j' last NoSteps
follow_and_no_steps p f v = record {
  rest = and_then v.rest f;
  at = v.at;
  walk = walk_in f v.walk;
  ends = (needs_in f v.rest v.ends.0, v.ends.1);
}

pub follow_and_broken : {world : World} {limit : ℕ} {A B : Type 0} (p : Plan A) (f : A → Plan B) {k j k' j' : ℕ}
    {state mid last : State} →
    Follows world limit p k j state k' j' mid Broken → Follows world limit (and_then p f) k j state k' j' last Broken
follow_and_broken p f v =
    record { rest = and_then v.rest f; at = v.at; walk = walk_in f v.walk; ends = reads_in f v.rest v.ends }

pub follow_and_no_room : {world : World} {limit : ℕ} {A B : Type 0} (p : Plan A) (f : A → Plan B) {k j k' j' : ℕ}
    {state mid last : State} →
    Follows world limit p k j state k' j' mid NoRoom → Follows world limit (and_then p f) k j state k' j' last NoRoom
follow_and_no_room {world} p f v =
    record { rest = and_then v.rest f; at = v.at; walk = walk_in f v.walk; ends = wants_in f world v.at v.rest v.ends }

-- the first of two stops, and so both
pub follow_stop : {world : World} {limit : ℕ} {A B : Type 0} (p : Plan (Result A FaultAt))
    (f : A → Plan (Result B FaultAt)) {k j k' j' : ℕ} {state state' : State} (stop : Stop) →
    Follows world limit p k j state k' j' state' (stop_finish stop) →
    Follows world limit (then_ok p f) k j state k' j' state' (stop_finish stop)
unfolding then_ok
follow_stop p f (Fault kind place) v = follow_then p (on_value f) v follow_done
follow_stop p f Limit v = follow_and_no_steps p (on_value f) v
follow_stop p f Device v = follow_and_broken p (on_value f) v
follow_stop p f Memory v = follow_and_no_room p (on_value f) v

-- the state of a loop
pub follow_here : {world : World} {limit : ℕ} {A : Type 0} {p : Plan A} {k j : ℕ} {state : State} →
    Follows world limit p k j state k j state (Partly p)
follow_here {p} {state} = record { rest = p; at = state; walk = arrived; ends = (refl, refl) }

-- from the state of a loop
pub follow_on : {world : World} {limit : ℕ} {A : Type 0} {p q : Plan A} {k j k' j' k'' j'' : ℕ} {state mid last : State}
    {finish : Finish A} → Follows world limit p k j state k' j' mid (Partly q) →
    Follows world limit q k' j' mid k'' j'' last finish → Follows world limit p k j state k'' j'' last finish
follow_on v w = record { rest = w.rest; at = w.at; walk = walk_on (ended_at v.ends v.walk) w.walk; ends = w.ends }

-- ---- a frame around a plan

module _ {world : World} {limit : ℕ} (outer : Levels) (p : Plan (Result Value FaultAt)) {k j k' j' : ℕ}
    {state opened_state : State} (opens : MovesTo world Opens state opened_state) where
  -- it was closed
  pub framed_ok : {state' : State} {v : Value} → Follows world limit p k j opened_state k' j' state' (Done (Ok v)) →
      Follows world limit (framed outer p) k j state k' j' state' (Done (Ok v))
  unfolding framed
  framed_ok h =
      follow_made {limit' = limit} opens refl refl (omega arith) (follow_then p (leave_frame outer) h follow_done)

  -- what was to be stored of it didn't fit
  pub framed_no_room : {mid state' : State} → Follows world limit p k j opened_state k' j' mid NoRoom →
      Follows world limit (framed outer p) k j state k' j' state' NoRoom
  unfolding framed
  framed_no_room h =
      follow_made {limit' = limit} opens refl refl (omega arith) (follow_and_no_room p (leave_frame outer) h)

  -- the call in it stopped, and it was rolled back
  pub framed_stop : {mid state' : State} → MovesTo world Drops mid state' → (stop : Stop) →
      Follows world limit p k j opened_state k' j' mid (stop_finish stop) →
      Follows world limit (framed outer p) k j state k' j' state' (stop_finish stop)
  unfolding framed
  framed_stop drops (Fault kind place) h = follow_made {limit' = limit} opens refl refl (omega arith)
      (follow_then p (leave_frame outer) h (follow_made {limit' = limit} drops refl refl (omega arith) follow_done))
  framed_stop drops Limit h =
      follow_made {limit' = limit} opens refl refl (omega arith) (follow_and_no_steps p (leave_frame outer) h)
  framed_stop drops Device h =
      follow_made {limit' = limit} opens refl refl (omega arith) (follow_and_broken p (leave_frame outer) h)
  framed_stop drops Memory h =
      follow_made {limit' = limit} opens refl refl (omega arith) (follow_and_no_room p (leave_frame outer) h)

-- so many steps, all of them left
pub follow_after : {world : World} {limit : ℕ} {A : Type 0} (n : ℕ) (a : A) {k j k' j' : ℕ} {state : State} →
    k' ≡ k + n → j' ≡ j → Follows world limit (after n a) k j state k' j' state (Done a)
follow_after zero a {k} {k'} e ej = follow_at refl (let same : k' ≡ k = omega (arith, e) in same) ej follow_done
follow_after {limit} (suc n) a {k} {j} {k'} e ej = follow_tick {k1 = k + 1} {j1 = j} refl refl refl
    (follow_after n a (let same : k' ≡ k + 1 + n = omega (arith, e) in same) ej)

-- so many steps, one of them missing
pub follow_after_some : {world : World} {limit : ℕ} {A : Type 0} (n : ℕ) (a : A) {k j k' j' : ℕ}
    {state state' : State} →
    k ≤ limit → limit < k + n → k' ≡ limit → j' ≡ j → Follows world limit (after n a) k j state k' j' state' NoSteps
follow_after_some zero a le lt ek ej = absurd (omega (arith, le, lt))
follow_after_some {limit} (suc n) a {k} {j} le lt ek ej =
    elim (cases_lt k limit) [
      | inl less ↦ follow_tick {k1 = k + 1} {j1 = j} refl refl refl
          (follow_after_some n a (omega (arith, less)) (omega (arith, lt)) ek ej)
      | inr more ↦ follow_no_tick (let same : _ ≡ k = ek ∙ omega (arith, le, more) in same) ek ej
    ]

-- a plan whose start is inside
pub follow_inside : {world : World} {limit : ℕ} {A : Type 0} (m s : ℕ) (p : Plan (Result A FaultAt)) {k j k' j' : ℕ}
    {state state' : State} {finish : Finish (Result A FaultAt)} →
    s ≤ m → Follows world limit p k j state k' j' state' finish →
    Follows world limit (from_inside m s p) k j state k' j' state' finish
unfolding from_inside
follow_inside m s p inside h = rw (le-leb s m inside) h

pub follow_past : {world : World} {limit : ℕ} {A : Type 0} (m s : ℕ) (p : Plan (Result A FaultAt)) {k j : ℕ}
    {state : State} → m < s → Follows world limit (from_inside m s p) k j state k j state (Done (Err (End, s)))
unfolding from_inside
follow_past m s p past = rw (lt-leb s m past) follow_done

-- a plan's result, turned to a value
module _ {world : World} {limit : ℕ} {A : Type 0} (p : Plan (Result A FaultAt)) (f : A → Plan (Result Value FaultAt))
    (a : A) (move : Move) (levels : Levels) (v : Value) (is : f a ≡ makes move levels v) {k j k1 j1 : ℕ}
    {state state1 : State}
    (h : Follows world limit p k j state k1 j1 state1 (Done (Ok a))) where
  pub ends_no_room : {state2 : State} → LacksRoom world state1 move (pushed levels (Some v)) →
      Follows world limit (then_ok p f) k j state k1 j1 state2 NoRoom
  ends_no_room full = follow_then_ok p f h (rw is (follow_no_room full))

  pub ends_made : {limit1 k2 j2 : ℕ} {state2 : State} → MovesTo world move state1 state2 → limit1 ≡ limit → k2 ≡ k1 →
      j2 ≡ j1 + 1 → Follows world limit (then_ok p f) k j state k2 j2 state2 (Done (Ok v))
  ends_made moves el ek ej = follow_then_ok p f h (rw is (follow_made moves el ek ej follow_done))

-- the first of two plans without a step left
pub first_no_tick : {world : World} {limit : ℕ} {A B : Type 0} (p : Plan (Result A FaultAt))
    (f : A → Plan (Result B FaultAt)) {k j k1 j1 : ℕ} {state state1 : State} →
    k1 ≡ k → k1 ≡ limit → j1 ≡ j → Follows world limit (then_ok (Tick p) f) k j state k1 j1 state1 NoSteps
unfolding then_ok
first_no_tick p f ek el ej = follow_no_tick ek el ej

-- a closed frame, after what was done in it
module _ {world : World} {limit : ℕ} (p : Plan (Result Levels FaultAt)) (make : Levels → Value) (inside : Levels)
    {k j k1 j1 : ℕ} {state state1 : State} (h : Follows world limit p k j state k1 j1 state1 (Done (Ok inside))) where
  pub closes_no_room : {state2 : State} →
      LacksRoom world state1 Closes (pushed (outer_of inside) (Some (make inside))) →
      Follows world limit (then_ok p (closes Closes make)) k j state k1 j1 state2 NoRoom
  closes_no_room lacks = ends_no_room p (closes Closes make) inside Closes (outer_of inside) (make inside) refl h lacks

  pub closes_made : {k2 j2 : ℕ} {state2 : State} → MovesTo world Closes state1 state2 → k2 ≡ k1 → j2 ≡ j1 + 1 →
      Follows world limit (then_ok p (closes Closes make)) k j state k2 j2 state2 (Done (Ok (make inside)))
  closes_made moves ek ej = ends_made p (closes Closes make) inside Closes (outer_of inside) (make inside) refl h
      {limit1 = limit} moves refl ek ej

pub outer_pushed : (levels : Levels) (v : Option Value) → outer_of (pushed levels v) ≡ outer_of levels
outer_pushed [] v = refl
outer_pushed (top ∷ outer) v = refl
