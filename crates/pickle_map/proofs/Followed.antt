-- What a call that followed a type's plan has done.
use Rattle.std.proofs.Common.{◌≡◌, ℕ, ◌+◌, ◌-◌, ◌<◌, ◌≤◌, length, List, Some, Result, Ok, Err, refl, subst, arith}
use Rattle.bit_space.specs.declared.order.Order.{Order}
use Rattle.pickle_types.specs.Types.{PokeType}
use Rattle.pickle_types.specs.Bounds.{cost, room, least_width}
use Rattle.pickle_meaning.specs.declared.faults.MapFaultKind.TheVariants as fault
use Rattle.pickle_meaning.specs.Values.{Value, end_of, Levels, no_values}
use Rattle.pickle_meaning.specs.Clauses.{FaultAt}
use Rattle.pickle_meaning.specs.Room.{Slot, NodeSlot, ByteSlot, value_slots, slots}
use Rattle.value_store.specs.Weights.{IsUnbounded}
use Rattle.value_store.specs.Moves.{Move, State}
use Rattle.mapping_plans.specs.Plan.{Plan, Ended, Tick, Made, Read, result_of, steps_of, made_of, AtMost, ticked, noted, given, MadeWithin, made_tick, made_more, made_read, Counts, counted, count_tick, count_made, count_read, Always, after_made}
use Rattle.pickle_map.specs.Follows.{World, Walk, arrived, stepped, kept, read, Finish, Done, NoSteps, NoRoom, NeedsStep, NeedsRoom, Follows}
use Rattle.mapping_plans.specs.Mapping.{plan}
use Rattle.pickle_meaning.specs.Answer.{Answer, in_time, too_long, BrokenOff, broken_off}
use Rattle.pickle_meaning.specs.Fits.{Fits}
use Rattle.pickle_meaning.specs.Laws.{value_size}
use Rattle.mapping_plans.proofs.Counts.{values_made}
use Rattle.mapping_plans.proofs.Exists.{plan_means}
use Rattle.mapping_plans.proofs.Costs.{at_most_more, plan_at_most}
use Rattle.mapping_plans.proofs.Makes.{plan_within}
use Rattle.mapping_plans.proofs.Always.{of_tick, of_made, of_read, of_result}
use Rattle.mapping_plans.proofs.Fitting.{plan_fits, plan_wide}
use Rattle.mapping_plans.proofs.Rooms.{room_enough}

-- ---- along a walk

-- what a walk over known bits leaves
pub record Leaves {A : Type 0} (bits : List ℕ) (p q : Plan A) (k j k' j' : ℕ) : Type 0 where
  pub result : result_of bits p ≡ result_of bits q
  pub steps : k + steps_of bits p ≡ k' + steps_of bits q
  pub made : j + made_of bits p ≡ j' + made_of bits q

pub walk_leaves : {world : World} (bits : List ℕ) {A : Type 0} {q : Plan A} {k' j' : ℕ} {last : State} {p : Plan A}
    {k j : ℕ} {state : State} →
    world.known ≡ Some bits → Walk world q k' j' last p k j state → Leaves bits p q k j k' j'
walk_leaves bits e arrived = record { result = refl; steps = refl; made = refl }
walk_leaves bits e (stepped w) =
    let l = walk_leaves bits e w in record { result = l.result; steps = omega (arith, l.steps); made = l.made }
walk_leaves bits e (kept has w) =
    let l = walk_leaves bits e w in record { result = l.result; steps = l.steps; made = omega (arith, l.made) }
walk_leaves bits {q} {k'} {j'} e (read {ps} {k} {j} n m w) =
    let l = subst (λ x. Leaves bits (ps x) q k j k' j') (m.exact bits e) (walk_leaves bits e w) in
    record { result = l.result; steps = l.steps; made = l.made }

-- steps and values made never fall
pub walk_rises : {world : World} {A : Type 0} {q : Plan A} {k' j' : ℕ} {last : State} {p : Plan A} {k j : ℕ}
    {state : State} → Walk world q k' j' last p k j state → (k ≤ k') × (j ≤ j')
walk_rises arrived = (omega arith, omega arith)
walk_rises (stepped w) = let r = walk_rises w in (omega (arith, r.0), r.1)
walk_rises (kept has w) = let r = walk_rises w in (r.0, omega (arith, r.1))
walk_rises (read n m w) = walk_rises w

-- an invariant holds along a walk
pub walk_keeps : {world : World} {A : Type 0} {M : Levels → Type 0} {Q : A → Type 0} {q : Plan A} {k' j' : ℕ}
    {last : State} {p : Plan A} {k j : ℕ} {state : State} →
    Walk world q k' j' last p k j state → Always M Q p → Always M Q q
walk_keeps arrived h = h
walk_keeps (stepped w) h = walk_keeps w (of_tick h)
walk_keeps (kept has w) h = walk_keeps w (of_made h)
walk_keeps (read n m w) h = walk_keeps w (of_read h n m.fits)

inside_tick : {A : Type 0} {p : Plan A} {c : ℕ} → AtMost (Tick p) c → (1 ≤ c) × AtMost p (c - 1)
inside_tick (ticked c' le h) = (omega arith, at_most_more _ (omega arith) h)

inside_made : {A : Type 0} {count : ℕ} {move : Move} {levels : Levels} {p : Plan A} {c : ℕ} →
    AtMost (Made count move levels p) c → AtMost p c
inside_made (noted h) = h

inside_read : {A : Type 0} {place width : ℕ} {order : Order} {ps : ℕ → Plan A} {c : ℕ} →
    AtMost (Read place width order ps) c → (n : ℕ) → AtMost (ps n) c
inside_read (given h) = h

-- a walk uses up its steps
pub walk_uses : {world : World} {A : Type 0} {q : Plan A} {k' j' : ℕ} {last : State} {p : Plan A} {k j : ℕ}
    {state : State} (c : ℕ) → Walk world q k' j' last p k j state → AtMost p c → (d : ℕ) × (k + c ≡ k' + d) × AtMost q d
walk_uses c arrived h = (c, refl, h)
walk_uses c (stepped w) h =
    let i = inside_tick h in let r = walk_uses (c - 1) w i.1 in (r.0, omega (arith, r.1, i.0), r.2)
walk_uses c (kept has w) h = walk_uses c w (inside_made h)
walk_uses c (read n m w) h = walk_uses c w (inside_read h n)

within_tick : {A : Type 0} {p : Plan A} {a b : ℕ} → MadeWithin (Tick p) a b → MadeWithin p (a + 1) b
within_tick (made_tick h) = h

-- what noted values leave
record Noted {A : Type 0} (p : Plan A) (count a b : ℕ) : Type 0 where
  rest : ℕ
  few : count + rest ≤ a
  within : MadeWithin p rest b

within_made : {A : Type 0} {count : ℕ} {move : Move} {levels : Levels} {p : Plan A} {a b : ℕ} →
    MadeWithin (Made count move levels p) a b → Noted p count a b
within_made (made_more rest up h) = record { rest = rest; few = up; within = h }

within_read : {A : Type 0} {place width : ℕ} {order : Order} {ps : ℕ → Plan A} {a b : ℕ} →
    MadeWithin (Read place width order ps) a b → (n : ℕ) → MadeWithin (ps n) a b
within_read (made_read h) = h

-- a walk makes no more values than it takes steps, but for those that were ahead
pub walk_makes : {world : World} {A : Type 0} {q : Plan A} {k' j' : ℕ} {last : State} {p : Plan A} {k j : ℕ}
    {state : State} (a b : ℕ) → Walk world q k' j' last p k j state → MadeWithin p a b → j' + k ≤ j + k' + a
walk_makes a b arrived h = omega arith
walk_makes a b (stepped w) h = let r = walk_makes (a + 1) b w (within_tick h) in omega arith
walk_makes a b (kept has w) h =
    let n = within_made h in
    let few = n.few in
    let r = walk_makes n.rest b w n.within in
    omega arith
walk_makes a b (read n m w) h = walk_makes a b w (within_read h n)

of_count_tick : {A : Type 0} {size : A → ℕ} {p : Plan A} {c : ℕ} → Counts size (Tick p) c → Counts size p c
of_count_tick (count_tick h) = h

of_count_made : {A : Type 0} {size : A → ℕ} {count : ℕ} {move : Move} {levels : Levels} {p : Plan A} {c : ℕ} →
    Counts size (Made count move levels p) c → Counts size p (c + count)
of_count_made (count_made h) = h

of_count_read : {A : Type 0} {size : A → ℕ} {place width : ℕ} {order : Order} {ps : ℕ → Plan A} {c : ℕ} →
    Counts size (Read place width order ps) c → (n : ℕ) → Counts size (ps n) c
of_count_read (count_read h) = h

of_counted : {A : Type 0} {size : A → ℕ} {a : A} {c : ℕ} → Counts size (Ended a) c → size a ≤ c
of_counted (counted h) = h

-- the values made on a walk are counted
pub walk_counts : {world : World} {A : Type 0} {size : A → ℕ} {q : Plan A} {k' j' : ℕ} {last : State} {p : Plan A}
    {k j : ℕ} {state : State} (c : ℕ) →
    Walk world q k' j' last p k j state → Counts size p c → (d : ℕ) × (j' + c ≡ j + d) × Counts size q d
walk_counts c arrived h = (c, refl, h)
walk_counts c (stepped w) h = walk_counts c w (of_count_tick h)
walk_counts c (kept {count} has w) h =
    let r = walk_counts (c + count) w (of_count_made h) in (r.0, omega (arith, r.1), r.2)
walk_counts c (read n m w) h = walk_counts c w (of_count_read h n)

takes_step : {A : Type 0} (bits : List ℕ) (q : Plan A) → NeedsStep q → 1 ≤ steps_of bits q
takes_step bits (Ended a) h = absurd h
takes_step bits (Tick p) h = omega arith
takes_step bits (Made count move levels p) h = absurd h
takes_step bits (Read place width order rest) h = absurd h

needs_one : {A : Type 0} (q : Plan A) (d : ℕ) → NeedsStep q → AtMost q d → 1 ≤ d
needs_one (Ended a) d h b = absurd h
needs_one (Tick p) d h (ticked c le b) = omega arith
needs_one (Made count move levels p) d h b = absurd h
needs_one (Read place width order rest) d h b = absurd h

-- ---- consequences for a call that followed a type's plan

module _ {world : World} {limit : ℕ} (m : ℕ) (ty : PokeType) (order : Order) (levels : Levels) (s : ℕ) {k j k' j' : ℕ}
    {state state' : State} where
  -- over any space: its steps
  pub followed_steps : {finish : Finish (Result Value FaultAt)} →
      Follows world limit (plan m ty order levels s) k j state k' j' state' finish → k' ≤ k + cost ty m
  followed_steps h = let u = walk_uses (cost ty m) h.walk (plan_at_most m ty order levels s) in omega (arith, u.1)

  -- the values made
  pub followed_made : {finish : Finish (Result Value FaultAt)} →
      Follows world limit (plan m ty order levels s) k j state k' j' state' finish → j' + k ≤ j + k'
  followed_made h = let u = walk_makes 0 0 h.walk (plan_within m ty order levels s 0) in omega arith

  -- a value fits
  pub followed_fits : {v : Value} →
      Follows world limit (plan m ty order levels s) k j state k' j' state' (Done (Ok v)) → Fits m ty levels s v
  followed_fits h =
      let a = walk_keeps h.walk (plan_fits m ty order levels s) in
      let a = rw h.ends.0 at a in
      of_result a

  -- the nodes and bytes of a value were made
  pub followed_size : {v : Value} →
      Follows world limit (plan m ty order levels s) k j state k' j' state' (Done (Ok v)) →
      j + (value_slots NodeSlot v + value_slots ByteSlot v) ≤ j'
  followed_size {v} h =
      let u = walk_counts 0 h.walk (values_made m ty order levels s) in
      let e = u.1 in
      let last : Counts value_size (Ended (Ok v)) u.0 = subst (λ q. Counts value_size q u.0) h.ends.0 u.2 in
      let low : value_slots NodeSlot v + value_slots ByteSlot v ≤ u.0 = of_counted last in
      omega arith

  -- a limit was reached, which is less than the bound
  pub followed_limit : Follows world limit (plan m ty order levels s) k j state k' j' state' NoSteps →
      (k' ≡ limit) × (limit < k + cost ty m)
  followed_limit h =
      let u = walk_uses (cost ty m) h.walk (plan_at_most m ty order levels s) in
      let one = needs_one h.rest u.0 h.ends.0 u.2 in
      let e = h.ends.1 in
      (e, omega (arith, u.1))

  -- a request for capacity fails only where there is less than the type's bound
  pub followed_room : Follows world limit (plan m ty order levels s) k j state k' j' state' NoRoom →
      IsUnbounded world.room → (kind : Slot) × (world.room.least < slots kind levels + room ty m)
  followed_room h free = wanted h.rest h.ends (λ kind. walk_keeps h.walk (room_enough m ty order levels s kind))
    where
      wanted : (q : Plan (Result Value FaultAt)) → NeedsRoom world h.at q →
          ((kind : Slot) → Always (λ kept. slots kind kept ≤ slots kind levels + room ty m) (λ r. Unit {0}) q) →
          (kind : Slot) × (world.room.least < slots kind levels + room ty m)
      wanted (Ended a) h l = absurd h
      wanted (Tick p) h l = absurd h
      wanted (Made count move levels' p) h l =
          let over = h.least free in (over.0, less over.0 (l over.0) over.1)
        where
          less : (kind : Slot) →
              Always (λ kept. slots kind kept ≤ slots kind levels + room ty m) (λ r. Unit {0})
              (Made count move levels' p) →
              world.room.least < slots kind levels' → world.room.least < slots kind levels + room ty m
          less kind (after_made le more) lt = omega arith
      wanted (Read place width order' rest) h l = absurd h

-- ---- over known bits

module _ {world : World} {limit : ℕ} (bits : List ℕ) (ty : PokeType) (order : Order) (s : ℕ) {k j k' j' : ℕ}
    {state state' : State} (known : world.known ≡ Some bits) (within : k' ≤ limit) where
  pub followed_result : {r : Result Value FaultAt} →
      Follows world limit (plan (length bits) ty order no_values s) k j state k' j' state' (Done r) →
      Answer bits ty order s (limit - k) r (k' - k) (j' - j)
  followed_result {r} h =
      let l = walk_leaves bits known h.walk in
      let l : Leaves bits (plan (length bits) ty order no_values s) (Ended r) k j k' j' = rw h.ends.0 at l in
      let ek : steps_of bits (plan (length bits) ty order no_values s) ≡ k' - k = let x = l.steps in omega arith in
      let ej : made_of bits (plan (length bits) ty order no_values s) ≡ j' - j = let x = l.made in omega arith in
      let m = plan_means bits ty order no_values s in
      let m = rw (l.result, ek, ej) at m in
      in_time m (omega arith)

  pub followed_too_long : Follows world limit (plan (length bits) ty order no_values s) k j state k' j' state' NoSteps →
      Answer bits ty order s (limit - k) (Err (fault.Limit, s)) (k' - k) (j' - j)
  followed_too_long h =
      let l = walk_leaves bits known h.walk in
      let one = takes_step bits h.rest h.ends.0 in
      let e = h.ends.1 in
      let up = (walk_rises h.walk).0 in
      let x = l.steps in
      let y = l.made in
      let ek : k' - k ≡ limit - k = omega arith in
      rw ek (too_long {j' = j' - j} (plan_means bits ty order no_values s) (omega arith) (omega arith))

  pub followed_part : {finish : Finish (Result Value FaultAt)} →
      Follows world limit (plan (length bits) ty order no_values s) k j state k' j' state' finish →
      BrokenOff bits ty order s (limit - k) (k' - k) (j' - j)
  followed_part h =
      let l = walk_leaves bits known h.walk in
      let x = l.steps in
      let y = l.made in
      broken_off (plan_means bits ty order no_values s) (omega arith) (omega arith) (omega arith)

-- over any space: the end of a value
pub followed_wide : {world : World} {limit : ℕ} (m : ℕ) (ty : PokeType) (order : Order) (levels : Levels) (s : ℕ)
    {k j k' j' : ℕ} {state state' : State} {v : Value} →
    Follows world limit (plan m ty order levels s) k j state k' j' state' (Done (Ok v)) → s + least_width ty ≤ end_of v
followed_wide m ty order levels s {v} h =
    let a = walk_keeps h.walk (plan_wide m ty order levels s) in
    let a = rw h.ends.0 at a in
    of_result a
