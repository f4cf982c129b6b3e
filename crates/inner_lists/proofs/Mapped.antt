-- What a type comes to that the mapper mapped.
use Rattle.std.proofs.Common.{◌≡◌, ◌∙◌, ℕ, ◌+◌, ◌-◌, ◌*◌, ◌<◌, ◌≤◌, length, List, Option, Some, None, Result, Ok, Err, IfErr, option_map, refl, sym, ap, arith}
use Rattle.bit_space.specs.Bits.{bits_of}
use Rattle.bit_space.specs.SpaceView.{SpaceView, HasRisen, IsWhole}
use Rattle.bit_space.specs.declared.order.Order.{Order}
use Rattle.bit_space.proofs.Digits.{length-bits_of}
use Rattle.pickle_types.specs.Types.{PokeType}
use Rattle.pickle_types.specs.Table.{type_of}
use Rattle.pickle_meaning.specs.Clauses.{FaultAt}
use Rattle.pickle_meaning.specs.Values.{Value, Levels}
use Rattle.mapping_plans.specs.Mapping.{plan}
use Rattle.mapping_plans.specs.Plan.{Plan, Ended, Tick, Made, Read, result_of, steps_of}
use Rattle.mapping_plans.proofs.Exists.{plan_means}
use Rattle.pickle_map.specs.AtWork.{Maps}
use Rattle.pickle_map.specs.Calls.{as_type}
use Rattle.pickle_map.specs.Follows.{World, Follows, Done, NoSteps, NeedsStep}
use Rattle.pickle_map.specs.declared.mapper.state.Mapper.{Mapper}
use Rattle.pickle_map.specs.declared.mapper.stop.Stop.{Stop}
use Rattle.pickle_map.specs.declared.mapper.stop.Stop.TheVariants.{Fault, Limit, Device, Memory}
use Rattle.pickle_map.proofs.Followed.{walk_leaves, walk_rises, followed_fits}
use Rattle.value_store.specs.Moves.{State}
use Rattle.inner_lists.specs.Calls.{Comes, MapsBeside, frames_of, maps_at}
use Rattle.list_laws.specs.Meanings.{AreBytes, FitsIn, IsMeant, bytes_in, meaning_in}

one_step : (bits : List ℕ) {A : Type 0} (p : Plan A) → NeedsStep p → 1 ≤ steps_of bits p
one_step bits (Ended a) h = absurd h
one_step bits (Tick p) h = omega arith
one_step bits (Made count move levels p) h = absurd h
one_step bits (Read place width order rest) h = absurd h

module _ {world : World} {limit : ℕ} (bits : List ℕ) (known : world.known ≡ Some bits) {A : Type 0} {p : Plan A}
    {k j k' j' : ℕ} {state state' : State} where
  done_steps : {a : A} → Follows world limit p k j state k' j' state' (Done a) → k' ≡ k + steps_of bits p
  done_steps h =
      let l = walk_leaves bits known h.walk in
      let e : steps_of bits h.rest ≡ 0 = ap (steps_of bits) h.ends.0 in
      omega (arith, l.steps, e)

  limit_steps : Follows world limit p k j state k' j' state' NoSteps → limit < k + steps_of bits p
  limit_steps h =
      let l = walk_leaves bits known h.walk in
      let some = one_step bits h.rest h.ends.0 in
      omega (arith, l.steps, some, h.ends.1)

module _ {world : World} {limit : ℕ} (bits : List ℕ) (ty : PokeType) (order : Order) (levels : Levels) (s : ℕ)
    {k j k' j' : ℕ} {state state' : State} where
  -- a plan that was followed to its end over known bits, with its steps
  pub followed_counts : {r : Result Value FaultAt} → world.known ≡ Some bits
      → Follows world limit (plan (length bits) ty order levels s) k j state k' j' state' (Done r)
      → IsMeant bits ty order levels s r (k' - k)
  followed_counts {r} known h =
      let l = walk_leaves bits known h.walk in
      let e = rw h.ends.0 at l.result in
      let taken = done_steps bits known h in
      let m = plan_means bits ty order levels s in
      let same : steps_of bits (plan (length bits) ty order levels s) ≡ k' - k = omega (arith, taken) in
      record { made = _; means = rw (e, same) at m }

module _ {W : Type 0} (space space' : SpaceView) (old new : Mapper W) (at : ℕ) (order : Order) (s : ℕ)
    (whole : IsWhole space) where
  abbrev its : PokeType
  its = type_of old.nodes.now at

  -- an outcome to which the mapper came, by what is known of the bytes
  known_done : (r : Result Value FaultAt) (steps : ℕ) → FitsIn space.len its (frames_of old) s r
      → ((bytes : List ℕ) → space.bytes ≡ Some bytes → IsMeant (bits_of bytes) its order (frames_of old) s r steps)
      → (known : Option (List ℕ)) → AreBytes (bytes_in space) known
      → meaning_in (bytes_in space) known its order (frames_of old) s r steps
  known_done r steps fits means None are = record { means = means; fits = fits }
  known_done r steps fits means (Some bytes) are = means bytes are

  comes_done : (r : Result Value FaultAt) → FitsIn space.len its (frames_of old) s r
      → old.meter.now.steps ≤ new.meter.now.steps
      → ((bytes : List ℕ) → space.bytes ≡ Some bytes →
      IsMeant (bits_of bytes) its order (frames_of old) s r (new.meter.now.steps - old.meter.now.steps))
      → Comes (bytes_in space) (maps_at its order (frames_of old) s) old.meter.now.steps new.meter.now.steps r
  comes_done r fits rise means = record {
    steps = new.meter.now.steps - old.meter.now.steps;
    taken = omega (arith, rise);
    holds = known_done r (new.meter.now.steps - old.meter.now.steps) fits means;
  }

  pub came : (result : Result ℕ Stop) → new.nodes.now ≡ old.nodes.now → new.meter.now.limit ≡ old.meter.now.limit
      → Maps space old new (as_type at order s) result
      → IfErr result (λ stop. stop ≡ Device → HasRisen space.failures space'.failures)
      → MapsBeside space space' old new (frames_of old) at order s result
  came (Ok end) nodes limit h device = record {
    value = h.value;
    kept = rw nodes h.kept;
    ends = h.ends;
    comes = comes_done (Ok h.value)
        (followed_fits (8 * space.len) its order (frames_of old) s h.follows) (walk_rises h.follows.walk).0
        (λ bytes known.
        let len = ap (λ n. 8 * n) (sym (whole bytes known)) ∙ sym (length-bits_of bytes) in
        followed_counts (bits_of bytes) its order (frames_of old) s (ap (option_map bits_of) known)
        (rw len at h.follows));
  }
  came (Err (Fault kind place)) nodes limit h device =
      comes_done (Err (kind, place)) tt (walk_rises h.walk).0
      (λ bytes known.
      let len = ap (λ n. 8 * n) (sym (whole bytes known)) ∙ sym (length-bits_of bytes) in
      followed_counts (bits_of bytes) its order (frames_of old) s (ap (option_map bits_of) known) (rw len at h))
  came (Err Limit) nodes limit h device = record {
    all = h.ends.1;
    exceeds = λ bytes known.
        let len = ap (λ n. 8 * n) (sym (whole bytes known)) ∙ sym (length-bits_of bytes) in
        let follows = rw len at h in
        record {
          outcome = result_of (bits_of bytes) (plan (length (bits_of bytes)) its order (frames_of old) s);
          steps = steps_of (bits_of bytes) (plan (length (bits_of bytes)) its order (frames_of old) s);
          holds = record { made = _; means = plan_means (bits_of bytes) its order (frames_of old) s };
          more = limit_steps (bits_of bytes) (ap (option_map bits_of) known) follows;
        };
  }
  came (Err Device) nodes limit h device = device refl
  came (Err Memory) nodes limit h device = tt
