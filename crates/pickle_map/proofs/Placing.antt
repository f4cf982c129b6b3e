-- Calls that follow the plan of a number that is read, and of the fields that it is cut into.
use Rattle.std.proofs.Common.{◌≡◌, ℕ, ◌+◌, ◌-◌, ◌*◌, ◌<◌, ◌≤◌, List, [], ◌∷◌, Some, Result, Ok, Err, refl, ◌∙◌, arith}
use Rattle.std.proofs.lemmas.Bool.{le-leb, lt-leb}
use Rattle.std.specs.Prelude.{nat_le, if◌then◌else◌}
use Rattle.bit_space.specs.declared.order.Order.{Order}
use Rattle.bit_space.specs.SpaceView.{SpaceView}
use Rattle.bit_space.specs.declared.number.BitFault.{BitFault}
use Rattle.bit_space.specs.declared.number.BitFault.TheVariants as refused
use Rattle.bit_space.specs.Reading.{MayRead, IsRefused}
use Rattle.pickle_types.specs.declared.node.Part.{Part}
use Rattle.pickle_types.specs.Types.{PokeType}
use Rattle.pickle_types.specs.Table.{optional_term, open_parts}
use Rattle.pickle_meaning.specs.declared.faults.MapFaultKind.TheVariants.{End}
use Rattle.pickle_map.specs.declared.mapper.stop.Stop.{Stop}
use Rattle.pickle_map.specs.declared.mapper.stop.Stop.TheVariants.{Fault, Limit, Device, Memory}
use Rattle.pickle_meaning.specs.Values.{Value, Levels, pushed}
use Rattle.pickle_meaning.specs.Clauses.{FaultAt}
use Rattle.pickle_map.specs.Framed.{ReadStops, refusal_at}
use Rattle.value_store.specs.Moves.{State}
use Rattle.mapping_plans.specs.Plan.{Plan, Ended, Tick, Read, then_ok}
use Rattle.pickle_map.specs.Follows.{World, Finish, Done, NoSteps, Partly, Follows}
use Rattle.mapping_plans.specs.Mapping.{number_plan, digits_plan, constrained}
use Rattle.pickle_meaning.specs.Means.{first_digits, number_type, width_in}
use Rattle.pickle_map.specs.Stops.{stop_finish}
use Rattle.pickle_map.proofs.Walks.{follow_done, follow_here, follow_tick, follow_no_tick, follow_read, follow_broken, follow_then_ok, follow_stop}

-- a refused read, with its fault at `place`
pub refusal_stops : (fault : BitFault) (place end : ℕ) (before after : SpaceView) (limit steps steps' : ℕ) →
    IsRefused fault end before after limit steps steps' →
    ReadStops (refusal_at fault place) place end before after limit steps steps'
refusal_stops refused.End place end before after limit steps steps' h = (refl, refl, h.0, h.2)
refusal_stops refused.Device place end before after limit steps steps' h = (h.0, h.2, h.3)
refusal_stops refused.Limit place end before after limit steps steps' h = h

-- a read, from its own step on, of bits that end in the file
abbrev pub reading : {A : Type 0} → (m s place width : ℕ) → Order → (ℕ → Plan (Result A FaultAt)) →
    Plan (Result A FaultAt)
reading m s place width order rest =
    Tick (if nat_le (place + width) m then Read place width order rest else Ended (Err (End, s)))

module _ {world : World} {limit : ℕ} {A : Type 0} (m s place width : ℕ) (order : Order)
    (rest : ℕ → Plan (Result A FaultAt)) {k j k1 j1 : ℕ} {state : State} where
  -- a read that stops
  pub read_stops : (before after : SpaceView) {limit' : ℕ} (stop : Stop) → limit' ≡ limit → m ≡ 8 * before.len →
      ReadStops stop s (place + width) before after limit' k k1 → j1 ≡ j →
      Follows world limit (reading m s place width order rest) k j state k1 j1 state (stop_finish stop)
  read_stops before after (Fault kind at) el em h ej =
      let past : m < place + width = omega (arith, em, h.3) in
      rw (h.0, h.1, lt-leb (place + width) m past) (follow_tick refl h.2 ej follow_done)
  read_stops before after Limit el em h ej = follow_no_tick h.1 (h.1 ∙ h.0 ∙ el) ej
  read_stops before after Device el em h ej =
      let inside : place + width ≤ m = omega (arith, em, h.1) in
      rw (le-leb (place + width) m inside) (follow_tick refl h.0 ej follow_broken)
  read_stops before after Memory el em h ej = absurd h

  -- a read that gives a number
  pub read_goes : {limit1 k' j' : ℕ} {state' : State} {finish : Finish (Result A FaultAt)} (n : ℕ) → limit1 ≡ limit →
      k1 ≡ k + 1 → j1 ≡ j → place + width ≤ m → MayRead world.known order place width n →
      Follows world limit1 (rest n) k1 j1 state k' j' state' finish →
      Follows world limit (reading m s place width order rest) k j state k' j' state' finish
  read_goes n el ek ej inside may h = rw (le-leb (place + width) m inside) (follow_tick el ek ej (follow_read n may h))

-- the plan of a field of an integral struct
abbrev pub placed_part : (ℕ → PokeType) → Part → (n : ℕ) → Levels → (s : ℕ) → Plan (Result Value FaultAt)
placed_part types p n levels s =
    then_ok (Tick (number_plan (types p.node) n levels s)) (constrained (optional_term p.constraint) levels s)

module _ {world : World} {limit : ℕ} (types : ℕ → PokeType) (ps : List Part) (n left : ℕ) (levels : Levels) (s : ℕ)
    {k j : ℕ} {state : State} where
  pub digits_end : ps ≡ [] →
      Follows world limit (digits_plan (open_parts types ps) n left levels s) k j state k j state (Done (Ok levels))
  unfolding digits_plan
  digits_end is = rw is follow_done

  module _ (p : Part) (rest : List Part) (is : ps ≡ p ∷ rest) {k1 j1 : ℕ} where
    pub digits_no_tick : {state' : State} → k1 ≡ k → k1 ≡ limit → j1 ≡ j →
        Follows world limit (digits_plan (open_parts types ps) n left levels s) k j state k1 j1 state' NoSteps
    unfolding digits_plan
    digits_no_tick ek el ej = rw is (follow_no_tick ek el ej)

    module _ (cut : ℕ) (cut_is : cut ≡ first_digits n left (width_in (number_type (types p.node)))) {limit1 k' j' : ℕ}
        {state' : State} (el : limit1 ≡ limit) (ek : k1 ≡ k + 1) (ej : j1 ≡ j) where
      pub digits_stop : (stop : Stop) →
          Follows world limit1 (placed_part types p cut levels s) k1 j1 state k' j' state' (stop_finish stop) →
          Follows world limit (digits_plan (open_parts types ps) n left levels s) k j state k' j'
          state' (stop_finish stop)
      unfolding digits_plan
      digits_stop stop h = rw is (follow_tick el ek ej (follow_stop _ _ stop (rw (← cut_is) h)))

      pub digits_goes : (v : Value) (left' : ℕ) → left' ≡ left - width_in (number_type (types p.node)) →
          Follows world limit1 (placed_part types p cut levels s) k1 j1 state k' j' state' (Done (Ok v)) →
          Follows world limit (digits_plan (open_parts types ps) n left levels s) k j state k' j' state'
          (Partly (digits_plan (open_parts types rest) n left' (pushed levels (Some v)) s))
      unfolding digits_plan
      digits_goes v left' less h =
          rw (is, less) (follow_tick el ek ej (follow_then_ok _ _ (rw (← cut_is) h) follow_here))
