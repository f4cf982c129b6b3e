-- Calls that follow the plan of a clause, as it settles, and of a value with its constraint.
use Rattle.std.proofs.Common.{◌≡◌, ℕ, ◌+◌, ◌<◌, ◌≤◌, Option, Some, Result, Ok, Err, subst, ◌∙◌}
use Rattle.pickle_types.specs.Types.{Term}
use Rattle.pickle_map.specs.declared.mapper.stop.Stop.{Stop}
use Rattle.pickle_map.specs.declared.mapper.stop.Stop.TheVariants.{Fault, Limit, Device, Memory}
use Rattle.pickle_meaning.specs.Values.{Value, Levels, pushed}
use Rattle.pickle_meaning.specs.Clauses.{FaultAt, constraint, clause_steps}
use Rattle.pickle_map.specs.Settles.{Settles}
use Rattle.value_store.specs.Moves.{State}
use Rattle.mapping_plans.specs.Plan.{Plan, after, then_ok}
use Rattle.pickle_map.specs.Follows.{World, Done, Follows}
use Rattle.mapping_plans.specs.Mapping.{constrained}
use Rattle.pickle_map.specs.Stops.{stop_finish}
use Rattle.pickle_map.proofs.Walks.{follow_done, follow_after, follow_after_some, follow_then_ok, follow_stop}

module _ {world : World} {limit limit' k j k' j' : ℕ} {state : State} where
  -- a clause with its outcome
  pub settles_ok : {A : Type 0} (n : ℕ) (o : Result A FaultAt) (x : A) → limit' ≡ limit →
      Settles limit' k k' (Ok x) o n → j' ≡ j → Follows world limit (after n o) k j state k' j' state (Done (Ok x))
  settles_ok n o x el h ej = rw h.0 (follow_after n (Ok x) h.1 ej)

  -- a clause with a fault, or without a step left
  pub settles_stop : {A : Type 0} (n : ℕ) (o : Result A FaultAt) (stop : Stop) → limit' ≡ limit → k ≤ limit →
      Settles limit' k k' (Err stop) o n → j' ≡ j →
      Follows world limit (after n o) k j state k' j' state (stop_finish stop)
  settles_stop n o (Fault kind place) el le h ej = rw h.0 (follow_after n (Err (kind, place)) h.1 ej)
  settles_stop n o Limit el le h ej = follow_after_some n o le (subst (λ l. l < k + n) el h.1) (h.0 ∙ el) ej
  settles_stop n o Device el le h ej = absurd h
  settles_stop n o Memory el le h ej = absurd h

module _ {world : World} {limit : ℕ} (c : Option Term) (levels : Levels) (place : ℕ) (p : Plan (Result Value FaultAt))
    {limit1 k j k1 j1 k2 j2 : ℕ} {state state1 : State} (v : Value)
    (value : Follows world limit p k j state k1 j1 state1 (Done (Ok v))) (el : limit1 ≡ limit) (ej : j2 ≡ j1) where
  -- a value whose constraint holds
  pub checks_ok : (u : Unit {0}) →
      Settles limit1 k1 k2 (Ok u) (constraint c (pushed levels (Some v)) place)
      (clause_steps c (pushed levels (Some v))) →
      Follows world limit (then_ok p (constrained c levels place)) k j state k2 j2 state1 (Done (Ok v))
  unfolding constrained
  checks_ok u h =
      follow_then_ok p (constrained c levels place) value (follow_then_ok _ _ (settles_ok _ _ u el h ej) follow_done)

  -- a value whose constraint stops
  pub checks_stop : (stop : Stop) → k1 ≤ limit →
      Settles limit1 k1 k2 (Err stop) (constraint c (pushed levels (Some v)) place)
      (clause_steps c (pushed levels (Some v))) →
      Follows world limit (then_ok p (constrained c levels place)) k j state k2 j2 state1 (stop_finish stop)
  unfolding constrained
  checks_stop stop le h =
      follow_then_ok p (constrained c levels place) value (follow_stop _ _ stop (settles_stop _ _ stop el le h ej))
