-- What an attempt under a limit of steps says of what a type means.
use Rattle.std.proofs.Common.{◌≡◌, ℕ, ◌+◌, ◌-◌, ◌≤◌, Bool, true, false, length, List, Some, Result, Ok, Err, IfOk, IfErr, inl, inr, refl, sym, ◌∙◌, subst, arith}
use Rattle.std.proofs.lemmas.Bool.{cases_Bool}
use Rattle.bit_space.specs.SpaceView.{SpaceView, HasRisen}
use Rattle.bit_space.specs.declared.order.Order.{Order}
use Rattle.pickle_types.specs.Types.{PokeType}
use Rattle.pickle_meaning.specs.declared.faults.MapFault.{MapFault}
use Rattle.pickle_meaning.specs.declared.faults.MapFaultKind.{MapFaultKind}
use Rattle.pickle_meaning.specs.declared.faults.MapFaultKind.TheVariants as fault
use Rattle.pickle_meaning.specs.Answer.{Answer, in_time, too_long}
use Rattle.pickle_meaning.specs.Clauses.{FaultAt}
use Rattle.pickle_meaning.specs.Means.{Means}
use Rattle.pickle_meaning.specs.Values.{Value, start_of, end_of, no_values}
use Rattle.mapping_plans.proofs.Exists.{plan_means}
use Rattle.mapping_plans.proofs.Outcomes.{values_start, values_wide}
use Rattle.mapping_plans.proofs.Planned.{means_one}
use Rattle.mapping_plans.specs.Mapping.{plan}
use Rattle.mapping_plans.specs.Plan.{Plan, Ended, Tick, Made, Read, steps_of}
use Rattle.pickle_map.proofs.Followed.{walk_leaves}
use Rattle.pickle_map.specs.Follows.{World, NoSteps, NeedsStep, Follows}
use Rattle.pickle_map.specs.Mapped.{EndsRun, FaultMeans}
use Rattle.value_store.specs.Moves.{State}
use Rattle.identification.specs.declared.timed.TheConstants.{MOST_STEPS}
use Rattle.identification.specs.declared.fit.Measured.{Measured}
use Rattle.identification.specs.Attempts.{IsMeasured}
use Rattle.identification.specs.Others.{ended, ends_right, unmapped, BreaksOff, Finds, TakesLonger, FitsInTime, MissesInTime, IsCutOff}

takes_step : {A : Type 0} (bits : List ℕ) (q : Plan A) → NeedsStep q → 1 ≤ steps_of bits q
takes_step bits (Ended a) h = absurd h
takes_step bits (Tick p) h = omega arith
takes_step bits (Made count move levels p) h = absurd h
takes_step bits (Read place width order rest) h = absurd h

-- an outcome in time
pub record InTime (bits : List ℕ) (ty : PokeType) (order : Order) (s : ℕ) (r : Result Value FaultAt) : Type 0 where
  pub steps : ℕ
  pub made : ℕ
  pub means : Means bits ty order no_values s r steps made
  pub few : steps ≤ MOST_STEPS

module _ {bits : List ℕ} {ty : PokeType} {order : Order} {s : ℕ} where
  pub value_in_time : {limit k j : ℕ} {v : Value} → limit ≡ MOST_STEPS → Answer bits ty order s limit (Ok v) k j →
      InTime bits ty order s (Ok v)
  value_in_time most (in_time means le) = record { steps = _; made = _; means = means; few = omega arith }

  fault_in_time : {limit k j : ℕ} {f : FaultAt} → limit ≡ MOST_STEPS → (f.0 ≡ fault.Limit → ⊥) →
      Answer bits ty order s limit (Err f) k j → InTime bits ty order s (Err f)
  fault_in_time most other (in_time means le) = record { steps = _; made = _; means = means; few = omega arith }
  fault_in_time most other (too_long means gt less) = absurd (other refl)

  -- a fault that isn't of the run
  pub meant_in_time : (limit : ℕ) (kind : MapFaultKind) (at k j : ℕ) → limit ≡ MOST_STEPS → (EndsRun kind → ⊥) →
      FaultMeans bits ty order s limit kind at k j → InTime bits ty order s (Err (kind, at))
  meant_in_time limit fault.End at k j most not means = fault_in_time most (λ e. cc) means
  meant_in_time limit fault.Constraint at k j most not means = fault_in_time most (λ e. cc) means
  meant_in_time limit fault.Bounds at k j most not means = fault_in_time most (λ e. cc) means
  meant_in_time limit fault.NoBits at k j most not means = fault_in_time most (λ e. cc) means
  meant_in_time limit fault.Zero at k j most not means = fault_in_time most (λ e. cc) means
  meant_in_time limit fault.Overflow at k j most not means = fault_in_time most (λ e. cc) means
  meant_in_time limit fault.Absent at k j most not means = fault_in_time most (λ e. cc) means
  meant_in_time limit fault.Index at k j most not means = fault_in_time most (λ e. cc) means
  meant_in_time limit fault.Limit at k j most not means = absurd (not tt)
  meant_in_time limit fault.Device at k j most not means = absurd (not tt)
  meant_in_time limit fault.Memory at k j most not means = absurd (not tt)

  -- an outcome in time is not one that takes longer
  pub not_longer : {r : Result Value FaultAt} → InTime bits ty order s r → TakesLonger bits ty order s → ⊥
  not_longer h longer =
      let same = (means_one h.means longer.means).1 in
      let few = h.few in
      let many = longer.many in
      absurd (omega arith)

  -- where the type means a fault in time, it misses
  pub fault_misses : {f : FaultAt} (whole : Bool) → InTime bits ty order s (Err f) → MissesInTime bits ty order whole s
  fault_misses whole h = record {
    none = λ value maps. let same = (means_one h.means maps.means).0 in cc;
    done = not_longer h;
  }

  -- the end of a value, by its size
  pub ends_at : {v : Value} → InTime bits ty order s (Ok v) → (size : ℕ) →
      size ≡ end_of v - start_of v → s + size ≡ end_of v
  ends_at {v} h size is =
      let starts = values_start bits ty order no_values s v h.steps h.made h.means in
      let wide = (values_wide bits ty order no_values s v h.steps h.made h.means).0 in
      omega arith

  pub value_fits : {v : Value} (whole : Bool) (measured : Measured) (end size : ℕ) → InTime bits ty order s (Ok v) →
      IsMeasured ty v measured → end ≡ s + measured.size → size ≡ length bits → ends_right whole end size ≡ true →
      FitsInTime bits ty order whole s measured
  value_fits {v} whole measured end size h is at all right =
      let there : end ≡ end_of v = at ∙ ends_at h measured.size is.size in
      record {
        value = v;
        maps = record {
          steps = h.steps;
          made = h.made;
          means = h.means;
          few = h.few;
          ends = subst (λ n. ends_right whole (end_of v) n ≡ true) all
              (subst (λ n. ends_right whole n size ≡ true) there right);
        };
        is = is;
        done = not_longer h;
      }

  pub value_misses : {v : Value} (whole : Bool) (measured : Measured) (end size : ℕ) → InTime bits ty order s (Ok v) →
      IsMeasured ty v measured → end ≡ s + measured.size → size ≡ length bits → ends_right whole end size ≡ false →
      MissesInTime bits ty order whole s
  value_misses {v} whole measured end size h is at all wrong =
      let there : end ≡ end_of v = at ∙ ends_at h measured.size is.size in
      let no : ends_right whole (end_of v) (length bits) ≡ false =
      subst (λ n. ends_right whole (end_of v) n ≡ false) all
      (subst (λ n. ends_right whole n size ≡ false) there wrong) in
      record {
        none = λ value maps.
            let same = (means_one h.means maps.means).0 in
            let one : v ≡ value = cc in
            let yes : ends_right whole (end_of v) (length bits) ≡ true =
            subst (λ w. ends_right whole (end_of w) (length bits) ≡ true) (sym one) maps.ends in
            cc;
        done = not_longer h;
      }

  -- a run that had no step left
  pub cut_off : {world : World} {limit k j k' j' : ℕ} {state state' : State} (size : ℕ) (whole : Bool) →
      world.known ≡ Some bits →
      size ≡ length bits → limit ≡ MOST_STEPS → k ≡ 0 →
      Follows world limit (plan size ty order no_values s) k j state k' j' state' NoSteps →
      IsCutOff bits ty order whole s
  cut_off {world} {limit} {k} {j} {k'} {j'} {state} {state'} size whole known all most none h =
      let h : Follows world limit (plan (length bits) ty order no_values s) k j state k' j' state' NoSteps =
      subst (λ n. Follows world limit (plan n ty order no_values s) k j state k' j' state' NoSteps) all h in
      let l = walk_leaves bits known h.walk in
      let one = takes_step bits h.rest h.ends.0 in
      let e = h.ends.1 in
      let x = l.steps in
      let longer : TakesLonger bits ty order s = record {
        outcome = _;
        steps = _;
        made = _;
        means = plan_means bits ty order no_values s;
        many = omega arith;
      } in
      record {
        longer = longer;
        none = λ value maps. not_longer
            (record { steps = maps.steps; made = maps.made; means = maps.means; few = maps.few }) longer;
      }

  -- what an attempt finds that comes to a value
  pub value_found : {v : Value} (whole : Bool) (measured : Measured) (size : ℕ) → InTime bits ty order s (Ok v) →
      IsMeasured ty v measured → size ≡ length bits → Finds bits ty order whole s (ended s size whole measured)
  value_found whole measured size h is all = elim (cases_Bool (ends_right whole (s + measured.size) size)) [
    | inl right ↦ rw right (value_fits whole measured (s + measured.size) size h is refl all right)
    | inr wrong ↦ rw wrong (value_misses whole measured (s + measured.size) size h is refl all wrong)
  ]

  -- what one finds that comes to a fault
  pub fault_found : (whole : Bool) (limit : ℕ) (kind : MapFaultKind) (at k j : ℕ) (stop : MapFault) →
      limit ≡ MOST_STEPS →
      FaultMeans bits ty order s limit kind at k j → (kind ≡ fault.Limit → IsCutOff bits ty order whole s) →
      IfOk (unmapped kind stop) (Finds bits ty order whole s)
  fault_found whole limit fault.End at k j stop most means cut =
      fault_misses whole (meant_in_time limit fault.End at k j most (λ e. e) means)
  fault_found whole limit fault.Constraint at k j stop most means cut =
      fault_misses whole (meant_in_time limit fault.Constraint at k j most (λ e. e) means)
  fault_found whole limit fault.Bounds at k j stop most means cut =
      fault_misses whole (meant_in_time limit fault.Bounds at k j most (λ e. e) means)
  fault_found whole limit fault.NoBits at k j stop most means cut =
      fault_misses whole (meant_in_time limit fault.NoBits at k j most (λ e. e) means)
  fault_found whole limit fault.Zero at k j stop most means cut =
      fault_misses whole (meant_in_time limit fault.Zero at k j most (λ e. e) means)
  fault_found whole limit fault.Overflow at k j stop most means cut =
      fault_misses whole (meant_in_time limit fault.Overflow at k j most (λ e. e) means)
  fault_found whole limit fault.Absent at k j stop most means cut =
      fault_misses whole (meant_in_time limit fault.Absent at k j most (λ e. e) means)
  fault_found whole limit fault.Index at k j stop most means cut =
      fault_misses whole (meant_in_time limit fault.Index at k j most (λ e. e) means)
  fault_found whole limit fault.Limit at k j stop most means cut = cut refl
  fault_found whole limit fault.Device at k j stop most means cut = tt
  fault_found whole limit fault.Memory at k j stop most means cut = tt

-- what ends an attempt that finds nothing
pub breaks_off : (before after : SpaceView) (kind : MapFaultKind) (stop : MapFault) → stop.kind ≡ kind →
    (kind ≡ fault.Device → HasRisen before.failures after.failures) →
    IfErr (unmapped kind stop) (BreaksOff before after)
breaks_off before after fault.End stop e device = tt
breaks_off before after fault.Constraint stop e device = tt
breaks_off before after fault.Bounds stop e device = tt
breaks_off before after fault.NoBits stop e device = tt
breaks_off before after fault.Zero stop e device = tt
breaks_off before after fault.Overflow stop e device = tt
breaks_off before after fault.Absent stop e device = tt
breaks_off before after fault.Index stop e device = tt
breaks_off before after fault.Limit stop e device = tt
breaks_off before after fault.Device stop e device = record {
  ends = subst EndsRun (sym e) tt;
  timely = λ f. cc;
  device = λ f. device refl;
}
breaks_off before after fault.Memory stop e device = record {
  ends = subst EndsRun (sym e) tt;
  timely = λ f. cc;
  device = λ f. cc;
}
