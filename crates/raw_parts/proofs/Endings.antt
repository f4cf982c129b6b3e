-- How a mapping without a value ends.
use Rattle.std.proofs.Common.{◌≡◌, ◌<◌, ◌*◌, ℕ, Option, Some, None, refl, subst, sym, inl, inr, List}
use Rattle.bit_space.specs.Bits.{bits_of}
use Rattle.bit_space.specs.SpaceView.{SpaceView}
use Rattle.mapping_plans.specs.Kept.{KeepsBy}
use Rattle.mapping_plans.specs.Mapping.{plan}
use Rattle.pickle_map.specs.Weighed.{WeighsBy}
use Rattle.pickle_meaning.specs.Values.{no_values}
use Rattle.pickle_meaning.specs.declared.faults.MapFaultKind.{MapFaultKind}
use Rattle.pickle_meaning.specs.declared.faults.MapFaultKind.TheVariants as fault
use Rattle.pickle_types.specs.Bounds.{room as room_of}
use Rattle.poke_batch.specs.Runs.{MapsAs}
use Rattle.poke_batch.proofs.UnderTerms.{few_of, heavy_of, least_of, weighing_or_memory}
use Rattle.poke_batch.specs.RunsUnder.{AreTooFew, IsStoreUnder, end_saying, end_under_saying, weighing_saying}
use Rattle.poke_batch.specs.TypeRuns.{run_type}
use Rattle.poke_batch.specs.declared.type_run.TypeRun.{TypeRun}
use Rattle.raw_parts.specs.Mapped.{HasNoValue, has_fault, lacks_slots, too_heavy}
use Rattle.run_parts.proofs.Sayings.{outcome_lines}
use Rattle.run_parts.specs.FaultLines.{fault_saying}
use Rattle.run_parts.specs.Outcomes.{outcome_saying}
use Rattle.run_parts.specs.declared.outcome.Outcome.{Outcome}
use Rattle.run_parts.specs.declared.outcome.Outcome.TheVariants as outcome
use Rattle.value_store.specs.Moves.{IsWithin, no_state}
use Rattle.value_store.specs.Promises.{least_capacity}
use Rattle.value_store.specs.Slots.{Held, each_of, emptied, packs}
use Rattle.value_store.specs.Weights.{IsUnbounded, TakesWeight}
use Rattle.value_store.specs.declared.store.room.Growth.TheVariants.{Never}
use Rattle.value_store.specs.declared.store.room.Room.{Room}

module _ (pickle : List ℕ) (run : TypeRun) (before after : SpaceView) where
  -- what ends a mapping without terms ends it
  pub as_without : (ended : Outcome) → MapsAs pickle run.ask.now before after (outcome_saying ended)
      → HasNoValue pickle run before after (outcome_saying ended)
  as_without ended right =
      let line = outcome_lines ended in
      subst (HasNoValue pickle run before after) (sym line)
      (has_fault (subst (MapsAs pickle run.ask.now before after) line right))

  as_fault : (kind : MapFaultKind) (at : ℕ) → MapsAs pickle run.ask.now before after (fault_saying kind at)
      → HasNoValue pickle run before after (fault_saying kind at)
  as_fault kind at right = as_without (outcome.Fault (record { kind = kind; at = at })) right

  -- in a store of the most slots an allocation failure is the fault `Slots`
  ends_with : (most : Option ℕ) (kind : MapFaultKind) (at : ℕ) → run.terms.now.most_slots ≡ most
      → (kind ≡ fault.Memory → (n : ℕ) → most ≡ Some n → n < room_of (run_type run) (8 * before.len))
      → (kind ≡ fault.Memory → (n : ℕ) → most ≡ Some n → AreTooFew n (run_type run) run.ask.now before)
      → MapsAs pickle run.ask.now before after (fault_saying kind at)
      → HasNoValue pickle run before after (end_saying most run.ask.now.start kind at)
  ends_with None kind at e less few right = as_fault kind at right
  ends_with (Some n) fault.End at e less few right = as_fault fault.End at right
  ends_with (Some n) fault.Constraint at e less few right = as_fault fault.Constraint at right
  ends_with (Some n) fault.Bounds at e less few right = as_fault fault.Bounds at right
  ends_with (Some n) fault.NoBits at e less few right = as_fault fault.NoBits at right
  ends_with (Some n) fault.Zero at e less few right = as_fault fault.Zero at right
  ends_with (Some n) fault.Overflow at e less few right = as_fault fault.Overflow at right
  ends_with (Some n) fault.Absent at e less few right = as_fault fault.Absent at right
  ends_with (Some n) fault.Index at e less few right = as_fault fault.Index at right
  ends_with (Some n) fault.Limit at e less few right = as_fault fault.Limit at right
  ends_with (Some n) fault.Device at e less few right = as_fault fault.Device at right
  ends_with (Some n) fault.Memory at e less few right = lacks_slots e (less refl n refl) (few refl n refl)

  -- in a store for so many bytes it is the fault `Storage`
  module _ (kind : MapFaultKind) (at : ℕ) (old cleared : Held) (room : Room) (left : ℕ) (same : cleared ≡ emptied old)
      (exact : cleared.room.growth ≡ Never → cleared.capacity ≡ each_of cleared.room.least)
      (alike : room.growth ≡ cleared.room.growth) (full : left ≡ run.ask.now.limit)
      (less : kind ≡ fault.Memory → IsUnbounded cleared.room →
      least_capacity cleared.capacity < room_of (run_type run) (8 * before.len))
      (wants : kind ≡ fault.Memory → (bytes : List ℕ) → before.bytes ≡ Some bytes
      → KeepsBy (λ state. IsWithin state cleared.capacity) (packs room) (bits_of bytes)
      (plan (8 * before.len) (run_type run) run.ask.now.order no_values run.ask.now.start) left no_state
      → WeighsBy (TakesWeight room) (packs room) (bits_of bytes)
      (plan (8 * before.len) (run_type run) run.ask.now.order no_values run.ask.now.start) left no_state → ⊥)
      (right : MapsAs pickle run.ask.now before after (fault_saying kind at)) where
    ends_by : (bytes : Option ℕ) → run.terms.now.most_bytes ≡ bytes
        → IsStoreUnder run.terms.now.most_slots bytes old
        → HasNoValue pickle run before after
        (end_under_saying run.terms.now.most_slots bytes run.ask.now.start kind at)
    ends_by None e is =
        let most = run.terms.now.most_slots in
        ends_with most kind at refl
        (λ memory. least_of most old cleared is same exact (less memory))
        (λ memory. few_of most old cleared room (run_type run) run.ask.now before left is same alike exact full
        (wants memory))
        right
    ends_by (Some most) e is =
        elim (weighing_or_memory run.ask.now.start kind at) [
          | inl memory ↦ subst (λ k. HasNoValue pickle run before after (weighing_saying run.ask.now.start k at))
              (sym memory)
              (too_heavy e (heavy_of most old cleared room (run_type run) run.ask.now before left is same alike full
              (wants memory)))
          | inr same ↦ subst (HasNoValue pickle run before after) same (as_fault kind at right)
        ]

    pub ends_under : IsStoreUnder run.terms.now.most_slots run.terms.now.most_bytes old
        → HasNoValue pickle run before after
        (end_under_saying run.terms.now.most_slots run.terms.now.most_bytes run.ask.now.start kind at)
    ends_under is = ends_by run.terms.now.most_bytes refl is
