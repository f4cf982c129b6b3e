-- What is written of a part, over the space as it was before the mapping.
use Rattle.std.proofs.Common.{◌≡◌, ℕ, List, Option, subst}
use Rattle.bit_space.specs.SpaceView.{SpaceView, Keeps}
use Rattle.pickle_meaning.specs.Values.{Value}
use Rattle.poke_batch.specs.declared.type_run.TypeRun.{TypeRun}
use Rattle.raw_parts.proofs.Copying.{breaks_later, copies_before}
use Rattle.raw_parts.specs.Copied.{Copies, CopiesSome}
use Rattle.raw_parts.specs.Places.{HasPlace, IsDue, LacksBytes, bytes_end}
use Rattle.raw_parts.specs.declared.place.ByteRange.{ByteRange}
use Rattle.raw_parts.specs.Written.{WritesPart, lacks_memory, writes_all, writes_none, writes_some}
use Rattle.run_parts.specs.declared.outcome.Failure.{Failure}
use Rattle.run_parts.specs.declared.outcome.Outcome.{Outcome}
use Rattle.run_parts.specs.declared.outcome.Outcome.TheVariants as outcome

module _ (run : TypeRun) (before mid after : SpaceView) (since : Keeps before mid) (later : Keeps mid after)
    (value : Value) (out out' : Option (List ℕ)) where
  due_before : (part : Value) → IsDue run mid.len value part → IsDue run before.len value part
  due_before part due = subst (λ (len : ℕ). IsDue run len value part) since.len due

  pub part_before : (ended : Outcome) → WritesPart run mid after value out out' ended →
      WritesPart run before after value out out' ended
  part_before _ (writes_all {part = part} due copies) =
      writes_all (due_before part due) (copies_before before mid _ _ out out' since copies)
  part_before _ (writes_some {part = part} {failed = failed} due some) =
      writes_some (due_before part due) (record {
        breaks = breaks_later before mid after failed since later some.breaks;
        place = some.place;
        starts = some.starts;
        less = some.less;
        copies = copies_before before mid _ _ out out' since some.copies;
      })
  part_before ended (writes_none lacks keeps) =
      writes_none (subst (λ (len : ℕ). LacksBytes run len value ended) since.len lacks) keeps
  part_before _ (lacks_memory keeps) = lacks_memory keeps

-- the bytes of a range, or some of them, were written of the part that it was found for
module _ (run : TypeRun) (before after : SpaceView) (value : Value) (out out' : Option (List ℕ)) (len : ℕ)
    (range : ByteRange) (same : len ≡ before.len) (place : HasPlace run len value range) where
  due_there : IsDue run before.len value place.part
  due_there = subst (λ (n : ℕ). IsDue run n value place.part) same place.due

  pub all_written : Copies before range.from range.end out out' →
      WritesPart run before after value out out' outcome.Done
  all_written copies =
      writes_all due_there
      (subst (λ (from : ℕ). Copies before from (bytes_end place.part) out out') place.from
      (subst (λ (end : ℕ). Copies before range.from end out out') place.end copies))

  pub some_written : (failed : Failure) → CopiesSome before after range.from range.end out out' failed →
      WritesPart run before after value out out' (outcome.Failed failed)
  some_written failed some =
      writes_some due_there
      (subst (λ (from : ℕ). CopiesSome before after from (bytes_end place.part) out out' failed) place.from
      (subst (λ (end : ℕ). CopiesSome before after range.from end out out' failed) place.end some))
