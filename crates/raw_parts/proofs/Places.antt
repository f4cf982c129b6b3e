-- The place of the requested part of a value, as it was found.
use Rattle.std.proofs.Common.{◌≡◌, ◌∙◌, ◌-◌, ◌+◌, ◌*◌, ℕ, Bool, true, false, List, Option, Some, ap, sym, subst, arith}
use Rattle.pickle_meaning.specs.Values.{Value, end_of, start_of}
use Rattle.pickle_types.specs.TypeTable.{nodes_of}
use Rattle.pickle_types.specs.declared.node.Node.{Node}
use Rattle.poke_batch.proofs.AllMembers.{member_has}
use Rattle.poke_batch.proofs.PartsKept.{part_keeps}
use Rattle.poke_batch.specs.PathParts.{part_at}
use Rattle.poke_batch.specs.RunsUnder.{is_left}
use Rattle.poke_batch.specs.declared.type_run.TypeRun.{TypeRun}
use Rattle.raw_parts.proofs.Ranges.{within_ends}
use Rattle.raw_parts.proofs.WithinFiles.{within_each}
use Rattle.raw_parts.specs.Places.{HasBytes, HasPlace, HasRequested, LacksBytes, are_own_bytes, bytes_from, ends_early, has_bytes, has_too_many, is_too_long, too_long, unaligned}
use Rattle.raw_parts.specs.Within.{IsWithin}
use Rattle.raw_parts.specs.declared.place.ByteRange.{ByteRange}
use Rattle.run_parts.specs.declared.outcome.Outcome.TheVariants as outcome

-- the end of a value that is in a file, from its start and its size
pub end_is : (m start size : ℕ) (value : Value) → IsWithin m value → start ≡ start_of value
    → size ≡ end_of value - start_of value → start + size ≡ end_of value
end_is m start size value within starts sizes =
    let ends = within_ends m value within in let forward = ends.0 in omega (arith, starts, sizes, forward)

-- whether it ends early, as it was found
pub left_told : (whole : Bool) (end end' bits bits' : ℕ) (result : Bool) → result ≡ is_left whole end bits
    → end ≡ end' → bits ≡ bits' → is_left whole end' bits' ≡ result
left_told whole end end' bits bits' result told same wide =
    ap (λ (e : ℕ). is_left whole e bits') (sym same) ∙ ap (is_left whole end) (sym wide) ∙ sym told

pub ended_early : (run : TypeRun) (len end : ℕ) (value : Value) → end ≡ end_of value
    → is_left run.terms.now.whole (end_of value) (8 * len) ≡ true → LacksBytes run len value (outcome.Left end)
ended_early run len end value same left =
    subst (λ (e : ℕ). LacksBytes run len value (outcome.Left e)) (sym same) (ends_early left)

module _ (run : TypeRun) (len : ℕ) (value part : Value) (within : IsWithin (8 * len) value)
    (ends : is_left run.terms.now.whole (end_of value) (8 * len) ≡ false)
    (there : part_at run.terms.now.part value ≡ Some part) (nodes : List Node) (of : Option ℕ) (whole : Value)
    (same_nodes : nodes ≡ nodes_of run.table.now) (same_node : of ≡ Some run.id.node) (same : whole ≡ value) where
  requested : HasRequested run value len part
  requested = record { ends = ends; there = there }

  part_within : IsWithin (8 * len) part
  part_within =
      part_keeps (IsWithin (8 * len)) (member_has (within_each (8 * len))) run.terms.now.part value part within there

  own_as : are_own_bytes nodes of run.terms.now.part whole part ≡ has_bytes run value part
  own_as =
      ap (λ (l : List Node). are_own_bytes l of run.terms.now.part whole part) same_nodes
      ∙ ap (λ (o : Option ℕ). are_own_bytes (nodes_of run.table.now) o run.terms.now.part whole part) same_node
      ∙ ap (λ (v : Value). are_own_bytes (nodes_of run.table.now) (Some run.id.node) run.terms.now.part v part) same

  -- it has no bytes of its own
  pub lacks_own : (start : ℕ) → start ≡ start_of part
      → (IsWithin (8 * len) part → are_own_bytes nodes of run.terms.now.part whole part ≡ false)
      → LacksBytes run len value (outcome.Unaligned start)
  lacks_own start at lacks =
      subst (λ (bit : ℕ). LacksBytes run len value (outcome.Unaligned bit)) (sym at)
      (unaligned requested (sym own_as ∙ lacks part_within))

  module _ (range : ByteRange)
      (has : IsWithin (8 * len) part → HasBytes (are_own_bytes nodes of run.terms.now.part whole) part range)
      (result : Bool) (told : result ≡ is_too_long run.terms.now.most_output (range.end - range.from)) where
    bytes : HasBytes (are_own_bytes nodes of run.terms.now.part whole) part range
    bytes = has part_within

    owns : has_bytes run value part ≡ true
    owns = sym own_as ∙ bytes.well

    many_as : has_too_many run value part ≡ result
    many_as =
        ap (λ (end : ℕ). is_too_long run.terms.now.most_output (end - bytes_from part)) (sym bytes.end)
        ∙ ap (λ (from : ℕ). is_too_long run.terms.now.most_output (range.end - from)) (sym bytes.from) ∙ sym told

    -- it has too many
    pub lacks_room : result ≡ true → LacksBytes run len value (outcome.Output run.ask.now.start)
    lacks_room many = too_long requested owns (many_as ∙ many)

    -- it is to be written
    pub has_place : result ≡ false → HasPlace run len value range
    has_place few = record {
      part = part;
      due = record { requested = requested; bytes = owns; few = many_as ∙ few };
      from = bytes.from;
      end = bytes.end;
    }
