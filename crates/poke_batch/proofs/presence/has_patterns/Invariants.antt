use Rattle.std.proofs.Common.{◌≡◌, drop}
use Rattle.value_text.specs.TypedValue.{nodes_in, types_in}
use Rattle.poke_batch.specs.Selected.{OfPart, part_in, all_of, has_pattern}
use Rattle.poke_batch.proofs.presence.has_patterns.Given as goal

abbrev pub invariant-loop-pattern : goal.invariant-loop-pattern
invariant-loop-pattern l =
    all_of (λ pattern. has_pattern (nodes_in (types_in l.fn.value)) OfPart (part_in l.fn.value) pattern.steps.items)
    l.patterns
    ≡ all_of (λ pattern. has_pattern (nodes_in (types_in l.fn.value)) OfPart (part_in l.fn.value) pattern.steps.items)
    (drop l.pattern-index l.patterns)
