use Rattle.std.proofs.Common.{drop}
use Rattle.value_text.proofs.Puts.{Told}
use Rattle.poke_batch.specs.Selected.{line_of}
use Rattle.poke_batch.specs.TypedLines.{lent_sight, typed_patterns}
use Rattle.poke_batch.proofs.selected.put_patterns.Given as goal

abbrev pub invariant-loop-pattern : goal.invariant-loop-pattern
invariant-loop-pattern g l =
    Told g.W.Write.contents l.initial.printer l.printer
    (typed_patterns (lent_sight l.fn.format.sight) l.fn.format.style l.fn.format.mode
    (line_of l.fn.format.line) l.fn.value
    (drop l.pattern-index l.patterns))
    (typed_patterns (lent_sight l.fn.format.sight) l.fn.format.style l.fn.format.mode (line_of l.fn.format.line)
    l.fn.value l.patterns)
