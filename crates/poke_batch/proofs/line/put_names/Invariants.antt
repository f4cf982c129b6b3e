use Rattle.std.proofs.Common.{true, drop}
use Rattle.value_text.proofs.Puts.{Told}
use Rattle.poke_batch.specs.Selected.{names_text}
use Rattle.poke_batch.proofs.line.put_names.Given as goal

abbrev pub invariant-loop-column : goal.invariant-loop-column
invariant-loop-column g l =
    Told g.W.Write.contents l.initial.printer l.printer (names_text l.first (drop l.column-index l.columns))
    (names_text true l.columns)
