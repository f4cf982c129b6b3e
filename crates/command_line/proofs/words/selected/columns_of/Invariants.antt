use Rattle.std.proofs.Common.{map, take}
use Rattle.command_line.specs.Selects.{AreColumns}
use Rattle.command_line.proofs.words.selected.columns_of.Given as goal

abbrev pub invariant-loop-word : goal.invariant-loop-word
invariant-loop-word l = AreColumns (map (λ word. word.now) (take l.word-index l.words)) l.columns.items
