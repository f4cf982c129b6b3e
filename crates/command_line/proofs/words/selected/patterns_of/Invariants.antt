use Rattle.std.proofs.Common.{map, take}
use Rattle.command_line.specs.Selects.{ArePatterns}
use Rattle.command_line.proofs.words.selected.patterns_of.Given as goal

abbrev pub invariant-loop-word : goal.invariant-loop-word
invariant-loop-word l = ArePatterns (map (λ word. word.now) (take l.word-index l.words)) l.patterns.items
