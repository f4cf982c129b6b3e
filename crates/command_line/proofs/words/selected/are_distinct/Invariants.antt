use Rattle.std.proofs.Common.{◌≡◌, map, length}
use Rattle.command_line.specs.Selects.{are_distinct}
use Rattle.command_line.proofs.words.selected.are_distinct.Given as goal

abbrev pub invariant-loop-rest : goal.invariant-loop-rest
invariant-loop-rest l =
    are_distinct (map (λ word. word.now) l.words) ≡ are_distinct (map (λ word. word.now) l.rest)

abbrev pub decreases-loop-rest : goal.decreases-loop-rest
decreases-loop-rest l = length l.rest
