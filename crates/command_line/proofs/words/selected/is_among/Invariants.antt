use Rattle.std.proofs.Common.{◌≡◌, map, length}
use Rattle.command_line.specs.Selects.{is_among}
use Rattle.command_line.proofs.words.selected.is_among.Given as goal

abbrev pub invariant-loop-rest : goal.invariant-loop-rest
invariant-loop-rest l = is_among l.word (map (λ other. other.now) l.others)
    ≡ is_among l.word (map (λ other. other.now) l.rest)

abbrev pub decreases-loop-rest : goal.decreases-loop-rest
decreases-loop-rest l = length l.rest
