use Rattle.std.proofs.Common.{◌≡◌, List, ℕ, Some}
use Rattle.std.specs.Io.KnownBytes.{Appends}
use Rattle.bit_space.specs.SpaceView.{Keeps}
use Rattle.run_parts.proofs.DumpLines.{lines_begun}
use Rattle.run_parts.proofs.dump.put_lines.Given as goal

abbrev pub invariant-loop-i : goal.invariant-loop-i
invariant-loop-i g l =
    Keeps (g.S.Space.view l.initial.space) (g.S.Space.view l.space)
    × ((bytes : List ℕ) → (g.S.Space.view l.initial.space).bytes ≡ Some bytes →
    Appends (g.W.Write.contents l.initial.w) (g.W.Write.contents l.w) (lines_begun l.from l.size bytes l.i))
