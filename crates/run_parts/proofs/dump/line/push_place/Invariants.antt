use Rattle.std.proofs.Common.{◌≡◌, ◌+◌, ◌-◌, ◌*◌, ◌/◌, ◌^◌, ◌++◌, take}
use Rattle.run_parts.proofs.DumpLines.{hex_digits}
use Rattle.run_parts.proofs.dump.line.push_place.Given as goal

abbrev pub invariant-loop-i : goal.invariant-loop-i
invariant-loop-i l =
    (take l.at l.line ≡ take l.start l.initial.line ++ hex_digits l.i (l.place / 2 ^ (4 * (l.count - l.i))))
    × (l.at ≡ l.start + l.i)
