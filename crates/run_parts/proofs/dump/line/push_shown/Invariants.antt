use Rattle.std.proofs.Common.{◌≡◌, ◌+◌, ◌++◌, take, map}
use Rattle.run_parts.specs.DumpText.{shown}
use Rattle.run_parts.proofs.dump.line.push_shown.Given as goal

abbrev pub invariant-loop-byte : goal.invariant-loop-byte
invariant-loop-byte l =
    (take l.at l.line ≡ take l.start l.initial.line ++ map shown (take l.byte-index l.bytes))
    × (l.at ≡ l.start + l.byte-index)
