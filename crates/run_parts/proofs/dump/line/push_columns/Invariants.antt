use Rattle.std.proofs.Common.{◌≡◌, ◌+◌, ◌*◌, ◌≤◌, ◌++◌, take}
use Rattle.std.specs.List.{flat_map, range_with_len}
use Rattle.run_parts.specs.DumpText.{column}
use Rattle.run_parts.proofs.dump.line.push_columns.Given as goal

abbrev pub invariant-loop-i : goal.invariant-loop-i
invariant-loop-i l =
    (take l.at l.line ≡ take l.start l.initial.line ++ flat_map (column l.bytes) (range_with_len 0 l.i))
    × (l.at ≤ l.start + 3 * l.i)
