-- The column is that after the bytes so far, and at most one more than their number.
use Rattle.std.proofs.Common.{◌≡◌, ◌+◌, ◌≤◌, take, fold}
use Rattle.pickle_source.specs.Places.{next_column}
use Rattle.pickle_source.proofs.line_column.column_behind.Given as goal

abbrev pub invariant-loop-byte : goal.invariant-loop-byte
invariant-loop-byte l = (l.column ≡ fold next_column 1 (take l.byte-index l.before)) × (l.column ≤ l.byte-index + 1)
