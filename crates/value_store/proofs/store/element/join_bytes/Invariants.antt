use Rattle.std.proofs.Common.{◌≡◌, ◌-◌, length, drop}
use Rattle.value_store.specs.Packed.{bytes_number}
use Rattle.value_store.proofs.store.element.join_bytes.Given as goal

abbrev pub invariant-loop-i : goal.invariant-loop-i
invariant-loop-i l = l.number ≡ bytes_number (drop (length l.bytes - l.i) l.bytes)
