use Rattle.std.proofs.Common.{◌≡◌, drop, ◌<◌, ◌^◌}
use Rattle.value_notes.specs.Numerals.{value_after}
use Rattle.value_notes.proofs.numerals.value_of.Given as goal

abbrev pub invariant-loop-digit : goal.invariant-loop-digit
invariant-loop-digit l = record {
  same : value_after l.base l.value (drop l.digit-index l.digits) ≡ value_after l.base 0 l.digits;
  low : l.value < 2 ^ 64;
}
