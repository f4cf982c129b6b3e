use Rattle.std.proofs.Common.{◌≡◌, drop, ◌<◌, ◌^◌}
use Rattle.pickle_syntax.specs.Numbers.{value_after}
use Rattle.pickle_syntax.proofs.lexer.numbers.value_of.Given as goal

abbrev pub invariant-loop-d : goal.invariant-loop-d
invariant-loop-d l = record {
  same : value_after l.base l.value (drop l.d-index l.digits) ≡ value_after l.base 0 l.digits;
  low : l.value < 2 ^ 64;
}
