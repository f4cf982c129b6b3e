use Rattle.std.proofs.Common.{◌≡◌, ◌+◌, ◌≤◌, length}
use Rattle.pickle_syntax.specs.Texts.{text_from}
use Rattle.pickle_syntax.proofs.Texts.{with_front}
use Rattle.pickle_syntax.proofs.lexer.texts.text_from.Given as goal

abbrev pub invariant-loop-rest : goal.invariant-loop-rest
invariant-loop-rest l = record {
  same : with_front l.value.items (text_from l.quote 0 l.at l.rest) ≡ text_from l.quote 0 l.start l.bytes;
  after : l.start ≤ l.at;
  place : l.at + length l.rest ≡ l.start + length l.bytes;
}

abbrev pub decreases-loop-rest : goal.decreases-loop-rest
decreases-loop-rest l = length l.rest
