use Rattle.std.proofs.Common.{◌≡◌, ◌+◌, ◌≤◌, length}
use Rattle.pickle_syntax.specs.Tokens.{tokens_of}
use Rattle.pickle_syntax.specs.Lexing.{lexed_from}
use Rattle.pickle_syntax.proofs.Lexed.{with_before}
use Rattle.pickle_syntax.proofs.lexer.tokens_from.Given as goal

abbrev pub invariant-loop-rest : goal.invariant-loop-rest
invariant-loop-rest l = record {
  same : with_before (tokens_of l.kinds.items) l.spans.items (lexed_from 0 l.at l.rest) ≡ lexed_from 0 0 l.bytes;
  place : l.at + length l.rest ≡ length l.bytes;
  paired : length l.kinds.items ≡ length l.spans.items;
  few : length l.kinds.items ≤ l.at;
}

abbrev pub decreases-loop-rest : goal.decreases-loop-rest
decreases-loop-rest l = length l.rest
