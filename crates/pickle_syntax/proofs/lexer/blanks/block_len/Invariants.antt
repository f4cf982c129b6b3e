use Rattle.std.proofs.Common.{◌≡◌, drop}
use Rattle.pickle_syntax.specs.Blanks.{block_len}
use Rattle.pickle_syntax.proofs.Blanks.{plus}
use Rattle.pickle_syntax.proofs.lexer.blanks.block_len.Given as goal

abbrev pub invariant-loop-i : goal.invariant-loop-i
invariant-loop-i l = plus l.i (block_len (drop l.i l.bytes)) ≡ block_len l.bytes
