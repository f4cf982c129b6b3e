use Rattle.std.proofs.Common.{◌+◌, ◌*◌, ◌≡◌, ◌≤◌}
use Rattle.pickle_syntax.specs.Tokens.{tokens_of}
use Rattle.pickle_tree.specs.Tree.{expression_tree}
use Rattle.pickle_syntax.specs.ReadExpressions.{expression_at, chain}
use Rattle.pickle_syntax.proofs.parser.expressions.+expressions.Given as goal

abbrev pub decreases-expression : goal.decreases-expression
decreases-expression l = 4 * l.room

abbrev pub decreases-bracket : goal.decreases-bracket
decreases-bracket l = 4 * l.room + 1

abbrev pub decreases-prefix : goal.decreases-prefix
decreases-prefix l = 4 * l.room + 1

abbrev pub decreases-operand : goal.decreases-operand
decreases-operand l = 4 * l.room + 2

abbrev pub decreases-infix : goal.decreases-infix
decreases-infix l = 4 * l.room + 1

abbrev pub decreases-choice : goal.decreases-choice
decreases-choice l = 4 * l.room + 1

abbrev pub decreases-index : goal.decreases-index
decreases-index l = 4 * l.room + 1

abbrev pub decreases-step : goal.decreases-step
decreases-step l = 4 * l.room + 2

abbrev pub decreases-chain : goal.decreases-chain
decreases-chain l = 4 * l.room + 3

abbrev pub invariant-chain-chain : goal.invariant-chain-chain
invariant-chain-chain l = record {
  same : chain (expression_at l.room) l.room l.steps l.level (expression_tree l.left.expression) (tokens_of l.rest)
      ≡ chain (expression_at l.room) l.room l.initial.steps l.level (expression_tree l.initial.left.expression)
      (tokens_of l.tokens);
  low : l.left.depth ≤ l.room + 1;
}

abbrev pub decreases-chain-chain : goal.decreases-chain-chain
decreases-chain-chain l = l.steps
