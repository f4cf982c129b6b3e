-- Reading an expression, as a function on lists.
use Rattle.std.specs.Prelude.{ℕ, zero, suc, ◌+◌, nat_lt, if◌then◌else◌, List, [], ◌∷◌, length, drop, Result, Ok, Err}
use denote.Bor.{Bor}
use Rattle.pickle_syntax.specs.declared.token.Kind.{Kind}
use Rattle.pickle_syntax.specs.declared.token.Sign.TheVariants as sign
use Rattle.pickle_syntax.specs.declared.parser.operators.Start.{Start}
use Rattle.pickle_syntax.specs.declared.parser.operators.Start.TheVariants as start
use Rattle.pickle_syntax.specs.declared.parser.operators.Next.{Next}
use Rattle.pickle_syntax.specs.declared.parser.operators.Next.TheVariants as next
use Rattle.pickle_syntax.specs.declared.parser.found.FoundExpression.{FoundExpression}
use Rattle.pickle_syntax.specs.declared.parser.fault.Stop.{Stop}
use Rattle.pickle_syntax.specs.Tokens.{Token, Reserved, Named, Opens, Numeral, Mark}
use Rattle.pickle_syntax.specs.Tokens as token
use Rattle.pickle_tree.specs.Tree.{Select, InUnit, Convert, Tree, Literal, Name, Bracket, Before, Between, Choice, Index, After, expression_tree}
use Rattle.pickle_tree.specs.Tree as tree
use Rattle.pickle_syntax.specs.Levels.{level}
use Rattle.pickle_tree.specs.Limits.{depth}
use Rattle.pickle_syntax.specs.Operators.{start_of, next_of, goes_on}
use Rattle.pickle_syntax.specs.Reading.{Wrong, Deep, ◌>>=◌, Read, Reads, expect, name_at, unit_at, target_at}

-- reads expressions of a level or higher
abbrev pub Reader : Type 0
Reader = ℕ → List Token → Read Tree

abbrev pub operand_by : Reader → List Token → Start → Read Tree
operand_by sub rest start.Bracket = do
  e ← sub 1 rest
  after ← expect sign.CloseParen e.1
  Ok (Bracket e.0, after)
operand_by sub rest (start.Prefix op) = do
  e ← sub 13 rest
  Ok (Before op e.0, e.1)
operand_by sub rest start.Nothing = Err (Wrong (length rest + 1))

unfoldable pub operand_at : Reader → List Token → Read Tree
operand_at sub (Numeral n ∷ rest) = Ok (Literal n, rest)
operand_at sub (token.Character b ∷ rest) = Ok (tree.Character b, rest)
operand_at sub (token.Text bytes ∷ rest) = Ok (tree.Text bytes, rest)
operand_at sub (Named n ∷ rest) = Ok (Name n, rest)
operand_at sub (Mark s ∷ rest) = operand_by sub rest (start_of s)
operand_at sub tokens = Err (Wrong (length tokens))

-- an operator after an operand, and what comes after the operator
unfoldable pub step_at : Reader → Tree → List Token → Next → Read Tree
step_at sub left rest (next.Infix op) = do
  right ← sub (level op + 1) rest
  Ok (Between op left right.0, right.1)
step_at sub left rest next.Choice = do
  x ← sub 1 rest
  after ← expect sign.Colon x.1
  y ← sub 1 after
  Ok (Choice left x.0 y.0, y.1)
step_at sub left rest next.Index = do
  i ← sub 1 rest
  after ← expect sign.CloseBracket i.1
  Ok (Index left i.0, after)
step_at sub left rest next.Select = do
  n ← name_at rest
  Ok (After left (Select n.0), n.1)
step_at sub left rest next.Unit = do
  u ← unit_at rest
  Ok (After left (InUnit u.0), u.1)
step_at sub left rest (next.Attribute a) = Ok (After left (tree.AttributeOf a), rest)
step_at sub left rest next.Convert = do
  t ← target_at rest
  Ok (After left (Convert t.0), t.1)
step_at sub left rest next.Nothing = Err (Wrong (length rest))

-- at most so many operators after an operand, each applied to the result of those before it
unfoldable pub chain : Reader → ℕ → ℕ → ℕ → Tree → List Token → Read Tree
chain sub room zero least left tokens = if goes_on least left (next_of tokens) then Err Deep else Ok (left, tokens)
chain sub room (suc n) least left tokens =
    if goes_on least left (next_of tokens)
    then (if nat_lt room (depth left) then Err Deep else step_at sub left (drop 1 tokens) (next_of tokens) >>= λ x.
    chain sub room n least x.0 x.1)
    else Ok (left, tokens)

-- an expression of at least this level, no deeper than the first number
unfoldable pub expression_at : ℕ → Reader
expression_at zero least [] = Err (Wrong 0)
expression_at zero least (t ∷ rest) = Err Deep
expression_at (suc room) least tokens =
    operand_at (expression_at room) tokens >>= λ x. chain (expression_at room) room room least x.0 x.1

-- the reading gives the expression that a function found, and the tokens that it left
abbrev pub ReadsExpression : Result (FoundExpression × Bor (List Kind)) Stop → Read Tree → Type 0
ReadsExpression result read = Reads (λ found. expression_tree found.expression) result read
