-- The meaning of a token before and after an operand.
use Rattle.std.specs.Prelude.{ℕ, ◌&&◌, Bool, nat_le, List, [], ◌∷◌}
use Rattle.pickle_syntax.specs.declared.token.Word.{Word}
use Rattle.pickle_syntax.specs.declared.token.Word.TheVariants as word
use Rattle.pickle_syntax.specs.declared.token.Sign.{Sign}
use Rattle.pickle_syntax.specs.declared.token.Sign.TheVariants as sign
use Rattle.pickle_tree.specs.declared.tree.Prefix.TheVariants as prefix
use Rattle.pickle_tree.specs.declared.tree.Infix.TheVariants as infix_op
use Rattle.pickle_syntax.specs.declared.parser.operators.Start.{Start}
use Rattle.pickle_syntax.specs.declared.parser.operators.Start.TheVariants as start
use Rattle.pickle_syntax.specs.declared.parser.operators.Next.{Next}
use Rattle.pickle_syntax.specs.declared.parser.operators.Next.TheVariants as next
use Rattle.pickle_syntax.specs.Tokens.{Token, Reserved, Mark, AttributeOf}
use Rattle.pickle_tree.specs.Tree.{Tree}
use Rattle.pickle_syntax.specs.Levels.{level, level_of}

abbrev pub start_of : Sign → Start
start_of sign.OpenParen = start.Bracket
start_of sign.Plus = start.Prefix prefix.Plus
start_of sign.Minus = start.Prefix prefix.Minus
start_of sign.Tilde = start.Prefix prefix.Complement
start_of sign.Bang = start.Prefix prefix.Not
start_of _ = start.Nothing

abbrev pub sign_next : Sign → Next
sign_next sign.OrOr = next.Infix infix_op.LogicalOr
sign_next sign.AndAnd = next.Infix infix_op.LogicalAnd
sign_next sign.Or = next.Infix infix_op.BitOr
sign_next sign.Caret = next.Infix infix_op.BitXor
sign_next sign.And = next.Infix infix_op.BitAnd
sign_next sign.EqualEqual = next.Infix infix_op.Equal
sign_next sign.BangEqual = next.Infix infix_op.NotEqual
sign_next sign.Less = next.Infix infix_op.Less
sign_next sign.LessEqual = next.Infix infix_op.LessEqual
sign_next sign.Greater = next.Infix infix_op.Greater
sign_next sign.GreaterEqual = next.Infix infix_op.GreaterEqual
sign_next sign.ShiftLeft = next.Infix infix_op.ShiftLeft
sign_next sign.ShiftRight = next.Infix infix_op.ShiftRight
sign_next sign.Plus = next.Infix infix_op.Add
sign_next sign.Minus = next.Infix infix_op.Subtract
sign_next sign.Star = next.Infix infix_op.Multiply
sign_next sign.Slash = next.Infix infix_op.Divide
sign_next sign.Percent = next.Infix infix_op.Remainder
sign_next sign.Question = next.Choice
sign_next sign.OpenBracket = next.Index
sign_next sign.Dot = next.Select
sign_next sign.Hash = next.Unit
sign_next _ = next.Nothing

abbrev pub word_next : Word → Next
word_next word.As = next.Convert
word_next _ = next.Nothing

-- the operator at the front of the tokens
abbrev pub next_of : List Token → Next
next_of [] = next.Nothing
next_of (Mark s ∷ rest) = sign_next s
next_of (AttributeOf a ∷ rest) = next.Attribute a
next_of (Reserved w ∷ rest) = word_next w
next_of (_ ∷ rest) = next.Nothing

-- the level of an operator's result
abbrev pub own_of : Next → ℕ
own_of (next.Infix op) = level op
own_of next.Choice = 1
own_of next.Index = 14
own_of next.Select = 14
own_of next.Unit = 14
own_of (next.Attribute a) = 14
own_of next.Convert = 12
own_of next.Nothing = 0

-- the least level of the operand before it
abbrev pub left_of : Next → ℕ
left_of (next.Infix op) = level op
left_of next.Choice = 2
left_of next.Index = 14
left_of next.Select = 14
left_of next.Unit = 14
left_of (next.Attribute a) = 14
left_of next.Convert = 12
left_of next.Nothing = 0

-- whether the operator at the front accepts this operand, for a place of this level
abbrev pub goes_on : ℕ → Tree → Next → Bool
goes_on least left n = nat_le least (own_of n) && nat_le (left_of n) (level_of left)
