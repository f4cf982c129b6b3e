-- Facts of the table of operators.
use Rattle.std.proofs.Common.{◌≡◌, ℕ, ◌+◌, ◌<◌, ◌≤◌, false, List, [], ◌∷◌, drop, refl, arith}
use Rattle.std.proofs.lemmas.Bool.{lt-leb, and_left}
use Rattle.pickle_syntax.specs.declared.token.Word.TheVariants as word
use Rattle.pickle_syntax.specs.declared.token.Sign.{Sign}
use Rattle.pickle_syntax.specs.declared.token.Sign.TheVariants as sign
use Rattle.pickle_tree.specs.declared.tree.Prefix.{Prefix}
use Rattle.pickle_tree.specs.declared.tree.Prefix.TheVariants as prefix
use Rattle.pickle_tree.specs.declared.tree.Infix.{Infix}
use Rattle.pickle_tree.specs.declared.tree.Infix.TheVariants as infix_op
use Rattle.pickle_syntax.specs.declared.parser.operators.Start.{Start}
use Rattle.pickle_syntax.specs.declared.parser.operators.Start.TheVariants as start
use Rattle.pickle_syntax.specs.declared.parser.operators.Next.{Next}
use Rattle.pickle_syntax.specs.declared.parser.operators.Next.TheVariants as next
use Rattle.pickle_syntax.specs.Tokens.{Token, Reserved, Mark}
use Rattle.pickle_syntax.specs.Tokens as token
use Rattle.pickle_tree.specs.Tree.{Select, InUnit, Convert, Tree, Literal, Name, Bracket, Before, Between, Choice, Index, After}
use Rattle.pickle_tree.specs.Tree as tree
use Rattle.pickle_syntax.specs.Show.{prefix_sign, infix_sign}
use Rattle.pickle_syntax.specs.Levels.{level, level_of, IsWellBracketed}
use Rattle.pickle_tree.specs.Limits.{depth}
use Rattle.pickle_syntax.specs.Operators.{start_of, sign_next, next_of, own_of, left_of, goes_on}

-- the token that begins an operand
abbrev pub StartIs : Start → Sign → Type 0
StartIs start.Bracket s = s ≡ sign.OpenParen
StartIs (start.Prefix op) s = s ≡ prefix_sign op
StartIs start.Nothing s = Unit {0}

pub start_is : (s : Sign) → StartIs (start_of s) s
start_is sign.OpenParen = refl
start_is sign.Plus = refl
start_is sign.Minus = refl
start_is sign.Tilde = refl
start_is sign.Bang = refl
start_is _ = tt

pub prefix_start : (op : Prefix) → start_of (prefix_sign op) ≡ start.Prefix op
prefix_start prefix.Plus = refl
prefix_start _ = refl

-- the token that the next operator stands for
abbrev pub FrontIs : Next → List Token → Type 0
FrontIs (next.Infix op) toks = toks ≡ Mark (infix_sign op) ∷ drop 1 toks
FrontIs next.Choice toks = toks ≡ Mark sign.Question ∷ drop 1 toks
FrontIs next.Index toks = toks ≡ Mark sign.OpenBracket ∷ drop 1 toks
FrontIs next.Select toks = toks ≡ Mark sign.Dot ∷ drop 1 toks
FrontIs next.Unit toks = toks ≡ Mark sign.Hash ∷ drop 1 toks
FrontIs (next.Attribute a) toks = toks ≡ token.AttributeOf a ∷ drop 1 toks
FrontIs next.Convert toks = toks ≡ Reserved word.As ∷ drop 1 toks
FrontIs next.Nothing toks = Unit {0}

sign_front : (s : Sign) (rest : List Token) → FrontIs (sign_next s) (Mark s ∷ rest)
sign_front sign.OpenBrace rest = tt
sign_front sign.CloseBrace rest = tt
sign_front sign.OpenParen rest = tt
sign_front sign.CloseParen rest = tt
sign_front sign.CloseBracket rest = tt
sign_front sign.Semicolon rest = tt
sign_front sign.Comma rest = tt
sign_front sign.Colon rest = tt
sign_front sign.At rest = tt
sign_front sign.Assign rest = tt
sign_front sign.Tilde rest = tt
sign_front sign.Bang rest = tt
sign_front _ rest = refl

pub front_is : (toks : List Token) → FrontIs (next_of toks) toks
front_is [] = tt
front_is (Mark s ∷ rest) = sign_front s rest
front_is (token.AttributeOf a ∷ rest) = refl
front_is (Reserved word.As ∷ rest) = refl
front_is (Reserved _ ∷ rest) = tt
front_is (_ ∷ rest) = tt

pub infix_next : (op : Infix) → sign_next (infix_sign op) ≡ next.Infix op
infix_next infix_op.LogicalOr = refl
infix_next _ = refl

-- an operator between two operands stands above the choice and below the conversion
pub record Middle (n : ℕ) : Type 0 where
  pub least : 2 ≤ n
  pub most : n ≤ 11

middle : (n : ℕ) → 2 ≤ n → n ≤ 11 → Middle n
middle n least most = record { least = least; most = most }

pub level_middle : (op : Infix) → Middle (level op)
level_middle infix_op.LogicalOr = middle 2 (omega arith) (omega arith)
level_middle _ = middle _ (omega arith) (omega arith)

-- how the level of what an operator makes and that of its left operand lie
pub record Fair (own left : ℕ) : Type 0 where
  pub order : own ≤ left
  pub lowest : left ≤ 1 → own ≡ 0
  pub gap : left ≤ 13 → own ≤ 12

infix_fair : (n : ℕ) → Middle n → Fair n n
infix_fair n m =
    let least = m.least in
    let most = m.most in record { order = omega arith; lowest = λ h. absurd (omega arith); gap = λ h. omega arith }

pub next_fair : (n : Next) → Fair (own_of n) (left_of n)
next_fair (next.Infix op) = infix_fair (level op) (level_middle op)
next_fair next.Choice = record { order = omega arith; lowest = λ h. absurd (omega arith); gap = λ h. omega arith }
next_fair next.Index =
    record { order = omega arith; lowest = λ h. absurd (omega arith); gap = λ h. absurd (omega arith) }
next_fair next.Select =
    record { order = omega arith; lowest = λ h. absurd (omega arith); gap = λ h. absurd (omega arith) }
next_fair next.Unit =
    record { order = omega arith; lowest = λ h. absurd (omega arith); gap = λ h. absurd (omega arith) }
next_fair (next.Attribute a) =
    record { order = omega arith; lowest = λ h. absurd (omega arith); gap = λ h. absurd (omega arith) }
next_fair next.Convert = record { order = omega arith; lowest = λ h. absurd (omega arith); gap = λ h. omega arith }
next_fair next.Nothing = record { order = omega arith; lowest = λ h. refl; gap = λ h. omega arith }

pub level_pos : (t : Tree) → 1 ≤ level_of t
level_pos (Between op a b) = let m = level_middle op in omega (arith, m.least)
level_pos (After e (Select n)) = omega arith
level_pos (After e (tree.AttributeOf a)) = omega arith
level_pos (After e (InUnit u)) = omega arith
level_pos (After e (Convert t)) = omega arith
level_pos _ = omega arith

pub depth_pos : (t : Tree) → 1 ≤ depth t
depth_pos (Literal n) = omega arith
depth_pos _ = omega arith

-- what stands at the right end of a tree doesn't take this operator
abbrev pub Closed : Tree → Next → Type 0
Closed (Before op e) n = (goes_on 13 e n ≡ false) × Closed e n
Closed (Between op a b) n = (goes_on (level op + 1) b n ≡ false) × Closed b n
Closed (Choice c x y) n = (goes_on 1 y n ≡ false) × Closed y n
Closed _ n = Unit {0}

pub below_stops : (least : ℕ) (t : Tree) (n : Next) → own_of n < least → goes_on least t n ≡ false
below_stops least t n h = and_left _ _ (lt-leb least (own_of n) h)

-- an operator that takes the whole tree is taken by nothing inside it
pub closed_before : (t : Tree) (n : Next) → IsWellBracketed t → left_of n ≤ level_of t → Closed t n
closed_before (Before op e) n fine low =
    let f = next_fair n in
    let gap = f.gap low in
    (below_stops 13 e n (omega (arith, gap)), closed_before e n fine.0 (omega (arith, fine.1)))
closed_before (Between op a b) n fine low =
    let f = next_fair n in
    (below_stops (level op + 1) b n (omega (arith, f.order)), closed_before b n fine.1 (omega (arith, fine.3)))
closed_before (Choice c x y) n fine low =
    let f = next_fair n in
    let none = f.lowest low in
    (below_stops 1 y n (omega (arith, none)), closed_before y n fine.2 (omega (arith, level_pos y)))
closed_before _ n fine low = tt
