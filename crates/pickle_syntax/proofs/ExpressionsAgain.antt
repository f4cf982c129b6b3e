-- What a well bracketed expression shows is read again.
use Rattle.std.proofs.Common.{◌≡◌, ℕ, zero, suc, ◌+◌, ◌-◌, ◌<◌, ◌≤◌, false, List, [], ◌∷◌, ◌++◌, drop, refl, sym, ap, ◌∙◌, arith, Ok, append_assoc}
use Rattle.pickle_syntax.specs.declared.token.Word.TheVariants as word
use Rattle.pickle_syntax.specs.declared.token.Sign.TheVariants as sign
use Rattle.pickle_syntax.specs.declared.parser.operators.Next.TheVariants as next
use Rattle.pickle_syntax.specs.Tokens.{Token, Reserved, Named, Numeral, Mark}
use Rattle.pickle_syntax.specs.Tokens as token
use Rattle.pickle_tree.specs.Tree.{Select, InUnit, Convert, Tree, Literal, Name, Bracket, Before, Between, Choice, Index, After}
use Rattle.pickle_tree.specs.Tree as tree
use Rattle.pickle_syntax.specs.Show.{show, show_unit, show_target, prefix_sign, infix_sign}
use Rattle.pickle_syntax.specs.Levels.{level, level_of, IsWellBracketed}
use Rattle.pickle_tree.specs.Limits.{depth}
use Rattle.pickle_syntax.specs.Operators.{next_of, own_of, left_of, goes_on}
use Rattle.pickle_syntax.specs.Reading.{◌>>=◌, Read, expect, after_sign, name_at}
use Rattle.pickle_syntax.specs.ReadExpressions.{operand_at, step_at, chain, expression_at}
use Rattle.pickle_syntax.proofs.Results.{ok_is}
use Rattle.pickle_syntax.proofs.FrontFacts.{unit_again, target_again}
use Rattle.pickle_syntax.proofs.Chain.{chain_more, chain_stops}
use Rattle.pickle_syntax.proofs.OperatorFacts.{prefix_start, infix_next, level_middle, level_pos, depth_pos, Closed, below_stops, closed_before}

abbrev pub done : Tree → List Token → Read Tree
done t rest = Ok (t, rest)

expression_at_more : (room least : ℕ) (toks : List Token) → 0 < room →
    expression_at room least toks ≡ (operand_at (expression_at (room - 1)) toks >>= λ x.
    chain (expression_at (room - 1)) (room - 1) (room - 1) least x.0 x.1)
unfolding expression_at
expression_at_more zero least toks h = absurd (omega arith)
expression_at_more (suc room) least toks h = let e : suc room - 1 ≡ room = omega arith in rw e refl

-- the tree has been read, and so many operators may still follow
record Begun (room least : ℕ) (toks : List Token) (t : Tree) (rest : List Token) : Type 0 where
  steps : ℕ
  enough : room ≤ steps + depth t
  goes : expression_at room least toks ≡ chain (expression_at (room - 1)) (room - 1) steps least t rest

begun_done : (room least : ℕ) (toks : List Token) (t : Tree) (rest : List Token) → Begun room least toks t rest →
    goes_on least t (next_of rest) ≡ false → expression_at room least toks ≡ done t rest
begun_done room least toks t rest b h = b.goes
    ∙ chain_stops (expression_at (room - 1)) (room - 1) least t rest b.steps h

-- an operand at the front
begun_operand : (room least : ℕ) (toks : List Token) (t : Tree) (rest : List Token) → 0 < room →
    operand_at (expression_at (room - 1)) toks ≡ done t rest → Begun room least toks t rest
begun_operand room least toks t rest pos e = record {
  steps = room - 1;
  enough = omega (arith, depth_pos t);
  goes = expression_at_more room least toks pos ∙ rw e refl;
}

-- an operator over what was read
begun_step : (room least : ℕ) (toks : List Token) (a t : Tree) (mid rest : List Token) → Begun room least toks a mid →
    depth t ≤ room → depth a + 1 ≤ depth t → least ≤ own_of (next_of mid) → left_of (next_of mid) ≤ level_of a →
    step_at (expression_at (room - 1)) a (drop 1 mid) (next_of mid) ≡ done t rest → Begun room least toks t rest
begun_step room least toks a t mid rest b low deeper own high e =
    let enough = b.enough in
    record {
      steps = b.steps - 1;
      enough = omega arith;
      goes = b.goes
          ∙ chain_more (expression_at (room - 1)) (room - 1) b.steps least a mid (omega arith) (omega arith) own high
          ∙ rw e refl;
    }

reads : (t : Tree) (room least : ℕ) (rest : List Token) → IsWellBracketed t → depth t ≤ room → 1 ≤ least → least ≤ 13 →
    least ≤ level_of t → Closed t (next_of rest) → Begun room least (show t ++ rest) t rest
unfolding operand_at step_at expect after_sign name_at
reads (Literal n) room least rest fine low pos high own closed =
    begun_operand room least (Numeral n ∷ rest) (Literal n) rest (omega arith) refl
reads (tree.Character b) room least rest fine low pos high own closed =
    begun_operand room least (token.Character b ∷ rest) (tree.Character b) rest (omega arith) refl
reads (tree.Text bytes) room least rest fine low pos high own closed =
    begun_operand room least (token.Text bytes ∷ rest) (tree.Text bytes) rest (omega arith) refl
reads (Name n) room least rest fine low pos high own closed =
    begun_operand room least (Named n ∷ rest) (Name n) rest (omega arith) refl
reads (Bracket e) room least rest fine low pos high own closed =
    let inner =
    begun_done (room - 1) 1 _ e (Mark sign.CloseParen ∷ rest) (reads e (room - 1) 1 (Mark sign.CloseParen ∷ rest) fine
    (omega arith) (omega arith) (omega arith) (level_pos e) (closed_before e next.Nothing fine (omega arith)))
    (below_stops 1 e next.Nothing (omega arith)) in
    let regroup : show (Bracket e) ++ rest ≡ Mark sign.OpenParen ∷ (show e ++ Mark sign.CloseParen ∷ rest) =
    simp append_assoc in
    rw regroup (begun_operand room least _ (Bracket e) rest (omega arith) (rw inner refl))
reads (Before op e) room least rest fine low pos high own closed =
    let inner = begun_done (room - 1) 13 _ e rest
    (reads e (room - 1) 13 rest fine.0 (omega arith) (omega arith) (omega arith) fine.1 closed.1) closed.0 in
    begun_operand room least (Mark (prefix_sign op) ∷ show e ++ rest) (Before op e) rest (omega arith)
    (rw (prefix_start op, inner) refl)
reads (Between op a b) room least rest fine low pos high own closed =
    let mid = Mark (infix_sign op) ∷ show b ++ rest in
    let is : next_of mid ≡ next.Infix op = infix_next op in
    let m = level_middle op in
    let most = m.most in
    let left = reads a room least mid fine.0 (omega arith) pos high (omega (arith, fine.2))
    (rw is (closed_before a (next.Infix op) fine.0 fine.2)) in
    let right = begun_done (room - 1) (level op + 1) _ b rest
    (reads b (room - 1) (level op + 1) rest fine.1 (omega arith) (omega arith) (omega arith) fine.3 closed.1)
    closed.0 in
    let regroup : show (Between op a b) ++ rest ≡ show a ++ mid = simp append_assoc in
    rw regroup (begun_step room least _ a (Between op a b) mid rest left low (omega arith) (rw is own) (rw is fine.2)
    (rw (is, right) refl))
reads (Choice c x y) room least rest fine low pos high own closed =
    let end = Mark sign.Colon ∷ show y ++ rest in
    let mid = Mark sign.Question ∷ show x ++ end in
    let left = reads c room least mid fine.0 (omega arith) pos high (omega (arith, fine.3))
    (closed_before c next.Choice fine.0 fine.3) in
    let first = begun_done (room - 1) 1 _ x end (reads x (room - 1) 1 end fine.1 (omega arith) (omega arith)
    (omega arith) (level_pos x) (closed_before x next.Nothing fine.1 (omega arith)))
    (below_stops 1 x next.Nothing (omega arith)) in
    let second = begun_done (room - 1) 1 _ y rest
    (reads y (room - 1) 1 rest fine.2 (omega arith) (omega arith) (omega arith) (level_pos y) closed.1) closed.0 in
    let regroup : show (Choice c x y) ++ rest ≡ show c ++ mid = simp append_assoc in
    rw regroup
    (begun_step room least _ c (Choice c x y) mid rest left low (omega arith) own fine.3 (rw (first, second) refl))
reads (Index e i) room least rest fine low pos high own closed =
    let end = Mark sign.CloseBracket ∷ rest in
    let mid = Mark sign.OpenBracket ∷ show i ++ end in
    let left = reads e room least mid fine.0 (omega arith) pos high (omega (arith, fine.2))
    (closed_before e next.Index fine.0 fine.2) in
    let index = begun_done (room - 1) 1 _ i end (reads i (room - 1) 1 end fine.1 (omega arith) (omega arith)
    (omega arith) (level_pos i) (closed_before i next.Nothing fine.1 (omega arith)))
    (below_stops 1 i next.Nothing (omega arith)) in
    let regroup : show (Index e i) ++ rest ≡ show e ++ mid = simp append_assoc in
    rw regroup (begun_step room least _ e (Index e i) mid rest left low (omega arith) own fine.2 (rw index refl))
reads (After e (Select n)) room least rest fine low pos high own closed =
    let mid = Mark sign.Dot ∷ Named n ∷ rest in
    let left = reads e room least mid fine.0 (omega arith) pos high (omega (arith, fine.1))
    (closed_before e next.Select fine.0 fine.1) in
    let regroup : show (After e (Select n)) ++ rest ≡ show e ++ mid = simp append_assoc in
    rw regroup (begun_step room least _ e (After e (Select n)) mid rest left low (omega arith) own fine.1 refl)
reads (After e (tree.AttributeOf a)) room least rest fine low pos high own closed =
    let mid = token.AttributeOf a ∷ rest in
    let left = reads e room least mid fine.0 (omega arith) pos high (omega (arith, fine.1))
    (closed_before e (next.Attribute a) fine.0 fine.1) in
    let regroup : show (After e (tree.AttributeOf a)) ++ rest ≡ show e ++ mid = simp append_assoc in
    rw regroup
    (begun_step room least _ e (After e (tree.AttributeOf a)) mid rest left low (omega arith) own fine.1 refl)
reads (After e (InUnit u)) room least rest fine low pos high own closed =
    let mid = Mark sign.Hash ∷ show_unit u ∷ rest in
    let left = reads e room least mid fine.0 (omega arith) pos high (omega (arith, fine.1))
    (closed_before e next.Unit fine.0 fine.1) in
    let regroup : show (After e (InUnit u)) ++ rest ≡ show e ++ mid = simp append_assoc in
    rw regroup (begun_step room least _ e (After e (InUnit u)) mid rest left low (omega arith) own fine.1
    (rw (unit_again u rest) refl))
reads (After e (Convert t)) room least rest fine low pos high own closed =
    let mid = Reserved word.As ∷ (show_target t ++ rest) in
    let left = reads e room least mid fine.0 (omega arith) pos high (omega (arith, fine.1))
    (closed_before e next.Convert fine.0 fine.1) in
    let regroup : show (After e (Convert t)) ++ rest ≡ show e ++ mid = simp append_assoc in
    rw regroup (begun_step room least _ e (After e (Convert t)) mid rest left low (omega arith) own fine.1
    (rw (target_again t rest) refl))

-- a whole expression, before a token that is no operator
pub expression_again : (t : Tree) (room : ℕ) (rest : List Token) → IsWellBracketed t → depth t ≤ room →
    next_of rest ≡ next.Nothing → expression_at room 1 (show t ++ rest) ≡ done t rest
expression_again t room rest fine low ends = begun_done room 1 (show t ++ rest) t rest (reads t room 1 rest fine low
    (omega arith) (omega arith) (level_pos t) (rw ends (closed_before t next.Nothing fine (omega arith))))
    (rw ends (below_stops 1 t next.Nothing (omega arith)))

-- two well bracketed expressions that show the same tokens are equal
pub show_once : (t u : Tree) → IsWellBracketed t → IsWellBracketed u → show t ≡ show u → t ≡ u
show_once t u ft fu e =
    let room = depth t + depth u in
    let a = expression_again t room [] ft (omega arith) refl in
    let b = expression_again u room [] fu (omega arith) refl in
    let c : expression_at room 1 (show t ++ []) ≡ expression_at room 1 (show u ++ []) =
    ap (λ (s : List Token). expression_at room 1 (s ++ [])) e in
    ap (λ (p : Tree × List Token). p.0) (ok_is (t, []) (u, []) (sym a ∙ c ∙ b))
