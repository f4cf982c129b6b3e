-- What is read is shown by its tree, which is well bracketed; and what is too deep has many tokens.
use Rattle.std.proofs.Common.{◌≡◌, ℕ, zero, suc, ◌+◌, ◌<◌, ◌≤◌, cond, ltb, leb, List, [], ◌∷◌, ◌++◌, drop, length, refl, sym, ap, subst, ◌∙◌, arith, Ok, Err, append_assoc, length-append, length-drop}
use Rattle.std.proofs.lemmas.Bool.{and_parts, leb-true, ltb-false, ltb-true}
use Rattle.pickle_syntax.specs.declared.token.Word.TheVariants as word
use Rattle.pickle_syntax.specs.declared.token.Sign.{Sign}
use Rattle.pickle_syntax.specs.declared.token.Sign.TheVariants as sign
use Rattle.pickle_syntax.specs.declared.parser.operators.Start.{Start}
use Rattle.pickle_syntax.specs.declared.parser.operators.Start.TheVariants as start
use Rattle.pickle_syntax.specs.declared.parser.operators.Next.{Next}
use Rattle.pickle_syntax.specs.declared.parser.operators.Next.TheVariants as next
use Rattle.pickle_syntax.specs.Tokens.{Token, Reserved, Named, Numeral, Mark}
use Rattle.pickle_syntax.specs.Tokens as token
use Rattle.pickle_tree.specs.Tree.{Select, InUnit, Convert, Tree, Literal, Name, Bracket, Before, Between, Choice, Index, After, TreeSuffix}
use Rattle.pickle_tree.specs.Tree as tree
use Rattle.pickle_syntax.specs.Show.{show, show_suffix, show_unit, show_target, prefix_sign, infix_sign}
use Rattle.pickle_syntax.specs.Levels.{level, level_of, IsWellBracketed}
use Rattle.pickle_tree.specs.Limits.{depth}
use Rattle.pickle_syntax.specs.Operators.{start_of, next_of, own_of, left_of, goes_on}
use Rattle.pickle_syntax.specs.Reading.{Fault, Wrong, Deep, Many, ◌>>=◌, expect, name_at, unit_at, target_at}
use Rattle.pickle_syntax.specs.ReadExpressions.{Reader, operand_by, operand_at, step_at, chain, expression_at}
use Rattle.pickle_syntax.proofs.Results.{Outcome, value, fault, then, either}
use Rattle.pickle_syntax.proofs.FrontFacts.{IsWrong, wrong_only, shorter, expect_law, name_law, unit_law, target_law}
use Rattle.pickle_syntax.proofs.OperatorFacts.{StartIs, start_is, FrontIs, front_is, level_middle, depth_pos}

suffix_long : (s : TreeSuffix) → 1 ≤ length (show_suffix s)
suffix_long (Select n) = omega arith
suffix_long (tree.AttributeOf a) = omega arith
suffix_long (InUnit u) = omega arith
suffix_long (Convert t) = omega arith

pub depth_shown : (t : Tree) → depth t ≤ length (show t)
depth_shown (Literal n) = omega arith
depth_shown (tree.Character b) = omega arith
depth_shown (tree.Text bytes) = omega arith
depth_shown (Name n) = omega arith
depth_shown (Bracket e) = omega (arith, depth_shown e, length-append (show e) (Mark sign.CloseParen ∷ []))
depth_shown (Before op e) = omega (arith, depth_shown e)
depth_shown (Between op a b) =
    omega (arith, depth_shown a, depth_shown b, length-append (show a) (Mark (infix_sign op) ∷ show b))
depth_shown (Choice c x y) = omega (
  arith,
  depth_shown c,
  depth_shown x,
  depth_shown y,
  length-append (show c) (Mark sign.Question ∷ show x),
  length-append (show c ++ Mark sign.Question ∷ show x) (Mark sign.Colon ∷ show y),
)
depth_shown (Index e i) = omega (
  arith,
  depth_shown e,
  depth_shown i,
  length-append (show e) (Mark sign.OpenBracket ∷ show i),
  length-append (show e ++ Mark sign.OpenBracket ∷ show i) (Mark sign.CloseBracket ∷ []),
)
depth_shown (After e s) = omega (arith, depth_shown e, suffix_long s, length-append (show e) (show_suffix s))

-- the tokens of a node, regrouped
shown_two : (l r toks rest after : List Token) (m : Token) → toks ≡ m ∷ rest → rest ≡ r ++ after →
    l ++ toks ≡ (l ++ m ∷ r) ++ after
shown_two l r toks rest after m e f = rw (e, f) (simp append_assoc)

shown_closed : (l r toks rest mid after : List Token) (m n : Token) → toks ≡ m ∷ rest → rest ≡ r ++ mid →
    mid ≡ n ∷ after → l ++ toks ≡ (l ++ m ∷ r ++ n ∷ []) ++ after
shown_closed l r toks rest mid after m n e f g = rw (e, f, g) (simp append_assoc)

shown_three : (l r q toks rest mid last after : List Token) (m n : Token) → toks ≡ m ∷ rest → rest ≡ r ++ mid →
    mid ≡ n ∷ last → last ≡ q ++ after → l ++ toks ≡ (l ++ m ∷ r ++ n ∷ q) ++ after
shown_three l r q toks rest mid last after m n e f g h = rw (e, f, g, h) (simp append_assoc)

-- what was read from the front
pub record Reads (room least : ℕ) (toks : List Token) (x : Tree × List Token) : Type 0 where
  pub shown : toks ≡ show x.0 ++ x.1
  pub fine : IsWellBracketed x.0
  pub high : least ≤ level_of x.0
  pub low : depth x.0 ≤ room

-- only what is deep is too deep, and what is wrong stands among the tokens or behind the last
abbrev pub Refused : ℕ → List Token → Fault → Type 0
Refused room toks (Wrong left) = left ≤ length toks
Refused room toks Deep = room < length toks
Refused room toks Many = ⊥

refused_more : (room more : ℕ) (rest toks : List Token) → length rest ≤ length toks →
    (room < length rest → more < length toks) → (f : Fault) → Refused room rest f → Refused more toks f
refused_more room more rest toks less h (Wrong left) r = omega (arith, less, r)
refused_more room more rest toks less h Deep r = h r
refused_more room more rest toks less h Many r = absurd r

refused_wrong : (room : ℕ) (rest toks : List Token) → length rest ≤ length toks → (f : Fault) →
    IsWrong rest f → Refused room toks f
refused_wrong room rest toks less = wrong_only rest (Refused room toks) (λ left w. omega (arith, less, w))

-- a fault after the first part of the tokens
refused_later : (room more : ℕ) (toks front rest : List Token) → toks ≡ front ++ rest → more ≤ room + length front →
    (f : Fault) → Refused room rest f → Refused more toks f
refused_later room more toks front rest e h =
    refused_more room more rest toks (shorter front rest toks e) (λ r. rw e (omega (arith, length-append front rest)))

abbrev pub HasLaw : Reader → ℕ → Type 0
HasLaw sub room = (least : ℕ) (toks : List Token) → 1 ≤ least → least ≤ 13 →
    Outcome (Reads room least toks) (Refused room toks) (sub least toks)

-- what a step reads is deeper than the operand before it
pub record Steps (room least : ℕ) (left : Tree) (toks : List Token) (x : Tree × List Token) : Type 0 where
  pub read : Reads room least toks x
  pub deeper : depth left + 1 ≤ depth x.0

module _ (sub : Reader) (room : ℕ) (law : HasLaw sub room) where
  operand_by_law : (s : Sign) (rest : List Token) (r : Start) → StartIs r s →
      Outcome (Reads (room + 1) 13 (Mark s ∷ rest)) (Refused (room + 1) (Mark s ∷ rest)) (operand_by sub rest r)
  operand_by_law s rest start.Bracket is =
      then (sub 1 rest) (λ e. expect sign.CloseParen e.1 >>= λ after. Ok (Bracket e.0, after))
      (law 1 rest (omega arith) (omega arith))
      (λ e _ inner.
      then (expect sign.CloseParen e.1) (λ after. Ok (Bracket e.0, after)) (expect_law sign.CloseParen e.1)
      (λ after _ close.
      let low = inner.low in
      let shown = shown_closed [] (show e.0) (Mark s ∷ rest) rest e.1 after (Mark sign.OpenParen) (Mark sign.CloseParen)
      (ap (λ (m : Sign). Mark m ∷ rest) is) inner.shown close in
      value _ _ (Bracket e.0, after)
      (record { shown = shown; fine = inner.fine; high = omega arith; low = omega arith }))
      (refused_wrong (room + 1) e.1 (Mark s ∷ rest) (omega (arith, shorter (show e.0) e.1 rest inner.shown))))
      (refused_more room (room + 1) rest (Mark s ∷ rest) (omega arith) (λ h. omega arith))
  operand_by_law s rest (start.Prefix op) is =
      then (sub 13 rest) (λ e. Ok (Before op e.0, e.1)) (law 13 rest (omega arith) (omega arith))
      (λ e _ inner.
      let low = inner.low in
      let shown : Mark s ∷ rest ≡ show (Before op e.0) ++ e.1 = ap (λ (m : Sign). Mark m ∷ rest) is
      ∙ ap (λ (l : List Token). Mark (prefix_sign op) ∷ l) inner.shown in
      value _ _ (Before op e.0, e.1)
      (record { shown = shown; fine = (inner.fine, inner.high); high = omega arith; low = omega arith }))
      (refused_more room (room + 1) rest (Mark s ∷ rest) (omega arith) (λ h. omega arith))
  operand_by_law s rest start.Nothing is = fault _ _ (Wrong _) (omega arith)

  pub operand_law : (toks : List Token) →
      Outcome (Reads (room + 1) 13 toks) (Refused (room + 1) toks) (operand_at sub toks)
  unfolding operand_at
  operand_law (Numeral n ∷ rest) =
      value _ _ (Literal n, rest) (record { shown = refl; fine = tt; high = omega arith; low = omega arith })
  operand_law (token.Character b ∷ rest) =
      value _ _ (tree.Character b, rest) (record { shown = refl; fine = tt; high = omega arith; low = omega arith })
  operand_law (token.Text bytes ∷ rest) =
      value _ _ (tree.Text bytes, rest) (record { shown = refl; fine = tt; high = omega arith; low = omega arith })
  operand_law (Named n ∷ rest) =
      value _ _ (Name n, rest) (record { shown = refl; fine = tt; high = omega arith; low = omega arith })
  operand_law (Mark s ∷ rest) = operand_by_law s rest (start_of s) (start_is s)
  operand_law [] = fault _ _ (Wrong _) (omega arith)
  operand_law (_ ∷ rest) = fault _ _ (Wrong _) (omega arith)

  pub step_law : (least : ℕ) (left : Tree) (toks : List Token) (n : Next) → IsWellBracketed left → depth left ≤ room →
      least ≤ own_of n → left_of n ≤ level_of left → FrontIs n toks →
      Outcome (Steps (room + 1) least left (show left ++ toks)) (Refused room (drop 1 toks))
      (step_at sub left (drop 1 toks) n)
  unfolding step_at
  step_law least left toks (next.Infix op) fine low own high front =
      let m = level_middle op in
      let most = m.most in
      then (sub (level op + 1) (drop 1 toks)) (λ right. Ok (Between op left right.0, right.1))
      (law (level op + 1) (drop 1 toks) (omega arith) (omega arith))
      (λ r _ right.
      let low2 = right.low in
      let shown = shown_two (show left) (show r.0) toks (drop 1 toks) r.1 (Mark (infix_sign op)) front right.shown in
      value _ _ (Between op left r.0, r.1) (record {
        read = record { shown = shown; fine = (fine, right.fine, high, right.high); high = own; low = omega arith };
        deeper = omega arith;
      }))
      (λ d w. w)
  step_law least left toks next.Choice fine low own high front =
      then (sub 1 (drop 1 toks))
      (λ x. expect sign.Colon x.1 >>= λ after. sub 1 after >>= λ y. Ok (Choice left x.0 y.0, y.1))
      (law 1 (drop 1 toks) (omega arith) (omega arith))
      (λ x _ first. then (expect sign.Colon x.1) (λ after. sub 1 after >>= λ y. Ok (Choice left x.0 y.0, y.1))
      (expect_law sign.Colon x.1)
      (λ after _ colon.
      then (sub 1 after) (λ y. Ok (Choice left x.0 y.0, y.1)) (law 1 after (omega arith) (omega arith))
      (λ y _ second.
      let low2 = first.low in
      let low3 = second.low in
      let shown = shown_three (show left) (show x.0) (show y.0) toks (drop 1 toks) x.1 after y.1 (Mark sign.Question)
      (Mark sign.Colon) front first.shown colon second.shown in
      value _ _ (Choice left x.0 y.0, y.1) (record {
        read = record { shown = shown; fine = (fine, first.fine, second.fine, high); high = own; low = omega arith };
        deeper = omega arith;
      }))
      (refused_later room room (drop 1 toks) (show x.0 ++ Mark sign.Colon ∷ []) after (first.shown
      ∙ ap (λ (l : List Token). show x.0 ++ l) colon ∙ sym (append_assoc (show x.0) (Mark sign.Colon ∷ []) after))
      (omega arith)))
      (refused_wrong room x.1 (drop 1 toks) (shorter (show x.0) x.1 (drop 1 toks) first.shown)))
      (λ d w. w)
  step_law least left toks next.Index fine low own high front =
      then (sub 1 (drop 1 toks)) (λ i. expect sign.CloseBracket i.1 >>= λ after. Ok (Index left i.0, after))
      (law 1 (drop 1 toks) (omega arith) (omega arith))
      (λ i _ index.
      then (expect sign.CloseBracket i.1) (λ after. Ok (Index left i.0, after)) (expect_law sign.CloseBracket i.1)
      (λ after _ close.
      let low2 = index.low in
      let shown = shown_closed (show left) (show i.0) toks (drop 1 toks) i.1 after (Mark sign.OpenBracket)
      (Mark sign.CloseBracket) front index.shown close in
      value _ _ (Index left i.0, after) (record {
        read = record { shown = shown; fine = (fine, index.fine, high); high = own; low = omega arith };
        deeper = omega arith;
      }))
      (refused_wrong room i.1 (drop 1 toks) (shorter (show i.0) i.1 (drop 1 toks) index.shown)))
      (λ d w. w)
  step_law least left toks next.Select fine low own high front =
      then (name_at (drop 1 toks)) (λ n. Ok (After left (Select n.0), n.1)) (name_law (drop 1 toks))
      (λ n _ e.
      let shown = shown_two (show left) (Named n.0 ∷ []) toks (drop 1 toks) n.1 (Mark sign.Dot) front e in
      value _ _ (After left (Select n.0), n.1) (record {
        read = record { shown = shown; fine = (fine, high); high = own; low = omega arith };
        deeper = omega arith;
      }))
      (refused_wrong room (drop 1 toks) (drop 1 toks) (omega arith))
  step_law least left toks next.Unit fine low own high front =
      then (unit_at (drop 1 toks)) (λ u. Ok (After left (InUnit u.0), u.1)) (unit_law (drop 1 toks))
      (λ u _ e.
      let shown = shown_two (show left) (show_unit u.0 ∷ []) toks (drop 1 toks) u.1 (Mark sign.Hash) front e in
      value _ _ (After left (InUnit u.0), u.1) (record {
        read = record { shown = shown; fine = (fine, high); high = own; low = omega arith };
        deeper = omega arith;
      }))
      (refused_wrong room (drop 1 toks) (drop 1 toks) (omega arith))
  step_law least left toks (next.Attribute a) fine low own high front =
      let shown = shown_two (show left) [] toks (drop 1 toks) (drop 1 toks) (token.AttributeOf a) front refl in
      value _ _ (After left (tree.AttributeOf a), drop 1 toks) (record {
        read = record { shown = shown; fine = (fine, high); high = own; low = omega arith };
        deeper = omega arith;
      })
  step_law least left toks next.Convert fine low own high front =
      then (target_at (drop 1 toks)) (λ t. Ok (After left (Convert t.0), t.1)) (target_law (drop 1 toks))
      (λ t _ e.
      let shown = shown_two (show left) (show_target t.0) toks (drop 1 toks) t.1 (Reserved word.As) front e in
      value _ _ (After left (Convert t.0), t.1) (record {
        read = record { shown = shown; fine = (fine, high); high = own; low = omega arith };
        deeper = omega arith;
      }))
      (refused_wrong room (drop 1 toks) (drop 1 toks) (omega arith))
  step_law least left toks next.Nothing fine low own high front = fault _ _ (Wrong _) (omega arith)

  some_token : (toks : List Token) → 1 ≤ own_of (next_of toks) → 1 ≤ length toks
  some_token [] h = absurd (omega arith)
  some_token (t ∷ toks) h = omega arith

  chain_law : (n least : ℕ) (left : Tree) (toks : List Token) → 1 ≤ least → IsWellBracketed left →
      least ≤ level_of left → depth left ≤ room + 1 → room + 1 ≤ n + depth left →
      Outcome (Reads (room + 1) least (show left ++ toks)) (Refused (room + 1) (show left ++ toks))
      (chain sub room n least left toks)
  unfolding chain
  chain_law zero least left toks pos fine high low enough =
      either (goes_on least left (next_of toks)) (Err Deep) (Ok (left, toks))
      (λ p.
      let tests = and_parts (leb least (own_of (next_of toks))) (leb (left_of (next_of toks)) (level_of left)) p in
      fault _ _ Deep (omega
      (arith, depth_shown left, some_token toks (omega (arith, leb-true _ _ tests.0)), length-append (show left) toks)))
      (λ p. value _ _ (left, toks) (record { shown = refl; fine = fine; high = high; low = low }))
  chain_law (suc n) least left toks pos fine high low enough =
      either (goes_on least left (next_of toks)) (cond (ltb room (depth left)) (Err Deep)
      (step_at sub left (drop 1 toks) (next_of toks) >>= λ x. chain sub room n least x.0 x.1)) (Ok (left, toks))
      (λ p.
      let tests = and_parts (leb least (own_of (next_of toks))) (leb (left_of (next_of toks)) (level_of left)) p in
      let some = some_token toks (omega (arith, leb-true _ _ tests.0)) in
      either (ltb room (depth left)) (Err Deep)
      (step_at sub left (drop 1 toks) (next_of toks) >>= λ x. chain sub room n least x.0 x.1)
      (λ q. fault _ _ Deep (omega (arith, depth_shown left, ltb-true _ _ q, length-append (show left) toks)))
      (λ q. then (step_at sub left (drop 1 toks) (next_of toks)) (λ x. chain sub room n least x.0 x.1)
      (step_law least left toks (next_of toks) fine (ltb-false room (depth left) q) (leb-true _ _ tests.0)
      (leb-true _ _ tests.1) (front_is toks))
      (λ x _ one.
      let r = one.read in
      let deeper = one.deeper in
      let more = chain_law n least x.0 x.1 pos r.fine r.high r.low (omega arith) in
      subst (λ (l : List Token).
      Outcome (Reads (room + 1) least l) (Refused (room + 1) l) (chain sub room n least x.0 x.1)) (sym r.shown) more)
      (refused_more room (room + 1) (drop 1 toks)
      (show left ++ toks) (omega (arith, length-drop 1 toks, length-append (show left) toks))
      (λ h. omega (arith, length-drop 1 toks, length-append (show left) toks, depth_shown left, depth_pos left)))))
      (λ p. value _ _ (left, toks) (record { shown = refl; fine = fine; high = high; low = low }))

pub expression_law : (room least : ℕ) (toks : List Token) → 1 ≤ least → least ≤ 13 →
    Outcome (Reads room least toks) (Refused room toks) (expression_at room least toks)
unfolding expression_at
expression_law zero least [] pos most = fault _ _ (Wrong _) (omega arith)
expression_law zero least (t ∷ toks) pos most = fault _ _ Deep (omega arith)
expression_law (suc room) least toks pos most =
    let is : room + 1 ≡ suc room = omega arith in
    subst (λ (k : ℕ). Outcome (Reads k least toks) (Refused k toks)
    (operand_at (expression_at room) toks >>= λ x. chain (expression_at room) room room least x.0 x.1)) is
    (then (operand_at (expression_at room) toks) (λ x. chain (expression_at room) room room least x.0 x.1)
    (operand_law (expression_at room) room (expression_law room) toks)
    (λ x _ first.
    let high = first.high in
    let more = chain_law (expression_at room) room (expression_law room) room least x.0 x.1 pos first.fine (omega arith)
    first.low (omega (arith, depth_pos x.0)) in
    subst (λ (l : List Token).
    Outcome (Reads (room + 1) least l) (Refused (room + 1) l) (chain (expression_at room) room room least x.0 x.1))
    (sym first.shown) more)
    (λ d w. w))
