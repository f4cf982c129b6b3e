-- Where the reading of an expression stops, some expression begins with the tokens in front, or each token more is too
-- deep.
use Rattle.std.proofs.Common.{◌≡◌, ℕ, zero, suc, ◌+◌, ◌≤◌, Bool, true, false, ltb, leb, Option, Some, None, List, [], ◌∷◌, ◌++◌, drop, length, refl, sym, ap, subst, ◌∙◌, arith, Ok, append_assoc}
use Rattle.std.proofs.lemmas.Bool.{and_parts, leb-true, ltb-false, ltb-true}
use Rattle.std.proofs.lemmas.List.{append-nil}
use Rattle.pickle_syntax.specs.declared.token.Word.TheVariants as word
use Rattle.pickle_syntax.specs.declared.token.Opener.TheVariants as opener
use Rattle.pickle_syntax.specs.declared.token.Sign.{Sign}
use Rattle.pickle_syntax.specs.declared.token.Sign.TheVariants as sign
use Rattle.pickle_tree.specs.declared.tree.Number.{Number}
use Rattle.pickle_tree.specs.declared.tree.Prefix.{Prefix}
use Rattle.pickle_tree.specs.declared.tree.Unit.{Unit as OffsetUnit}
use Rattle.pickle_tree.specs.declared.tree.Unit.TheVariants as unit
use Rattle.pickle_syntax.specs.declared.parser.operators.Start.{Start}
use Rattle.pickle_syntax.specs.declared.parser.operators.Start.TheVariants as start
use Rattle.pickle_syntax.specs.declared.parser.operators.Next.{Next}
use Rattle.pickle_syntax.specs.declared.parser.operators.Next.TheVariants as next
use Rattle.pickle_syntax.specs.Tokens.{Token, Reserved, Named, Opens, Numeral, Mark}
use Rattle.pickle_syntax.specs.Tokens as token
use Rattle.pickle_tree.specs.Tree.{TreeReference, Int, Uint, Called, TreeTarget, ToReference, ToOffset, Select, InUnit, Convert, Tree, Literal, Name, Bracket, Before, Between, Choice, Index, After}
use Rattle.pickle_tree.specs.Tree as tree
use Rattle.pickle_syntax.specs.Show.{show, show_reference, show_unit, show_target, prefix_sign, infix_sign}
use Rattle.pickle_syntax.specs.Levels.{level, level_of, IsWellBracketed}
use Rattle.pickle_tree.specs.Limits.{depth}
use Rattle.pickle_syntax.specs.Operators.{start_of, next_of, own_of, left_of, goes_on}
use Rattle.pickle_syntax.specs.Reading.{◌>>=◌, expect, name_at, width_at, reference_at, unit_named, unit_at, offset_at, target_at}
use Rattle.pickle_syntax.specs.ReadExpressions.{Reader, operand_by, operand_at, step_at, chain, expression_at}
use Rattle.pickle_syntax.proofs.FrontFacts.{reference_law, unit_law}
use Rattle.pickle_syntax.proofs.Fronts.{next_first, name_decided, width_decided, reference_decided, unit_decided, target_decided, operand_decided, step_decided, expression_decided}
use Rattle.pickle_syntax.proofs.OperatorFacts.{StartIs, start_is, FrontIs, front_is, level_middle, depth_pos, below_stops}
use Rattle.pickle_syntax.proofs.ExpressionsSound.{HasLaw, expression_law, operand_law, step_law}
use Rattle.pickle_syntax.proofs.Chain.{chain_stops, chain_full, chain_deep}
use Rattle.pickle_syntax.proofs.GoingOn.{Begins, Cuts, never, done_cut, stops_here, full_end, reads_on, too_deep, cut_through, cut_less, cut_inside, Seen, cut_then, onward, cut_expect}

-- ---- what stands at the front

abbrev pub Any : {A : Type 0} → A → Type 0
Any x = Unit {0}

-- a name for what is missing
abbrev pub missing : List ℕ
missing = 120 ∷ []

abbrev pub show_named : List ℕ → List Token
show_named n = Named n ∷ []

abbrev number : Number
number = record { value = 8; width = 32; signed = true }

abbrev show_width : Number → List Token
show_width n = Numeral n ∷ Mark sign.Greater ∷ []

abbrev show_one_unit : OffsetUnit → List Token
show_one_unit u = show_unit u ∷ []

pub name_cut : (toks : List Token) → Cuts (Begins show_named Any) 1 toks name_at toks
unfolding name_at
name_cut (Named n ∷ rest) = never (λ left e. absurd cc)
name_cut [] =
    stops_here [] [] 0 refl refl refl (record { made = missing; more = Named missing ∷ []; shown = refl; fine = tt })
name_cut (t ∷ rest) = stops_here [] (t ∷ rest) (length (t ∷ rest)) refl refl refl
    (record { made = missing; more = Named missing ∷ []; shown = refl; fine = tt })

width_cut : (toks : List Token) → Cuts (Begins show_width Any) 1 toks width_at toks
unfolding width_at
width_cut (Numeral n ∷ rest) =
    cut_through (λ l. expect sign.Greater l >>= λ after. Ok (n, after)) rest refl (λ few. omega arith)
    (λ few x more. refl)
    (cut_expect sign.Greater (λ after. Ok (n, after)) (Numeral n ∷ []) rest refl
    (record { made = n; more = Mark sign.Greater ∷ []; shown = refl; fine = tt }) (λ after is. done_cut n))
width_cut [] =
    stops_here [] [] 0 refl refl refl (record { made = number; more = show_width number; shown = refl; fine = tt })
width_cut (t ∷ rest) = stops_here [] (t ∷ rest) (length (t ∷ rest)) refl refl refl
    (record { made = number; more = show_width number; shown = refl; fine = tt })

some_reference : Begins show_reference Any []
some_reference = record { made = Called missing; more = Named missing ∷ []; shown = refl; fine = tt }

pub reference_cut : (toks : List Token) → Cuts (Begins show_reference Any) 1 toks reference_at toks
unfolding reference_at
reference_cut (Named n ∷ rest) = never (λ left e. absurd cc)
reference_cut (Opens opener.Int ∷ rest) =
    cut_through (λ l. width_at l >>= λ n. Ok (Int n.0, n.1)) rest refl (λ few. omega arith) (λ few x more. refl)
    (cut_then width_at (λ t a b. width_decided t a b) (λ n. Ok (Int n.0, n.1)) (omega arith)
    (cut_inside Int (Opens opener.Int ∷ []) [] refl (λ n. refl) (λ n fine. tt) (width_cut rest))
    (λ n e. done_cut (Int n.0)))
reference_cut (Opens opener.Uint ∷ rest) =
    cut_through (λ l. width_at l >>= λ n. Ok (Uint n.0, n.1)) rest refl (λ few. omega arith) (λ few x more. refl)
    (cut_then width_at (λ t a b. width_decided t a b) (λ n. Ok (Uint n.0, n.1)) (omega arith)
    (cut_inside Uint (Opens opener.Uint ∷ []) [] refl (λ n. refl) (λ n fine. tt) (width_cut rest))
    (λ n e. done_cut (Uint n.0)))
reference_cut (Opens opener.Offset ∷ rest) =
    stops_here [] (Opens opener.Offset ∷ rest) (length rest + 1) refl refl (omega arith) some_reference
reference_cut [] = stops_here [] [] 0 refl refl refl some_reference
reference_cut (t ∷ rest) = stops_here [] (t ∷ rest) (length (t ∷ rest)) refl refl refl some_reference

some_unit : Begins show_one_unit Any []
some_unit = record { made = unit.Byte; more = Named (66 ∷ []) ∷ []; shown = refl; fine = tt }

pub unit_cut : (toks : List Token) → Cuts (Begins show_one_unit Any) 1 toks unit_at toks
unfolding unit_at
unit_cut (Named n ∷ rest) = by (unit_named n) refl
  where
    by : (o : Option OffsetUnit) → unit_named n ≡ o →
        Cuts (Begins show_one_unit Any) 1 (Named n ∷ rest) unit_at (Named n ∷ rest)
    by None is = stops_here [] (Named n ∷ rest) (length rest + 1) (rw is refl) refl (omega arith) some_unit
    by (Some u) is = cut_through (λ l. Ok (u, l)) rest (rw is refl) (λ few. omega arith) (λ few x more. rw is refl)
        (done_cut {n = 0} u)
unit_cut (Numeral n ∷ rest) = never (λ left e. absurd cc)
unit_cut [] = stops_here [] [] 0 refl refl refl some_unit
unit_cut (t ∷ rest) = stops_here [] (t ∷ rest) (length (t ∷ rest)) refl refl refl some_unit

offset_cut : (toks : List Token) → Cuts (Begins show_target Any) 1 (Opens opener.Offset ∷ toks) offset_at toks
unfolding offset_at
offset_cut toks =
    let whole = Opens opener.Offset ∷ toks in
    cut_then reference_at (λ t a b. reference_decided t a b) (λ r. expect sign.Comma r.1 >>= λ comma.
    unit_at comma >>= λ u. expect sign.Greater u.1 >>= λ after. Ok (ToOffset r.0 u.0, after)) (omega arith)
    (cut_inside (λ r. ToOffset r unit.Byte) (Opens opener.Offset ∷ [])
    (Mark sign.Comma ∷ show_unit unit.Byte ∷ Mark sign.Greater ∷ []) refl
    (λ r. refl) (λ r fine. tt) (reference_cut toks))
    (λ r e.
    let first = Opens opener.Offset ∷ show_reference r.0 in
    cut_expect sign.Comma
    (λ comma. unit_at comma >>= λ u. expect sign.Greater u.1 >>= λ after. Ok (ToOffset r.0 u.0, after)) first r.1
    (ap (λ (l : List Token). Opens opener.Offset ∷ l) ((reference_law toks).good r e)) (record {
      made = ToOffset r.0 unit.Byte;
      more = Mark sign.Comma ∷ show_unit unit.Byte ∷ Mark sign.Greater ∷ [];
      shown = refl;
      fine = tt;
    })
    (λ comma is2. cut_less (λ few. omega arith)
    (cut_then unit_at (λ t a b. unit_decided t a b)
    (λ u. expect sign.Greater u.1 >>= λ after. Ok (ToOffset r.0 u.0, after)) (omega arith)
    (cut_inside (ToOffset r.0) (first ++ Mark sign.Comma ∷ []) (Mark sign.Greater ∷ []) is2
    (λ u. simp append_assoc refl) (λ u fine. tt) (unit_cut comma))
    (λ u e2. cut_expect sign.Greater (λ after. Ok (ToOffset r.0 u.0, after))
    ((first ++ Mark sign.Comma ∷ []) ++ show_unit u.0 ∷ []) u.1
    (is2 ∙ ap (λ (l : List Token). (first ++ Mark sign.Comma ∷ []) ++ l) ((unit_law comma).good u e2)
    ∙ sym (append_assoc (first ++ Mark sign.Comma ∷ []) (show_unit u.0 ∷ []) u.1))
    (record { made = ToOffset r.0 u.0; more = Mark sign.Greater ∷ []; shown = simp append_assoc refl; fine = tt })
    (λ after is3. done_cut (ToOffset r.0 u.0)))))
    )

plain_cut : (toks : List Token) →
    Cuts (Begins show_target Any) 1 toks (λ (l : List Token). reference_at l >>= λ r. Ok (ToReference r.0, r.1)) toks
plain_cut toks =
    cut_then reference_at (λ t a b. reference_decided t a b) (λ r. Ok (ToReference r.0, r.1)) (omega arith)
    (cut_inside ToReference [] [] refl (λ r. sym (append-nil (show_reference r))) (λ r fine. tt) (reference_cut toks))
    (λ r e. done_cut (ToReference r.0))

pub target_cut : (toks : List Token) → Cuts (Begins show_target Any) 1 toks target_at toks
unfolding target_at
target_cut (Opens opener.Offset ∷ rest) =
    cut_through offset_at rest refl (λ few. omega arith) (λ few x more. refl) (offset_cut rest)
target_cut [] = cut_through (λ l. reference_at l >>= λ r. Ok (ToReference r.0, r.1)) [] refl
    (λ few. few) (λ few. absurd (omega (arith, few))) (plain_cut [])
target_cut (t ∷ rest) = cut_through (λ l. reference_at l >>= λ r. Ok (ToReference r.0, r.1)) (t ∷ rest) refl
    (λ few. few) (λ few x more. refl) (plain_cut (t ∷ rest))

-- ---- expressions

-- an expression for a place of this level, no deeper than this
abbrev pub Fits : ℕ → ℕ → Tree → Type 0
Fits room least t = IsWellBracketed t × (least ≤ level_of t) × (depth t ≤ room)

pub joins : (l toks rest : List Token) (m : Token) → toks ≡ m ∷ rest → l ++ toks ≡ (l ++ m ∷ []) ++ rest
joins l toks rest m e = onward (l ++ toks) l toks (m ∷ []) rest refl e

spells_last : (l r : List Token) (m : Token) → l ++ m ∷ r ≡ ((l ++ m ∷ []) ++ r) ++ []
spells_last l r m = simp (append_assoc, append-nil)

spells_within : (l r post : List Token) (m : Token) → (l ++ m ∷ r) ++ post ≡ ((l ++ m ∷ []) ++ r) ++ post
spells_within l r post m = simp append_assoc

spells_choice : (l x y : List Token) (q c : Token) →
    (l ++ q ∷ x) ++ c ∷ y ≡ ((((l ++ q ∷ []) ++ x) ++ c ∷ []) ++ y) ++ []
spells_choice l x y q c = simp (append_assoc, append-nil)

module _ (sub : Reader) (room : ℕ) (law : HasLaw sub room) (seen : (least : ℕ) → Seen (sub least)) (cuts : (least : ℕ)
    (toks : List Token) → 1 ≤ least → least ≤ 13 → Cuts (Begins show (Fits room least)) 0 toks (sub least) toks) where
  some_operand : Begins show (Fits (room + 1) 13) []
  some_operand =
      record { made = Name missing; more = Named missing ∷ []; shown = refl; fine = (tt, omega arith, omega arith) }

  bracket_cut : (rest : List Token) → Cuts (Begins show (Fits (room + 1) 13)) 0
      (Mark sign.OpenParen ∷ rest) (λ (l : List Token). operand_by sub l start.Bracket) rest
  bracket_cut rest =
      cut_then (sub 1) (seen 1) (λ e. expect sign.CloseParen e.1 >>= λ after. Ok (Bracket e.0, after)) (omega arith)
      (cut_inside Bracket (Mark sign.OpenParen ∷ []) (Mark sign.CloseParen ∷ []) refl
      (λ e. refl) (λ e f. (f.0, omega arith, omega (arith, f.2))) (cuts 1 rest (omega arith) (omega arith)))
      (λ e is.
      let r = (law 1 rest (omega arith) (omega arith)).good e is in
      let low = r.low in
      cut_expect sign.CloseParen (λ after. Ok (Bracket e.0, after)) (Mark sign.OpenParen ∷ show e.0) e.1
      (ap (λ (l : List Token). Mark sign.OpenParen ∷ l) r.shown)
      (record {
        made = Bracket e.0;
        more = Mark sign.CloseParen ∷ [];
        shown = refl;
        fine = (r.fine, omega arith, omega arith);
      })
      (λ after is2. done_cut (Bracket e.0)))

  prefix_cut : (op : Prefix) (rest : List Token) → Cuts (Begins show (Fits (room + 1) 13)) 0
      (Mark (prefix_sign op) ∷ rest) (λ (l : List Token). operand_by sub l (start.Prefix op)) rest
  prefix_cut op rest =
      cut_then (sub 13) (seen 13) (λ e. Ok (Before op e.0, e.1)) (omega arith)
      (cut_inside (Before op) (Mark (prefix_sign op) ∷ []) [] refl
      (λ e. sym (append-nil (Mark (prefix_sign op) ∷ show e))) (λ e f. ((f.0, f.1), omega arith, omega (arith, f.2)))
      (cuts 13 rest (omega arith) (omega arith)))
      (λ e is. done_cut (Before op e.0))

  operand_cut : (toks : List Token) → Cuts (Begins show (Fits (room + 1) 13)) 0 toks (operand_at sub) toks
  unfolding operand_at
  operand_cut (Numeral n ∷ rest) = never (λ left e. absurd cc)
  operand_cut (token.Character b ∷ rest) = never (λ left e. absurd cc)
  operand_cut (token.Text bytes ∷ rest) = never (λ left e. absurd cc)
  operand_cut (Named n ∷ rest) = never (λ left e. absurd cc)
  operand_cut (Mark s ∷ rest) = by (start_of s) refl (start_is s)
    where
      by : (r : Start) → start_of s ≡ r → StartIs r s →
          Cuts (Begins show (Fits (room + 1) 13)) 0 (Mark s ∷ rest) (operand_at sub) (Mark s ∷ rest)
      by start.Bracket e is =
          cut_through (λ l. operand_by sub l start.Bracket) rest (rw e refl) (λ few. omega arith)
          (λ few x more. rw e refl)
          (subst (λ (t : Sign). Cuts (Begins show (Fits (room + 1) 13)) 0
          (Mark t ∷ rest) (λ (l : List Token). operand_by sub l start.Bracket) rest) (sym is) (bracket_cut rest))
      by (start.Prefix op) e is =
          cut_through (λ l. operand_by sub l (start.Prefix op)) rest (rw e refl) (λ few. omega arith)
          (λ few x more. rw e refl)
          (subst (λ (t : Sign). Cuts (Begins show (Fits (room + 1) 13)) 0
          (Mark t ∷ rest) (λ (l : List Token). operand_by sub l (start.Prefix op)) rest) (sym is) (prefix_cut op rest))
      by start.Nothing e is =
          stops_here [] (Mark s ∷ rest) (length rest + 1) (rw e refl) refl (omega arith) some_operand
  operand_cut [] = stops_here [] [] 0 refl refl refl some_operand
  operand_cut (t ∷ rest) = stops_here [] (t ∷ rest) (length (t ∷ rest)) refl refl refl some_operand

  step_cut : (least : ℕ) (left : Tree) (toks : List Token) (n : Next) → IsWellBracketed left → depth left ≤ room →
      1 ≤ least → least ≤ own_of n → left_of n ≤ level_of left → FrontIs n toks →
      Cuts (Begins show (Fits (room + 1) least)) 0
      (show left ++ toks) (λ (l : List Token). step_at sub left l n) (drop 1 toks)
  unfolding step_at
  step_cut least left toks (next.Infix op) fine low pos own high front =
      let m = level_middle op in
      let most = m.most in
      cut_then (sub (level op + 1)) (seen (level op + 1)) (λ r. Ok (Between op left r.0, r.1)) (omega arith)
      (cut_inside (Between op left) (show left ++ Mark (infix_sign op) ∷ []) []
      (joins (show left) toks (drop 1 toks) (Mark (infix_sign op)) front)
      (λ r. spells_last (show left) (show r) (Mark (infix_sign op)))
      (λ r f. ((fine, f.0, high, f.1), own, omega (arith, low, f.2)))
      (cuts (level op + 1) (drop 1 toks) (omega arith) (omega arith)))
      (λ r e. done_cut (Between op left r.0))
  step_cut least left toks next.Choice fine low pos own high front =
      let begin = show left ++ Mark sign.Question ∷ [] in
      let end = Mark sign.Colon ∷ Named missing ∷ [] in
      let is = joins (show left) toks (drop 1 toks) (Mark sign.Question) front in
      cut_then (sub 1) (seen 1)
      (λ x. expect sign.Colon x.1 >>= λ after. sub 1 after >>= λ y. Ok (Choice left x.0 y.0, y.1)) (omega arith)
      (cut_inside (λ x. Choice left x (Name missing)) begin end is
      (λ x. spells_within (show left) (show x) end (Mark sign.Question))
      (λ x f. ((fine, f.0, tt, high), own, omega (arith, low, f.2, depth_pos x)))
      (cuts 1 (drop 1 toks) (omega arith) (omega arith)))
      (λ x e.
      let r = (law 1 (drop 1 toks) (omega arith) (omega arith)).good x e in
      let low2 = r.low in
      cut_expect sign.Colon (λ after. sub 1 after >>= λ y. Ok (Choice left x.0 y.0, y.1)) (begin ++ show x.0) x.1
      (onward (show left ++ toks) begin (drop 1 toks) (show x.0) x.1 is r.shown)
      (record {
        made = Choice left x.0 (Name missing);
        more = end;
        shown = spells_within (show left) (show x.0) end (Mark sign.Question);
        fine = ((fine, r.fine, tt, high), own, omega (arith, low, low2, depth_pos x.0));
      })
      (λ after is2.
      cut_then (sub 1) (seen 1) (λ y. Ok (Choice left x.0 y.0, y.1)) (omega arith)
      (cut_inside (Choice left x.0) ((begin ++ show x.0) ++ Mark sign.Colon ∷ []) [] is2
      (λ y. spells_choice (show left) (show x.0) (show y) (Mark sign.Question) (Mark sign.Colon))
      (λ y f. ((fine, r.fine, f.0, high), own, omega (arith, low, low2, f.2)))
      (cuts 1 after (omega arith) (omega arith)))
      (λ y e2. done_cut (Choice left x.0 y.0))))
  step_cut least left toks next.Index fine low pos own high front =
      let begin = show left ++ Mark sign.OpenBracket ∷ [] in
      let end = Mark sign.CloseBracket ∷ [] in
      let is = joins (show left) toks (drop 1 toks) (Mark sign.OpenBracket) front in
      cut_then (sub 1) (seen 1)
      (λ i. expect sign.CloseBracket i.1 >>= λ after. Ok (Index left i.0, after)) (omega arith)
      (cut_inside (Index left) begin end is (λ i. spells_within (show left) (show i) end (Mark sign.OpenBracket))
      (λ i f. ((fine, f.0, high), own, omega (arith, low, f.2))) (cuts 1 (drop 1 toks) (omega arith) (omega arith)))
      (λ i e.
      let r = (law 1 (drop 1 toks) (omega arith) (omega arith)).good i e in
      let low2 = r.low in
      cut_expect sign.CloseBracket (λ after. Ok (Index left i.0, after)) (begin ++ show i.0) i.1
      (onward (show left ++ toks) begin (drop 1 toks) (show i.0) i.1 is r.shown)
      (record {
        made = Index left i.0;
        more = end;
        shown = spells_within (show left) (show i.0) end (Mark sign.OpenBracket);
        fine = ((fine, r.fine, high), own, omega (arith, low, low2));
      })
      (λ after is2. done_cut (Index left i.0)))
  step_cut least left toks next.Select fine low pos own high front =
      cut_then name_at (λ t a b. name_decided t a b) (λ n. Ok (After left (Select n.0), n.1)) (omega arith)
      (cut_less (λ few. omega arith) (cut_inside (λ n. After left (Select n)) (show left ++ Mark sign.Dot ∷ []) []
      (joins (show left) toks (drop 1 toks) (Mark sign.Dot) front)
      (λ n. spells_last (show left) (show_named n) (Mark sign.Dot)) (λ n f. ((fine, high), own, omega (arith, low)))
      (name_cut (drop 1 toks))))
      (λ n e. done_cut (After left (Select n.0)))
  step_cut least left toks next.Unit fine low pos own high front =
      cut_then unit_at (λ t a b. unit_decided t a b) (λ u. Ok (After left (InUnit u.0), u.1)) (omega arith)
      (cut_less (λ few. omega arith) (cut_inside (λ u. After left (InUnit u)) (show left ++ Mark sign.Hash ∷ []) []
      (joins (show left) toks (drop 1 toks) (Mark sign.Hash) front)
      (λ u. spells_last (show left) (show_one_unit u) (Mark sign.Hash)) (λ u f. ((fine, high), own, omega (arith, low)))
      (unit_cut (drop 1 toks))))
      (λ u e. done_cut (After left (InUnit u.0)))
  step_cut least left toks (next.Attribute a) fine low pos own high front = done_cut (After left (tree.AttributeOf a))
  step_cut least left toks next.Convert fine low pos own high front =
      cut_then target_at (λ t a b. target_decided t a b) (λ t. Ok (After left (Convert t.0), t.1)) (omega arith)
      (cut_less (λ few. omega arith) (cut_inside (λ t. After left (Convert t)) (show left ++ Reserved word.As ∷ []) []
      (joins (show left) toks (drop 1 toks) (Reserved word.As) front)
      (λ t. spells_last (show left) (show_target t) (Reserved word.As)) (λ t f. ((fine, high), own, omega (arith, low)))
      (target_cut (drop 1 toks))))
      (λ t e. done_cut (After left (Convert t.0)))
  step_cut least left toks next.Nothing fine low pos own high front = absurd (omega (arith, pos, own))

  -- one turn is decided by the first token
  chain_turn : (n least : ℕ) (left : Tree) (t : Token) (rest l : List Token) →
      goes_on least left (next_of (t ∷ rest)) ≡ true → ltb room (depth left) ≡ false →
      chain sub room (suc n) least left (t ∷ l)
      ≡ (step_at sub left l (next_of (t ∷ rest)) >>= λ x. chain sub room n least x.0 x.1)
  unfolding chain
  chain_turn n least left t rest l is shallow =
      let same : next_of (t ∷ l) ≡ next_of (t ∷ rest) = next_first t l ∙ sym (next_first t rest) in
      rw (same, is, shallow) refl

  chain_cut : (n least : ℕ) (left : Tree) (toks : List Token) → 1 ≤ least → IsWellBracketed left →
      least ≤ level_of left → depth left ≤ room + 1 →
      Cuts (Begins show (Fits (room + 1) least)) 1 (show left ++ toks) (chain sub room n least left) toks
  chain_cut n least left [] pos fine high low =
      reads_on (left, []) (chain_stops sub room least left [] n (below_stops least left next.Nothing (omega arith)))
  chain_cut zero least left (t ∷ rest) pos fine high low = by (goes_on least left (next_of (t ∷ rest))) refl
    where
      by : (c : Bool) → goes_on least left (next_of (t ∷ rest)) ≡ c → Cuts (Begins show (Fits (room + 1) least)) 1
          (show left ++ t ∷ rest) (chain sub room zero least left) (t ∷ rest)
      by true is = too_deep (chain_full sub room least left (t ∷ rest) zero refl is)
      by false is = reads_on (left, t ∷ rest) (chain_stops sub room least left (t ∷ rest) zero is)
  chain_cut (suc n) least left (t ∷ rest) pos fine high low =
      by (λ v l. chain_cut n least v l pos) (goes_on least left (next_of (t ∷ rest))) refl (ltb room (depth left)) refl
    where
      by : ((v : Tree) (l : List Token) → IsWellBracketed v → least ≤ level_of v → depth v ≤ room + 1 →
          Cuts (Begins show (Fits (room + 1) least)) 1 (show v ++ l) (chain sub room n least v) l) →
          (c : Bool) → goes_on least left (next_of (t ∷ rest)) ≡ c → (d : Bool) → ltb room (depth left) ≡ d →
          Cuts (Begins show (Fits (room + 1) least)) 1
          (show left ++ t ∷ rest) (chain sub room (suc n) least left) (t ∷ rest)
      by others false is d deep = reads_on (left, t ∷ rest) (chain_stops sub room least left (t ∷ rest) (suc n) is)
      by others true is true deep =
          too_deep (chain_deep sub room least left (t ∷ rest) (suc n) (ltb-true room (depth left) deep) is)
      by others true is false shallow =
          let tests =
          and_parts (leb least (own_of (next_of (t ∷ rest)))) (leb (left_of (next_of (t ∷ rest))) (level_of left)) is in
          let under = ltb-false room (depth left) shallow in
          let own = leb-true _ _ tests.0 in
          let taken = leb-true _ _ tests.1 in
          cut_through (λ l. step_at sub left l (next_of (t ∷ rest)) >>= λ x. chain sub room n least x.0 x.1) rest
          (chain_turn n least left t rest rest is shallow) (λ few. omega arith)
          (λ few x more. chain_turn n least left t rest (rest ++ x ∷ more) is shallow)
          (cut_then (λ (l : List Token). step_at sub left l (next_of (t ∷ rest))) (λ u a b. step_decided u a b sub
          (λ k. seen k u a b) left (next_of (t ∷ rest))) (λ x. chain sub room n least x.0 x.1) (omega arith)
          (step_cut least left (t ∷ rest) (next_of (t ∷ rest)) fine under pos own taken (front_is (t ∷ rest)))
          (λ x e.
          let one = (step_law sub room law least left (t ∷ rest) (next_of (t ∷ rest)) fine under own taken
          (front_is (t ∷ rest))).good x e in
          let r = one.read in
          subst (λ (l : List Token). Cuts (Begins show (Fits (room + 1) least)) 1 l (chain sub room n least x.0) x.1)
          (sym r.shown) (others x.0 x.1 r.fine r.high r.low)))

pub expression_cut : (room least : ℕ) (toks : List Token) → 1 ≤ least → least ≤ 13 →
    Cuts (Begins show (Fits room least)) 0 toks (expression_at room least) toks
unfolding expression_at
expression_cut zero least [] pos most = full_end refl (λ x more. refl)
expression_cut zero least (t ∷ toks) pos most = never (λ left e. absurd cc)
expression_cut (suc room) least toks pos most =
    let is : room + 1 ≡ suc room = omega arith in
    let seen : (k : ℕ) → Seen (expression_at room k) = λ k t a b. expression_decided t a b room k in
    let law : HasLaw (expression_at room) room = expression_law room in
    let cuts : (k : ℕ) (l : List Token) → 1 ≤ k → k ≤ 13 →
    Cuts (Begins show (Fits room k)) 0 l (expression_at room k) l = expression_cut room in
    subst (λ (k : ℕ). Cuts (Begins show (Fits k least)) 0 toks (λ (l : List Token).
    operand_at (expression_at room) l >>= λ x. chain (expression_at room) room room least x.0 x.1) toks) is
    (cut_then (operand_at (expression_at room))
    (λ t a b. operand_decided t a b (expression_at room) (λ k. seen k t a b))
    (λ x. chain (expression_at room) room room least x.0 x.1) (omega arith)
    (cut_inside (λ t. t) [] [] refl (λ t. sym (append-nil (show t))) (λ t f. (f.0, omega (arith, most, f.1), f.2))
    (operand_cut (expression_at room) room law seen cuts toks))
    (λ x e.
    let r = (operand_law (expression_at room) room law toks).good x e in
    let high = r.high in
    subst (λ (l : List Token).
    Cuts (Begins show (Fits (room + 1) least)) 1 l (chain (expression_at room) room room least x.0) x.1) (sym r.shown)
    (chain_cut (expression_at room) room law seen cuts room least x.0 x.1 pos r.fine
    (omega (arith, most, high)) r.low)))
