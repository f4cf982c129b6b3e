-- Which token the reading stops at is decided by the tokens up to it.
use Rattle.std.proofs.Common.{◌≡◌, ℕ, zero, suc, ◌+◌, ◌≤◌, ◌⊎◌, inl, inr, Bool, true, false, cond, ltb, Option, Some, None, List, [], ◌∷◌, ◌++◌, length, refl, sym, ap, subst, ◌∙◌, arith, Result, Ok, Err, length-append}
use denote.Enum.Bare.{sameb}
use Rattle.pickle_syntax.specs.contracts.token.Sign as sign_contract
use Rattle.pickle_syntax.specs.contracts.token.Word as word_contract
use Rattle.pickle_syntax.specs.declared.token.Word.{Word}
use Rattle.pickle_syntax.specs.declared.token.Word.TheVariants as word
use Rattle.pickle_syntax.specs.declared.token.Opener.TheVariants as opener
use Rattle.pickle_syntax.specs.declared.token.Sign.{Sign}
use Rattle.pickle_syntax.specs.declared.token.Sign.TheVariants as sign
use Rattle.pickle_tree.specs.declared.tree.ByteOrder.{ByteOrder}
use Rattle.pickle_tree.specs.declared.tree.ByteOrder.TheVariants as order
use Rattle.pickle_tree.specs.declared.tree.Unit.{Unit as OffsetUnit}
use Rattle.pickle_tree.specs.declared.tree.Unit.TheVariants as unit
use Rattle.pickle_syntax.specs.declared.parser.operators.Start.{Start}
use Rattle.pickle_syntax.specs.declared.parser.operators.Start.TheVariants as start
use Rattle.pickle_syntax.specs.declared.parser.operators.Next.{Next}
use Rattle.pickle_syntax.specs.declared.parser.operators.Next.TheVariants as next
use Rattle.pickle_syntax.specs.Tokens.{Token, Reserved, Named, Opens, Numeral, Mark}
use Rattle.pickle_syntax.specs.Tokens as token
use Rattle.pickle_tree.specs.Tree.{Int, Uint, Called, ToReference, ToOffset, Select, InUnit, Convert, Tree, Literal, Name, Bracket, Before, Between, Choice, Index, After, FormTree, Plain, StringForm, OffsetForm, ArrayForm, StructForm, IntegralForm, UnionForm, FieldTrees, NoFields, FieldThen, FieldTree, DeclarationTree}
use Rattle.pickle_tree.specs.Tree as tree
use Rattle.pickle_syntax.specs.Levels.{level}
use Rattle.pickle_tree.specs.Limits.{Limits, depth, form_depth}
use Rattle.pickle_syntax.specs.Operators.{start_of, next_of, goes_on}
use Rattle.pickle_syntax.specs.ReadExpressions.{Reader, operand_at, step_at, chain, expression_at}
use Rattle.pickle_syntax.specs.ReadForms.{present_at, present_if, part_at, condition_at, bound_by, bound_at, FormReader, order_at, optional_name_at, field_at, with_field, unless_closed, fields_at, braced_at, target_form, struct_by, struct_at, pinned_at, base_at, suffix_by, suffix_at, form_at, declaration_at, with_declaration, declarations_at, pickle_at}
use Rattle.pickle_syntax.specs.Reading.{Fault, Wrong, Deep, Many, ◌>>=◌, Read, after_sign, after_word, needed, expect, name_at, width_at, reference_at, unit_named, unit_at, offset_at, target_at}

-- no more than so many tokens are left
abbrev pub Within : {A : Type 0} → ℕ → Read A → Type 0
Within n (Ok x) = length x.1 ≤ n
Within n (Err (Wrong left)) = left ≤ n
Within n (Err Deep) = Unit {0}
Within n (Err Many) = Unit {0}

within_more : {A : Type 0} (m n : ℕ) (r : Read A) → m ≤ n → Within m r → Within n r
within_more m n (Ok x) less w = omega (arith, less, w)
within_more m n (Err (Wrong left)) less w = omega (arith, less, w)
within_more m n (Err Deep) less w = tt
within_more m n (Err Many) less w = tt

within_then : {A B : Type 0} (n : ℕ) (r : Read A) (f : A × List Token → Read B) → Within n r →
    ((x : A × List Token) → length x.1 ≤ n → Within n (f x)) → Within n (r >>= f)
within_then n (Ok x) f w more = more x w
within_then n (Err (Wrong left)) f w more = w
within_then n (Err Deep) f w more = tt
within_then n (Err Many) f w more = tt

-- a sign or a word that is asked for is seen in the first token
pub sign_first : (s : Sign) (x : Token) →
    ((rest : List Token) → after_sign s (x ∷ rest) ≡ Some rest) ⊎ ((rest : List Token) → after_sign s (x ∷ rest) ≡ None)
unfolding after_sign
sign_first s (Mark m) = by (sameb sign_contract.the_type m s) refl
  where
    by : (c : Bool) → sameb sign_contract.the_type m s ≡ c →
        ((rest : List Token) → after_sign s (Mark m ∷ rest) ≡ Some rest)
        ⊎ ((rest : List Token) → after_sign s (Mark m ∷ rest) ≡ None)
    by true e = inl (λ rest. rw e refl)
    by false e = inr (λ rest. rw e refl)
sign_first s _ = inr (λ rest. refl)

pub word_first : (w : Word) (x : Token) →
    ((rest : List Token) → after_word w (x ∷ rest) ≡ Some rest) ⊎ ((rest : List Token) → after_word w (x ∷ rest) ≡ None)
unfolding after_word
word_first w (Reserved v) = by (sameb word_contract.the_type v w) refl
  where
    by : (c : Bool) → sameb word_contract.the_type v w ≡ c →
        ((rest : List Token) → after_word w (Reserved v ∷ rest) ≡ Some rest)
        ⊎ ((rest : List Token) → after_word w (Reserved v ∷ rest) ≡ None)
    by true e = inl (λ rest. rw e refl)
    by false e = inr (λ rest. rw e refl)
word_first w _ = inr (λ rest. refl)

pub sign_none : (s : Sign) → after_sign s [] ≡ None
unfolding after_sign
sign_none s = refl

pub word_none : (w : Word) → after_word w [] ≡ None
unfolding after_word
word_none w = refl

within_cond : {A : Type 0} (n : ℕ) (c : Bool) (r s : Read A) → Within n r → Within n s → Within n (cond c r s)
within_cond n true r s v w = v
within_cond n false r s v w = w

-- the operator at the front is seen in the first token
pub next_first : (x : Token) (rest : List Token) → next_of (x ∷ rest) ≡ next_of (x ∷ [])
next_first (Mark s) rest = refl
next_first (token.AttributeOf a) rest = refl
next_first (Reserved w) rest = refl
next_first _ rest = refl

pub with_field_is : (f : FieldTree) (r : Read FieldTrees) →
    with_field f r ≡ (r >>= λ x. Ok (FieldThen f.form f.parts x.0, x.1))
with_field_is f (Ok x) = refl
with_field_is f (Err e) = refl

-- declarations, with no token behind them
abbrev pub nothing_left : List DeclarationTree → Read (List DeclarationTree)
nothing_left ds = Ok (ds, [])

abbrev pub behind : DeclarationTree → List DeclarationTree × List Token → Read (List DeclarationTree)
behind d x = Ok (d ∷ x.0, x.1)

-- tokens that are the same up to t, and then a or b
module _ (t : Token) (a b : List Token) where
  -- two readings of them: both end before t or at it, with the same value; both stop there; or the first goes past t
  pub data Paired {A : Type 0} (r s : Read A) : Type 0 where
    both : (v : A) (g : List Token) → r ≡ Ok (v, g ++ t ∷ a) → s ≡ Ok (v, g ++ t ∷ b) → Paired r s
    stops : (left : ℕ) → r ≡ Err (Wrong (left + length a + 1)) → s ≡ Err (Wrong (left + length b + 1)) → Paired r s
    past : Within (length a) r → Paired r s

  pub record Decided {A : Type 0} (read : List Token → Read A) : Type 0 where
    pub within : (toks : List Token) → Within (length toks) (read toks)
    pub paired : (g : List Token) → Paired (read (g ++ t ∷ a)) (read (g ++ t ∷ b))

  decided_as : {A : Type 0} (read other : List Token → Read A) → ((toks : List Token) → read toks ≡ other toks) →
      Decided other → Decided read
  decided_as read other e d = record {
    within = λ toks. rw (e toks) (d.within toks);
    paired = λ g. rw (e (g ++ t ∷ a), e (g ++ t ∷ b)) (d.paired g);
  }

  decided_ok : {A : Type 0} (v : A) → Decided (λ (l : List Token). Ok (v, l))
  decided_ok v = record { within = λ toks. omega arith; paired = λ g. both v g refl refl }

  decided_deep : {A : Type 0} → Decided {A = A} (λ (l : List Token). Err Deep)
  decided_deep = record { within = λ toks. tt; paired = λ g. past tt }

  decided_many : {A : Type 0} → Decided {A = A} (λ (l : List Token). Err Many)
  decided_many = record { within = λ toks. tt; paired = λ g. past tt }

  decided_wrong : {A : Type 0} → Decided {A = A} (λ (l : List Token). Err (Wrong (length l)))
  decided_wrong = record {
    within = λ toks. omega arith;
    paired = λ g.
        let e : length (g ++ t ∷ a) ≡ length g + length a + 1 = omega (arith, length-append g (t ∷ a)) in
        let h : length (g ++ t ∷ b) ≡ length g + length b + 1 = omega (arith, length-append g (t ∷ b)) in
        stops (length g) (rw e refl) (rw h refl);
  }

  decided_then : {A B : Type 0} (read : List Token → Read A) (f : A × List Token → Read B) → Decided read →
      ((v : A) → Decided (λ l. f (v, l))) → Decided (λ toks. read toks >>= f)
  decided_then {A = A} {B = B} read f d more = record {
    within = λ toks. goes (length toks) (read toks) (d.within toks);
    paired = λ g. by (read (g ++ t ∷ a)) (read (g ++ t ∷ b)) (d.paired g);
  }
    where
      goes : (n : ℕ) (r : Read A) → Within n r → Within n (r >>= f)
      goes n r w = within_then n r f w (λ x less. within_more (length x.1) n (f x) less ((more x.0).within x.1))

      by : (r s : Read A) → Paired r s → Paired (r >>= f) (s >>= f)
      by r s (both v g e h) = rw (e, h) ((more v).paired g)
      by r s (stops left e h) = stops left (rw e refl) (rw h refl)
      by r s (past w) = past (goes (length a) r w)

  -- what a reading does with tokens that begin so: it takes the token and goes on, goes on with all, or finds the token
  -- wrong
  data First {A : Type 0} (read : List Token → Read A) (x : Token) : Type 0 where
    takes : (k : List Token → Read A) → Decided k → ((rest : List Token) → read (x ∷ rest) ≡ k rest) → First read x
    whole : (k : List Token → Read A) → Decided k →
        ((rest : List Token) → read (x ∷ rest) ≡ k (x ∷ rest)) → First read x
    wrong : ((rest : List Token) → read (x ∷ rest) ≡ Err (Wrong (length rest + 1))) → First read x

  no_front : {A : Type 0} (read : List Token → Read A) (x : Token) →
      ((rest : List Token) → read (x ∷ rest) ≡ Err (Wrong (length (x ∷ rest)))) → First read x
  no_front read x e = whole (λ toks. Err (Wrong (length toks))) decided_wrong e

  decided_first : {A : Type 0} (read : List Token → Read A) → Within 0 (read []) →
      ((x : Token) → First read x) → Decided read
  decided_first {A = A} read none first = record { within = inside; paired = pair }
    where
      inside : (toks : List Token) → Within (length toks) (read toks)
      inside [] = none
      inside (x ∷ rest) = by (first x)
        where
          by : First read x → Within (length (x ∷ rest)) (read (x ∷ rest))
          by (takes k d e) =
              rw (e rest) (within_more (length rest) (length (x ∷ rest)) (k rest) (omega arith) (d.within rest))
          by (whole k d e) = rw (e rest) (d.within (x ∷ rest))
          by (wrong e) = rw (e rest) (omega arith)

      pair : (g : List Token) → Paired (read (g ++ t ∷ a)) (read (g ++ t ∷ b))
      pair [] = by (first t)
        where
          by : First read t → Paired (read (t ∷ a)) (read (t ∷ b))
          by (takes k d e) = past (rw (e a) (d.within a))
          by (whole k d e) = rw (e a, e b) (d.paired [])
          by (wrong e) =
              let p : 0 + length a + 1 ≡ length a + 1 = omega arith in
              let q : 0 + length b + 1 ≡ length b + 1 = omega arith in
              stops 0 (rw p (e a)) (rw q (e b))
      pair (x ∷ g) = by (first x)
        where
          by : First read x → Paired (read (x ∷ (g ++ t ∷ a))) (read (x ∷ (g ++ t ∷ b)))
          by (takes k d e) = rw (e (g ++ t ∷ a), e (g ++ t ∷ b)) (d.paired g)
          by (whole k d e) = rw (e (g ++ t ∷ a), e (g ++ t ∷ b)) (d.paired (x ∷ g))
          by (wrong e) =
              let p : length (g ++ t ∷ a) + 1 ≡ (length g + 1) + length a + 1 =
              omega (arith, length-append g (t ∷ a)) in
              let q : length (g ++ t ∷ b) + 1 ≡ (length g + 1) + length b + 1 =
              omega (arith, length-append g (t ∷ b)) in
              stops (length g + 1) (rw (e (g ++ t ∷ a), p) refl) (rw (e (g ++ t ∷ b), q) refl)

  -- what is chosen by whether the tokens begin with a sign
  decided_sign : {A : Type 0} (s : Sign) (k : Option (List Token) → List Token → Read A)
      (some none : List Token → Read A) →
      ((rest toks : List Token) → k (Some rest) toks ≡ some rest) → ((toks : List Token) → k None toks ≡ none toks) →
      Decided some → Decided none → Decided (λ toks. k (after_sign s toks) toks)
  decided_sign {A = A} s k some none e h taken without = decided_first (λ toks. k (after_sign s toks) toks)
      (rw (sign_none s, h []) (without.within [])) (λ x. by x (sign_first s x))
    where
      by : (x : Token) → ((rest : List Token) → after_sign s (x ∷ rest) ≡ Some rest)
          ⊎ ((rest : List Token) → after_sign s (x ∷ rest) ≡ None) → First (λ toks. k (after_sign s toks) toks) x
      by x (inl is) = takes some taken (λ rest. rw (is rest) (e rest (x ∷ rest)))
      by x (inr is) = whole none without (λ rest. rw (is rest) (h (x ∷ rest)))

  decided_word : {A : Type 0} (w : Word) (k : Option (List Token) → List Token → Read A)
      (some none : List Token → Read A) →
      ((rest toks : List Token) → k (Some rest) toks ≡ some rest) → ((toks : List Token) → k None toks ≡ none toks) →
      Decided some → Decided none → Decided (λ toks. k (after_word w toks) toks)
  decided_word {A = A} w k some none e h taken without = decided_first (λ toks. k (after_word w toks) toks)
      (rw (word_none w, h []) (without.within [])) (λ x. by x (word_first w x))
    where
      by : (x : Token) → ((rest : List Token) → after_word w (x ∷ rest) ≡ Some rest)
          ⊎ ((rest : List Token) → after_word w (x ∷ rest) ≡ None) → First (λ toks. k (after_word w toks) toks) x
      by x (inl is) = takes some taken (λ rest. rw (is rest) (e rest (x ∷ rest)))
      by x (inr is) = whole none without (λ rest. rw (is rest) (h (x ∷ rest)))

  decided_expect : {A : Type 0} (s : Sign) (f : List Token → Read A) → Decided f → Decided (λ toks. expect s toks >>= f)
  unfolding expect
  decided_expect s f d = decided_sign s (λ o toks. needed o toks >>= f) f (λ toks. Err (Wrong (length toks)))
      (λ rest toks. refl) (λ toks. refl) d decided_wrong

  decided_needed : {A : Type 0} (w : Word) (f : List Token → Read A) → Decided f →
      Decided (λ toks. needed (after_word w toks) toks >>= f)
  decided_needed w f d = decided_word w (λ o toks. needed o toks >>= f) f (λ toks. Err (Wrong (length toks)))
      (λ rest toks. refl) (λ toks. refl) d decided_wrong

  decided_cond : {A : Type 0} (c : Bool) (r s : List Token → Read A) → Decided r → Decided s →
      Decided (λ l. cond c (r l) (s l))
  decided_cond true r s d e = d
  decided_cond false r s d e = e

  -- ---- what stands at the front

  pub name_decided : Decided name_at
  unfolding name_at
  name_decided = decided_first name_at (omega arith) first
    where
      first : (x : Token) → First name_at x
      first (Named n) = takes (λ rest. Ok (n, rest)) (decided_ok n) (λ rest. refl)
      first _ = no_front name_at _ (λ rest. refl)

  pub width_decided : Decided width_at
  unfolding width_at
  width_decided = decided_first width_at (omega arith) first
    where
      first : (x : Token) → First width_at x
      first (Numeral n) = takes (λ rest. expect sign.Greater rest >>= λ after. Ok (n, after))
          (decided_expect sign.Greater (λ after. Ok (n, after)) (decided_ok n)) (λ rest. refl)
      first _ = no_front width_at _ (λ rest. refl)

  pub reference_decided : Decided reference_at
  unfolding reference_at
  reference_decided = decided_first reference_at (omega arith) first
    where
      first : (x : Token) → First reference_at x
      first (Named n) = takes (λ rest. Ok (Called n, rest)) (decided_ok (Called n)) (λ rest. refl)
      first (Opens opener.Int) = takes (λ rest. width_at rest >>= λ n. Ok (Int n.0, n.1))
          (decided_then width_at (λ n. Ok (Int n.0, n.1)) width_decided (λ n. decided_ok (Int n))) (λ rest. refl)
      first (Opens opener.Uint) = takes (λ rest. width_at rest >>= λ n. Ok (Uint n.0, n.1))
          (decided_then width_at (λ n. Ok (Uint n.0, n.1)) width_decided (λ n. decided_ok (Uint n))) (λ rest. refl)
      first (Opens opener.Offset) = wrong (λ rest. refl)
      first _ = no_front reference_at _ (λ rest. refl)

  pub unit_decided : Decided unit_at
  unfolding unit_at
  unit_decided = decided_first unit_at (omega arith) first
    where
      first : (x : Token) → First unit_at x
      first (Named n) = by (unit_named n) refl
        where
          by : (o : Option OffsetUnit) → unit_named n ≡ o → First unit_at (Named n)
          by None e = wrong (λ rest. rw e refl)
          by (Some u) e = takes (λ rest. Ok (u, rest)) (decided_ok u) (λ rest. rw e refl)
      first (Numeral n) = takes (λ rest. Ok (unit.Bits n, rest)) (decided_ok (unit.Bits n)) (λ rest. refl)
      first _ = no_front unit_at _ (λ rest. refl)

  offset_decided : Decided offset_at
  unfolding offset_at
  offset_decided =
      decided_then reference_at (λ r. expect sign.Comma r.1 >>= λ comma. unit_at comma >>= λ u.
      expect sign.Greater u.1 >>= λ after. Ok (ToOffset r.0 u.0, after)) reference_decided
      (λ r. decided_expect sign.Comma
      (λ comma. unit_at comma >>= λ u. expect sign.Greater u.1 >>= λ after. Ok (ToOffset r u.0, after))
      (decided_then unit_at (λ u. expect sign.Greater u.1 >>= λ after. Ok (ToOffset r u.0, after)) unit_decided
      (λ u. decided_expect sign.Greater (λ after. Ok (ToOffset r u, after)) (decided_ok (ToOffset r u)))))

  plain_decided : Decided (λ toks. reference_at toks >>= λ r. Ok (ToReference r.0, r.1))
  plain_decided =
      decided_then reference_at (λ r. Ok (ToReference r.0, r.1)) reference_decided (λ r. decided_ok (ToReference r))

  pub target_decided : Decided target_at
  unfolding target_at
  target_decided = decided_first target_at (plain_decided.within []) first
    where
      first : (x : Token) → First target_at x
      first (Opens opener.Offset) = takes offset_at offset_decided (λ rest. refl)
      first _ = whole (λ toks. reference_at toks >>= λ r. Ok (ToReference r.0, r.1)) plain_decided (λ rest. refl)

  -- ---- expressions

  module _ (sub : Reader) (law : (least : ℕ) → Decided (sub least)) where
    pub operand_decided : Decided (operand_at sub)
    unfolding operand_at
    operand_decided = decided_first (operand_at sub) (omega arith) first
      where
        first : (x : Token) → First (operand_at sub) x
        first (Numeral n) = takes (λ rest. Ok (Literal n, rest)) (decided_ok (Literal n)) (λ rest. refl)
        first (token.Character c) =
            takes (λ rest. Ok (tree.Character c, rest)) (decided_ok (tree.Character c)) (λ rest. refl)
        first (token.Text bytes) =
            takes (λ rest. Ok (tree.Text bytes, rest)) (decided_ok (tree.Text bytes)) (λ rest. refl)
        first (Named n) = takes (λ rest. Ok (Name n, rest)) (decided_ok (Name n)) (λ rest. refl)
        first (Mark s) = by (start_of s) refl
          where
            by : (r : Start) → start_of s ≡ r → First (operand_at sub) (Mark s)
            by start.Bracket is =
                takes (λ rest. sub 1 rest >>= λ e. expect sign.CloseParen e.1 >>= λ after. Ok (Bracket e.0, after))
                (decided_then (sub 1) (λ e. expect sign.CloseParen e.1 >>= λ after. Ok (Bracket e.0, after)) (law 1)
                (λ e. decided_expect sign.CloseParen (λ after. Ok (Bracket e, after)) (decided_ok (Bracket e))))
                (λ rest. rw is refl)
            by (start.Prefix op) is =
                takes (λ rest. sub 13 rest >>= λ e. Ok (Before op e.0, e.1))
                (decided_then (sub 13) (λ e. Ok (Before op e.0, e.1)) (law 13) (λ e. decided_ok (Before op e)))
                (λ rest. rw is refl)
            by start.Nothing is = wrong (λ rest. rw is refl)
        first _ = no_front (operand_at sub) _ (λ rest. refl)

    pub step_decided : (left : Tree) (n : Next) → Decided (λ rest. step_at sub left rest n)
    unfolding step_at
    step_decided left (next.Infix op) = decided_then (sub (level op + 1)) (λ r. Ok (Between op left r.0, r.1))
        (law (level op + 1)) (λ r. decided_ok (Between op left r))
    step_decided left next.Choice =
        decided_then (sub 1)
        (λ x. expect sign.Colon x.1 >>= λ after. sub 1 after >>= λ y. Ok (Choice left x.0 y.0, y.1)) (law 1)
        (λ x. decided_expect sign.Colon (λ after. sub 1 after >>= λ y. Ok (Choice left x y.0, y.1))
        (decided_then (sub 1) (λ y. Ok (Choice left x y.0, y.1)) (law 1) (λ y. decided_ok (Choice left x y))))
    step_decided left next.Index =
        decided_then (sub 1) (λ i. expect sign.CloseBracket i.1 >>= λ after. Ok (Index left i.0, after)) (law 1)
        (λ i. decided_expect sign.CloseBracket (λ after. Ok (Index left i, after)) (decided_ok (Index left i)))
    step_decided left next.Select = decided_then name_at (λ n. Ok (After left (Select n.0), n.1)) name_decided
        (λ n. decided_ok (After left (Select n)))
    step_decided left next.Unit = decided_then unit_at (λ u. Ok (After left (InUnit u.0), u.1)) unit_decided
        (λ u. decided_ok (After left (InUnit u)))
    step_decided left (next.Attribute a) = decided_ok (After left (tree.AttributeOf a))
    step_decided left next.Convert = decided_then target_at (λ t. Ok (After left (Convert t.0), t.1)) target_decided
        (λ t. decided_ok (After left (Convert t)))
    step_decided left next.Nothing = decided_wrong

    chain_decided : (room n least : ℕ) (left : Tree) → Decided (chain sub room n least left)
    unfolding chain step_at
    chain_decided room zero least left = decided_first (chain sub room zero least left)
        (within_cond 0 (goes_on least left next.Nothing) (Err Deep) (Ok (left, [])) tt (omega arith))
        (λ x. by x (goes_on least left (next_of (x ∷ []))) refl)
      where
        by : (x : Token) (c : Bool) → goes_on least left (next_of (x ∷ [])) ≡ c →
            First (chain sub room zero least left) x
        by x true is = takes (λ l. Err Deep) decided_deep (λ rest. rw (next_first x rest, is) refl)
        by x false is = whole (λ toks. Ok (left, toks)) (decided_ok left) (λ rest. rw (next_first x rest, is) refl)
    chain_decided room (suc n) least left =
        decided_first (chain sub room (suc n) least left)
        (within_cond 0 (goes_on least left next.Nothing) (cond (ltb room (depth left)) (Err Deep) (Err (Wrong 0)))
        (Ok (left, []))
        (within_cond 0 (ltb room (depth left)) (Err Deep) (Err (Wrong 0)) tt (omega arith)) (omega arith))
        (λ x. by (λ v. chain_decided room n least v) x (goes_on least left (next_of (x ∷ []))) refl)
      where
        more : Next → List Token → Read Tree
        more m rest = step_at sub left rest m >>= λ x. chain sub room n least x.0 x.1

        by : ((v : Tree) → Decided (chain sub room n least v)) → (x : Token) (c : Bool) →
            goes_on least left (next_of (x ∷ [])) ≡ c → First (chain sub room (suc n) least left) x
        by others x true is =
            takes (λ rest. cond (ltb room (depth left)) (Err Deep) (more (next_of (x ∷ [])) rest))
            (decided_cond (ltb room (depth left)) (λ l. Err Deep) (more (next_of (x ∷ []))) decided_deep
            (decided_then (λ rest. step_at sub left rest (next_of (x ∷ []))) (λ y. chain sub room n least y.0 y.1)
            (step_decided left (next_of (x ∷ []))) others))
            (λ rest. rw (next_first x rest, is) refl)
        by others x false is =
            whole (λ toks. Ok (left, toks)) (decided_ok left) (λ rest. rw (next_first x rest, is) refl)

  pub expression_decided : (room least : ℕ) → Decided (expression_at room least)
  unfolding expression_at
  expression_decided zero least =
      decided_first (expression_at zero least) (omega arith) (λ x. takes (λ l. Err Deep) decided_deep (λ rest. refl))
  expression_decided (suc room) least =
      decided_then (operand_at (expression_at room)) (λ x. chain (expression_at room) room room least x.0 x.1)
      (operand_decided (expression_at room) (expression_decided room))
      (λ v. chain_decided (expression_at room) (expression_decided room) room room least v)

  -- ---- fields and types

  pub present_decided : (most : ℕ) → Decided (present_at most)
  unfolding present_at
  present_decided most = decided_then (expression_at most 1) (λ e. Ok (Some e.0, e.1)) (expression_decided most 1)
      (λ e. decided_ok (Some e))

  pub part_decided : (most : ℕ) (s : Sign) → Decided (part_at most s)
  unfolding part_at
  part_decided most s = decided_sign s (present_if most) (present_at most) (λ toks. Ok (None, toks))
      (λ rest toks. refl) (λ toks. refl) (present_decided most) (decided_ok None)

  pub condition_decided : (most : ℕ) → Decided (condition_at most)
  unfolding condition_at
  condition_decided most = decided_word word.If (present_if most) (present_at most) (λ toks. Ok (None, toks))
      (λ rest toks. refl) (λ toks. refl) (present_decided most) (decided_ok None)

  pub bound_decided : (most : ℕ) → Decided (bound_at most)
  unfolding bound_at
  bound_decided most =
      decided_sign sign.CloseBracket (bound_by most) (λ rest. Ok (None, rest))
      (λ toks. present_at most toks >>= λ e. expect sign.CloseBracket e.1 >>= λ after. Ok (e.0, after))
      (λ rest toks. refl) (λ toks. refl) (decided_ok None)
      (decided_then (present_at most) (λ e. expect sign.CloseBracket e.1 >>= λ after. Ok (e.0, after))
      (present_decided most)
      (λ e. decided_expect sign.CloseBracket (λ after. Ok (e, after)) (decided_ok e)))

  module _ (limits : Limits) where
    module _ (sub : FormReader) (law : Decided sub) where
      -- a field after its type, and with its order of bytes
      abbrev named : Option ByteOrder → FormTree → Option (List ℕ) × List Token → Read FieldTree
      named o f n =
          part_at limits.expression_depth sign.Colon n.1 >>= λ c. part_at limits.expression_depth sign.At c.1 >>= λ l.
          condition_at limits.expression_depth l.1 >>= λ k. expect sign.Semicolon k.1 >>= λ after. Ok (
            record {
              form = f;
              parts = record { order = o; name = n.0; constraint = c.0; label = l.0; condition = k.0 };
            },
            after,
          )

      abbrev ordered : Option ByteOrder × List Token → Read FieldTree
      ordered o = sub o.1 >>= λ f. named o.0 f.0 (optional_name_at f.1)

      named_decided : (o : Option ByteOrder) (f : FormTree) (n : Option (List ℕ)) → Decided (λ l. named o f (n, l))
      named_decided o f n =
          let most = limits.expression_depth in
          decided_then (part_at most sign.Colon) (λ c. part_at most sign.At c.1 >>= λ l. condition_at most l.1 >>= λ k.
          expect sign.Semicolon k.1 >>= λ after. Ok (
            record { form = f; parts = record { order = o; name = n; constraint = c.0; label = l.0; condition = k.0 } },
            after,
          )) (part_decided most sign.Colon)
          (λ c. decided_then (part_at most sign.At)
          (λ l. condition_at most l.1 >>= λ k. expect sign.Semicolon k.1 >>= λ after. Ok (
            record { form = f; parts = record { order = o; name = n; constraint = c; label = l.0; condition = k.0 } },
            after,
          )) (part_decided most sign.At)
          (λ l. decided_then (condition_at most) (λ k. expect sign.Semicolon k.1 >>= λ after. Ok (
            record { form = f; parts = record { order = o; name = n; constraint = c; label = l; condition = k.0 } },
            after,
          )) (condition_decided most)
          (λ k. decided_expect sign.Semicolon (λ after. Ok (
            record { form = f; parts = record { order = o; name = n; constraint = c; label = l; condition = k } },
            after,
          )) (decided_ok
          (record { form = f; parts = record { order = o; name = n; constraint = c; label = l; condition = k } })))))

      with_name_decided : (o : Option ByteOrder) (f : FormTree) → Decided (λ l. named o f (optional_name_at l))
      unfolding optional_name_at
      with_name_decided o f =
          decided_first (λ l. named o f (optional_name_at l)) ((named_decided o f None).within []) first
        where
          first : (x : Token) → First (λ l. named o f (optional_name_at l)) x
          first (Named n) = takes (λ rest. named o f (Some n, rest)) (named_decided o f (Some n)) (λ rest. refl)
          first _ = whole (λ toks. named o f (None, toks)) (named_decided o f None) (λ rest. refl)

      ordered_decided : (o : Option ByteOrder) → Decided (λ l. ordered (o, l))
      ordered_decided o = decided_then sub (λ f. named o f.0 (optional_name_at f.1)) law (λ f. with_name_decided o f)

      pub field_decided : Decided (field_at limits sub)
      unfolding field_at order_at
      field_decided = decided_first (field_at limits sub) ((ordered_decided None).within []) first
        where
          first : (x : Token) → First (field_at limits sub) x
          first (Reserved word.Big) =
              takes (λ rest. ordered (Some order.Big, rest)) (ordered_decided (Some order.Big)) (λ rest. refl)
          first (Reserved word.Little) =
              takes (λ rest. ordered (Some order.Little, rest)) (ordered_decided (Some order.Little)) (λ rest. refl)
          first _ = whole (λ toks. ordered (None, toks)) (ordered_decided None) (λ rest. refl)

      pub fields_decided : (n : ℕ) → Decided (fields_at limits sub n)
      unfolding fields_at
      fields_decided zero =
          decided_sign sign.CloseBrace (λ o toks. unless_closed o (Err Many)) (λ rest. Ok (NoFields, rest))
          (λ toks. Err Many) (λ rest toks. refl) (λ toks. refl) (decided_ok NoFields) decided_many
      fields_decided (suc n) =
          decided_sign sign.CloseBrace
          (λ o toks. unless_closed o (field_at limits sub toks >>= λ f. with_field f.0 (fields_at limits sub n f.1)))
          (λ rest. Ok (NoFields, rest))
          (λ toks. field_at limits sub toks >>= λ f. with_field f.0 (fields_at limits sub n f.1))
          (λ rest toks. refl) (λ toks. refl) (decided_ok NoFields)
          (decided_then (field_at limits sub) (λ f. with_field f.0 (fields_at limits sub n f.1)) field_decided
          (λ f. decided_as (λ l. with_field f (fields_at limits sub n l))
          (λ l. fields_at limits sub n l >>= λ x. Ok (FieldThen f.form f.parts x.0, x.1))
          (λ l. with_field_is f (fields_at limits sub n l))
          (decided_then (fields_at limits sub n) (λ x. Ok (FieldThen f.form f.parts x.0, x.1)) (fields_decided n)
          (λ x. decided_ok (FieldThen f.form f.parts x)))))

      pub braced_decided : Decided (braced_at limits sub)
      unfolding braced_at
      braced_decided = decided_expect sign.OpenBrace (λ after. fields_at limits sub limits.fields after)
          (fields_decided limits.fields)

      struct_decided : Decided (struct_at limits sub)
      unfolding struct_at
      struct_decided =
          decided_sign sign.OpenBrace (struct_by limits sub)
          (λ rest. fields_at limits sub limits.fields rest >>= λ fs. Ok (StructForm false fs.0, fs.1))
          (λ toks. reference_at toks >>= λ r. braced_at limits sub r.1 >>= λ fs. Ok (IntegralForm r.0 fs.0, fs.1))
          (λ rest toks. refl) (λ toks. refl)
          (decided_then (fields_at limits sub limits.fields) (λ fs. Ok (StructForm false fs.0, fs.1))
          (fields_decided limits.fields) (λ fs. decided_ok (StructForm false fs)))
          (decided_then reference_at
          (λ r. braced_at limits sub r.1 >>= λ fs. Ok (IntegralForm r.0 fs.0, fs.1)) reference_decided
          (λ r. decided_then (braced_at limits sub) (λ fs. Ok (IntegralForm r fs.0, fs.1)) braced_decided
          (λ fs. decided_ok (IntegralForm r fs))))

      pinned_decided : Decided (pinned_at limits sub)
      unfolding pinned_at
      pinned_decided =
          decided_needed word.Struct (λ after. braced_at limits sub after >>= λ fs. Ok (StructForm true fs.0, fs.1))
          (decided_then (braced_at limits sub) (λ fs. Ok (StructForm true fs.0, fs.1)) braced_decided
          (λ fs. decided_ok (StructForm true fs)))

      targeted_decided : Decided (λ toks. target_at toks >>= λ t. Ok (target_form t.0, t.1))
      targeted_decided =
          decided_then target_at (λ t. Ok (target_form t.0, t.1)) target_decided (λ t. decided_ok (target_form t))

      pub base_decided : Decided (base_at limits sub)
      unfolding base_at
      base_decided = decided_first (base_at limits sub) (targeted_decided.within []) first
        where
          first : (x : Token) → First (base_at limits sub) x
          first (Reserved word.String) = takes (λ rest. Ok (StringForm, rest)) (decided_ok StringForm) (λ rest. refl)
          first (Reserved word.Struct) = takes (struct_at limits sub) struct_decided (λ rest. refl)
          first (Reserved word.Pinned) = takes (pinned_at limits sub) pinned_decided (λ rest. refl)
          first (Reserved word.Union) = takes (λ rest. braced_at limits sub rest >>= λ fs. Ok (UnionForm fs.0, fs.1))
              (decided_then (braced_at limits sub) (λ fs. Ok (UnionForm fs.0, fs.1)) braced_decided
              (λ fs. decided_ok (UnionForm fs))) (λ rest. refl)
          first (Reserved _) = wrong (λ rest. refl)
          first _ = whole (λ toks. target_at toks >>= λ t. Ok (target_form t.0, t.1)) targeted_decided (λ rest. refl)

    suffix_decided : (room : ℕ) (f : FormTree) → Decided (suffix_at limits room f)
    unfolding suffix_at
    suffix_decided room f =
        decided_sign sign.OpenBracket (suffix_by limits room f) (λ rest. cond (ltb room (form_depth f)) (Err Deep)
        (bound_at limits.expression_depth rest >>= λ b. Ok (ArrayForm f b.0, b.1)))
        (λ toks. Ok (f, toks)) (λ rest toks. refl) (λ toks. refl)
        (decided_cond (ltb room (form_depth f)) (λ l. Err Deep)
        (λ rest. bound_at limits.expression_depth rest >>= λ b. Ok (ArrayForm f b.0, b.1)) decided_deep
        (decided_then (bound_at limits.expression_depth) (λ b. Ok (ArrayForm f b.0, b.1))
        (bound_decided limits.expression_depth) (λ b. decided_ok (ArrayForm f b))))
        (decided_ok f)

    pub form_decided : (room : ℕ) → Decided (form_at limits room)
    unfolding form_at
    form_decided zero =
        decided_first (form_at limits zero) (omega arith) (λ x. takes (λ l. Err Deep) decided_deep (λ rest. refl))
    form_decided (suc room) = decided_then (base_at limits (form_at limits room)) (λ f. suffix_at limits room f.0 f.1)
        (base_decided (form_at limits room) (form_decided room)) (λ f. suffix_decided room f)

    -- ---- pickles

    pub declaration_decided : Decided (declaration_at limits)
    unfolding declaration_at
    declaration_decided =
        decided_needed word.Type (λ start. name_at start >>= λ name. expect sign.Assign name.1 >>= λ assign.
        form_at limits limits.form_depth assign >>= λ f. expect sign.Semicolon f.1 >>= λ after.
        Ok (record { name = name.0; form = f.0 }, after))
        (decided_then name_at (λ name. expect sign.Assign name.1 >>= λ assign. form_at limits limits.form_depth assign
        >>= λ f. expect sign.Semicolon f.1 >>= λ after. Ok (record { name = name.0; form = f.0 }, after)) name_decided
        (λ name. decided_expect sign.Assign (λ assign. form_at limits limits.form_depth assign >>= λ f.
        expect sign.Semicolon f.1 >>= λ after. Ok (record { name = name; form = f.0 }, after))
        (decided_then (form_at limits limits.form_depth)
        (λ f. expect sign.Semicolon f.1 >>= λ after. Ok (record { name = name; form = f.0 }, after))
        (form_decided limits.form_depth)
        (λ f. decided_expect sign.Semicolon (λ after. Ok (record { name = name; form = f }, after))
        (decided_ok (record { name = name; form = f }))))))

    -- all declarations, with nothing left behind them
    abbrev all : ℕ → List Token → Read (List DeclarationTree)
    all n toks = declarations_at limits n toks >>= nothing_left

    all_next : (n : ℕ) (r : Read DeclarationTree) →
        (r >>= λ d. with_declaration d.0 (declarations_at limits n d.1) >>= nothing_left)
        ≡ (r >>= λ d. all n d.1 >>= λ x. behind d.0 x)
    all_next n (Ok d) = by (declarations_at limits n d.1)
      where
        by : (r : Result (List DeclarationTree) Fault) →
            (with_declaration d.0 r >>= nothing_left) ≡ (r >>= nothing_left >>= λ x. behind d.0 x)
        by (Ok ds) = refl
        by (Err e) = refl
    all_next n (Err e) = refl

    pub then_twice : {A B C : Type 0} (r : Result A Fault) (f : A → Result B Fault) (g : B → Result C Fault) →
        (r >>= f >>= g) ≡ (r >>= λ x. f x >>= g)
    then_twice (Ok x) f g = refl
    then_twice (Err e) f g = refl

    pub all_decided : (n : ℕ) → Decided (all n)
    unfolding declarations_at
    all_decided zero = decided_first (all zero) (omega arith) (λ x. takes (λ l. Err Many) decided_many (λ rest. refl))
    all_decided (suc n) =
        let next = decided_then (declaration_at limits) (λ d. all n d.1 >>= λ x. behind d.0 x) declaration_decided
        (λ d. decided_then (all n) (behind d) (all_decided n) (λ ds. decided_ok (d ∷ ds))) in
        decided_first (all (suc n)) (omega arith)
        (λ x. whole (λ toks. declaration_at limits toks >>= λ d. all n d.1 >>= λ x. behind d.0 x) next
        (λ rest.
        then_twice (declaration_at limits (x ∷ rest)) (λ d. with_declaration d.0 (declarations_at limits n d.1))
        nothing_left ∙ all_next n (declaration_at limits (x ∷ rest))))

abbrev stopped : ℕ → Result (List DeclarationTree) Fault
stopped left = Err (Wrong left)

abbrev stopped_all : ℕ → Read (List DeclarationTree)
stopped_all left = Err (Wrong left)

wrong_is : (m n : ℕ) → stopped_all m ≡ stopped_all n → m ≡ n
wrong_is m n e = cc

all_stopped : (r : Result (List DeclarationTree) Fault) (n : ℕ) → (r >>= nothing_left) ≡ stopped_all n → r ≡ stopped n
all_stopped (Ok ds) n e = absurd cc
all_stopped (Err f) n e = let same : f ≡ Wrong n = cc in ap (λ (g : Fault). Err g) same

pub stops_there : (limits : Limits) (g rest more : List Token) (t : Token) →
    pickle_at limits (g ++ t ∷ rest) ≡ Err (Wrong (length rest + 1)) →
    pickle_at limits (g ++ t ∷ more) ≡ Err (Wrong (length more + 1))
stops_there limits g rest more t e =
    all_stopped _ _ (by (all t rest more limits limits.declarations (g ++ t ∷ rest)) (all t rest more limits
    limits.declarations (g ++ t ∷ more)) ((all_decided t rest more limits limits.declarations).paired g) (rw e refl))
  where
    by : (r s : Read (List DeclarationTree)) → Paired t rest more r s → r ≡ stopped_all (length rest + 1) →
        s ≡ stopped_all (length more + 1)
    by r s (both v h p q) is = absurd cc
    by r s (stops left p q) is =
        let same : left + length rest + 1 ≡ length rest + 1 = wrong_is _ _ (sym p ∙ is) in
        let end : left + length more + 1 ≡ length more + 1 = omega (arith, same) in
        q ∙ ap stopped_all end
    by r s (past w) is = absurd (over (length rest) (gone r is w))
      where
        over : (n : ℕ) → n + 1 ≤ n → ⊥
        over n h = absurd (omega (arith, h))

        gone : (r : Read (List DeclarationTree)) → r ≡ stopped_all (length rest + 1) → Within (length rest) r →
            length rest + 1 ≤ length rest
        gone r is w = subst (Within (length rest)) is w
