-- What stands at the front of the tokens is what was read, and is read again.
use Rattle.std.proofs.Common.{◌≡◌, ℕ, ◌≤◌, Bool, true, false, Option, Some, None, List, [], ◌∷◌, ◌++◌, length, cond, refl, ap, ◌∙◌, arith, Ok, append_assoc, length-append, rules, ◌⊎◌, inl, inr}
use Rattle.std.proofs.lemmas.Bool.{eqb-true}
use Rattle.std.specs.Prelude.{◌==◌}
use denote.Enum.Bare.{sameb, same_true}
use Rattle.pickle_syntax.specs.contracts.token.Sign as sign_contract
use Rattle.pickle_syntax.specs.contracts.token.Word as word_contract
use Rattle.pickle_syntax.specs.declared.token.Word.{Word}
use Rattle.pickle_syntax.specs.declared.token.Opener.{Opener}
use Rattle.pickle_syntax.specs.declared.token.Opener.TheVariants as opener
use Rattle.pickle_syntax.specs.declared.token.Sign.{Sign}
use Rattle.pickle_syntax.specs.declared.token.Sign.TheVariants as sign
use Rattle.pickle_tree.specs.declared.tree.Number.{Number}
use Rattle.pickle_tree.specs.declared.tree.Unit.{Unit as OffsetUnit}
use Rattle.pickle_tree.specs.declared.tree.Unit.TheVariants as unit
use Rattle.pickle_syntax.specs.Tokens.{Token, Reserved, Named, Opens, Numeral, Mark}
use Rattle.pickle_tree.specs.Tree.{TreeReference, Int, Uint, Called, TreeTarget, ToReference, ToOffset}
use Rattle.pickle_syntax.specs.Show.{show_reference, show_unit, show_target}
use Rattle.pickle_syntax.specs.Reading.{Fault, Wrong, Deep, Many, ◌>>=◌, Read, rest_if, after_sign, after_word, needed, expect, name_at, width_at, sized_at, reference_at, unit_named, named_unit, unit_at, offset_at, target_at}
use Rattle.pickle_syntax.proofs.Results.{Outcome, value, fault, then}

pub some_is : {A : Type 0} (x y : A) → let o : Option A = Some x in let p : Option A = Some y in o ≡ p → x ≡ y
some_is x y e = cc

-- only a wrong front is refused here, at one of these tokens or behind the last
abbrev pub IsWrong : List Token → Fault → Type 0
IsWrong toks (Wrong left) = left ≤ length toks
IsWrong toks Deep = ⊥
IsWrong toks Many = ⊥

pub wrong_only : (toks : List Token) (Bad : Fault → Type 0) → ((left : ℕ) → left ≤ length toks → Bad (Wrong left)) →
    (f : Fault) → IsWrong toks f → Bad f
wrong_only toks Bad h (Wrong left) w = h left w
wrong_only toks Bad h Deep w = absurd w
wrong_only toks Bad h Many w = absurd w

pub wrong_later : (rest toks : List Token) → length rest ≤ length toks → (f : Fault) → IsWrong rest f → IsWrong toks f
wrong_later rest toks h = wrong_only rest (IsWrong toks) (λ left w. omega (arith, h, w))

pub shorter : (front rest toks : List Token) → toks ≡ front ++ rest → length rest ≤ length toks
shorter front rest toks e = rw e (omega (arith, length-append front rest))

pub after_sign_is : (s : Sign) (toks rest : List Token) → after_sign s toks ≡ Some rest → toks ≡ Mark s ∷ rest
unfolding after_sign
after_sign_is s (Mark t ∷ toks) rest e = by (sameb sign_contract.the_type t s) refl e
  where
    by : (b : Bool) → sameb sign_contract.the_type t s ≡ b → rest_if b toks ≡ Some rest → Mark t ∷ toks ≡ Mark s ∷ rest
    by true is e =
        let same : t ≡ s = same_true sign_contract.the_type (search rules) t s is in let r = some_is toks rest e in cc
    by false is e = absurd cc
after_sign_is s [] rest e = absurd cc
after_sign_is s (_ ∷ toks) rest e = absurd cc

pub after_word_is : (w : Word) (toks rest : List Token) → after_word w toks ≡ Some rest → toks ≡ Reserved w ∷ rest
unfolding after_word
after_word_is w (Reserved v ∷ toks) rest e = by (sameb word_contract.the_type v w) refl e
  where
    by : (b : Bool) → sameb word_contract.the_type v w ≡ b → rest_if b toks ≡ Some rest →
        Reserved v ∷ toks ≡ Reserved w ∷ rest
    by true is e =
        let same : v ≡ w = same_true word_contract.the_type (search rules) v w is in let r = some_is toks rest e in cc
    by false is e = absurd cc
after_word_is w [] rest e = absurd cc
after_word_is w (_ ∷ toks) rest e = absurd cc

pub expect_law : (s : Sign) (toks : List Token) → Outcome (λ rest. toks ≡ Mark s ∷ rest) (IsWrong toks) (expect s toks)
unfolding expect
expect_law s toks = by (after_sign s toks) refl
  where
    by : (o : Option (List Token)) → after_sign s toks ≡ o →
        Outcome (λ rest. toks ≡ Mark s ∷ rest) (IsWrong toks) (needed o toks)
    by None is = fault _ _ (Wrong _) (omega arith)
    by (Some rest) is = value _ _ rest (after_sign_is s toks rest is)

pub name_law : (toks : List Token) →
    Outcome (λ (x : List ℕ × List Token). toks ≡ Named x.0 ∷ x.1) (IsWrong toks) (name_at toks)
unfolding name_at
name_law (Named n ∷ rest) = value _ _ (n, rest) refl
name_law [] = fault _ _ (Wrong _) (omega arith)
name_law (_ ∷ rest) = fault _ _ (Wrong _) (omega arith)

width_law : (toks : List Token) →
    Outcome (λ (x : Number × List Token). toks ≡ Numeral x.0 ∷ Mark sign.Greater ∷ x.1) (IsWrong toks) (width_at toks)
unfolding width_at
width_law (Numeral n ∷ rest) =
    then (expect sign.Greater rest) (λ after. Ok (n, after)) (expect_law sign.Greater rest)
    (λ after _ e. value _ _ (n, after) (ap (λ (l : List Token). Numeral n ∷ l) e))
    (wrong_later rest (Numeral n ∷ rest) (omega arith))
width_law [] = fault _ _ (Wrong _) (omega arith)
width_law (_ ∷ rest) = fault _ _ (Wrong _) (omega arith)

abbrev ShowsReference : List Token → TreeReference × List Token → Type 0
ShowsReference toks x = toks ≡ show_reference x.0 ++ x.1

sized_law : (o : Opener) (rest : List Token) →
    Outcome (ShowsReference (Opens o ∷ rest)) (IsWrong (Opens o ∷ rest)) (sized_at o rest)
sized_law opener.Int rest =
    then (width_at rest) (λ n. Ok (Int n.0, n.1)) (width_law rest)
    (λ n _ e. value _ _ (Int n.0, n.1) (ap (λ (l : List Token). Opens opener.Int ∷ l) e))
    (wrong_later rest (Opens opener.Int ∷ rest) (omega arith))
sized_law opener.Uint rest =
    then (width_at rest) (λ n. Ok (Uint n.0, n.1)) (width_law rest)
    (λ n _ e. value _ _ (Uint n.0, n.1) (ap (λ (l : List Token). Opens opener.Uint ∷ l) e))
    (wrong_later rest (Opens opener.Uint ∷ rest) (omega arith))
sized_law opener.Offset rest = fault _ _ (Wrong _) (omega arith)

pub reference_law : (toks : List Token) → Outcome (ShowsReference toks) (IsWrong toks) (reference_at toks)
unfolding reference_at
reference_law (Named n ∷ rest) = value _ _ (Called n, rest) refl
reference_law (Opens o ∷ rest) = sized_law o rest
reference_law [] = fault _ _ (Wrong _) (omega arith)
reference_law (_ ∷ rest) = fault _ _ (Wrong _) (omega arith)

chosen : {A : Type 0} (b : Bool) (x y z : A) → cond b x y ≡ z → ((b ≡ true) × (x ≡ z)) ⊎ ((b ≡ false) × (y ≡ z))
chosen true x y z e = inl (refl, e)
chosen false x y z e = inr (refl, e)

unit_named_is : (n : List ℕ) (u : OffsetUnit) → unit_named n ≡ Some u → Named n ≡ show_unit u
unit_named_is [] u e = absurd cc
unit_named_is (c ∷ []) u e =
    elim (chosen (c == 98) (Some unit.Bit) (cond (c == 66) (Some unit.Byte) None) (Some u) e) [
      | inl p ↦
          let bit : unit.Bit ≡ u = some_is unit.Bit u p.1 in
          let is : c ≡ 98 = eqb-true c 98 p.0 in by c 98 unit.Bit u refl is bit
      | inr p ↦
          elim (chosen (c == 66) (Some unit.Byte) None (Some u) p.1) [
            | inl q ↦ by c 66 unit.Byte u refl (eqb-true c 66 q.0) (some_is unit.Byte u q.1)
            | inr q ↦ absurd (let r = q.1 in cc)
          ]
    ]
  where
    by : (c d : ℕ) (v u : OffsetUnit) → Named (d ∷ []) ≡ show_unit v → c ≡ d → v ≡ u → Named (c ∷ []) ≡ show_unit u
    by c d v u shown is same = ap (λ (n : ℕ). Named (n ∷ [])) is ∙ shown ∙ ap show_unit same
unit_named_is (c ∷ d ∷ n) u e = absurd cc

pub unit_law : (toks : List Token) →
    Outcome (λ (x : OffsetUnit × List Token). toks ≡ show_unit x.0 ∷ x.1) (IsWrong toks) (unit_at toks)
unfolding unit_at
unit_law (Named n ∷ rest) = by (unit_named n) refl
  where
    by : (o : Option OffsetUnit) → unit_named n ≡ o →
        Outcome (λ (x : OffsetUnit × List Token). Named n ∷ rest ≡ show_unit x.0 ∷ x.1)
        (IsWrong (Named n ∷ rest)) (named_unit o rest)
    by None is = fault _ _ (Wrong _) (omega arith)
    by (Some u) is = value _ _ (u, rest) (ap (λ (t : Token). t ∷ rest) (unit_named_is n u is))
unit_law (Numeral n ∷ rest) = value _ _ (unit.Bits n, rest) refl
unit_law [] = fault _ _ (Wrong _) (omega arith)
unit_law (_ ∷ rest) = fault _ _ (Wrong _) (omega arith)

offset_joins : (toks r comma mid last after : List Token) (u : Token) → toks ≡ r ++ comma →
    comma ≡ Mark sign.Comma ∷ mid → mid ≡ u ∷ last → last ≡ Mark sign.Greater ∷ after →
    Opens opener.Offset ∷ toks ≡ (Opens opener.Offset ∷ r ++ Mark sign.Comma ∷ u ∷ Mark sign.Greater ∷ []) ++ after
offset_joins toks r comma mid last after u e f g h = rw (e, f, g, h) (simp append_assoc)

abbrev ShowsTarget : List Token → TreeTarget × List Token → Type 0
ShowsTarget toks x = toks ≡ show_target x.0 ++ x.1

offset_law : (toks : List Token) →
    Outcome (ShowsTarget (Opens opener.Offset ∷ toks)) (IsWrong (Opens opener.Offset ∷ toks)) (offset_at toks)
unfolding offset_at
offset_law toks =
    then (reference_at toks) (λ r. expect sign.Comma r.1 >>= λ comma. unit_at comma >>= λ u.
    expect sign.Greater u.1 >>= λ after. Ok (ToOffset r.0 u.0, after)) (reference_law toks)
    (λ r _ e. then (expect sign.Comma r.1)
    (λ comma. unit_at comma >>= λ u. expect sign.Greater u.1 >>= λ after. Ok (ToOffset r.0 u.0, after))
    (expect_law sign.Comma r.1)
    (λ comma _ f.
    then (unit_at comma) (λ u. expect sign.Greater u.1 >>= λ after. Ok (ToOffset r.0 u.0, after)) (unit_law comma)
    (λ u _ g. then (expect sign.Greater u.1) (λ after. Ok (ToOffset r.0 u.0, after)) (expect_law sign.Greater u.1)
    (λ after _ h. value _ _ (ToOffset r.0 u.0, after)
    (offset_joins toks (show_reference r.0) r.1 comma u.1 after (show_unit u.0) e f g h))
    (wrong_later u.1 (Opens opener.Offset ∷ toks) (omega (
      arith,
      shorter (show_reference r.0) r.1 toks e,
      shorter (Mark sign.Comma ∷ []) comma r.1 f,
      shorter (show_unit u.0 ∷ []) u.1 comma g,
    ))))
    (wrong_later comma (Opens opener.Offset ∷ toks)
    (omega (arith, shorter (show_reference r.0) r.1 toks e, shorter (Mark sign.Comma ∷ []) comma r.1 f))))
    (wrong_later r.1 (Opens opener.Offset ∷ toks) (omega (arith, shorter (show_reference r.0) r.1 toks e))))
    (wrong_later toks (Opens opener.Offset ∷ toks) (omega arith))

plain_law : (toks : List Token) →
    Outcome (ShowsTarget toks) (IsWrong toks) (reference_at toks >>= λ r. Ok (ToReference r.0, r.1))
plain_law toks = then (reference_at toks) (λ r. Ok (ToReference r.0, r.1)) (reference_law toks)
    (λ r _ e. value _ _ (ToReference r.0, r.1) e) (λ d w. w)

pub target_law : (toks : List Token) → Outcome (ShowsTarget toks) (IsWrong toks) (target_at toks)
unfolding target_at
target_law (Opens opener.Offset ∷ rest) = offset_law rest
target_law [] = plain_law []
target_law (t ∷ rest) = plain_law (t ∷ rest)

-- ---- reading again

abbrev done : {A : Type 0} → A → List Token → Read A
done x rest = Ok (x, rest)

pub reference_again : (r : TreeReference) (rest : List Token) → reference_at (show_reference r ++ rest) ≡ done r rest
unfolding reference_at width_at expect after_sign
reference_again (Int n) rest = refl
reference_again (Uint n) rest = refl
reference_again (Called n) rest = refl

pub unit_again : (u : OffsetUnit) (rest : List Token) → unit_at (show_unit u ∷ rest) ≡ done u rest
unfolding unit_at
unit_again unit.Bit rest = refl
unit_again unit.Byte rest = refl
unit_again (unit.Bits n) rest = refl

offset_again : (r : TreeReference) (u : OffsetUnit) (rest : List Token) →
    offset_at (show_reference r ++ (Mark sign.Comma ∷ show_unit u ∷ Mark sign.Greater ∷ rest))
    ≡ done (ToOffset r u) rest
unfolding offset_at expect after_sign
offset_again r u rest = rw (
  reference_again r (Mark sign.Comma ∷ show_unit u ∷ Mark sign.Greater ∷ rest),
  unit_again u (Mark sign.Greater ∷ rest),
) refl

pub target_again : (t : TreeTarget) (rest : List Token) → target_at (show_target t ++ rest) ≡ done t rest
unfolding target_at reference_at width_at expect after_sign
target_again (ToReference (Int n)) rest = refl
target_again (ToReference (Uint n)) rest = refl
target_again (ToReference (Called n)) rest = refl
target_again (ToOffset r u) rest =
    let regroup : show_target (ToOffset r u) ++ rest
    ≡ Opens opener.Offset ∷ (show_reference r ++ (Mark sign.Comma ∷ show_unit u ∷ Mark sign.Greater ∷ rest)) =
    simp append_assoc in
    ap target_at regroup ∙ offset_again r u rest
