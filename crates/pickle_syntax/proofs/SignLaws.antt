-- Signs are cut by the rules.
use Rattle.std.proofs.Common.{◌≡◌, ◌≢◌, ℕ, cond, eqb, List, [], ◌∷◌, ◌++◌, refl, sym, ap, ◌∙◌, subst, arith, inl, inr, ◌&&◌, Option, Some, None, Ok, Err}
use Rattle.std.specs.Prelude.{slice_index}
use Rattle.std.proofs.lemmas.Bool.{and_parts, eqb-true}
use Rattle.pickle_syntax.specs.declared.token.Sign.{Sign}
use Rattle.pickle_syntax.specs.declared.token.Sign.TheVariants as sign
use Rattle.pickle_syntax.specs.declared.lexer.bytes.Start.TheVariants as start
use Rattle.pickle_syntax.specs.declared.lexer.fault.LexFaultKind.TheVariants.{BadByte}
use Rattle.pickle_syntax.specs.Tokens.{Mark}
use Rattle.pickle_syntax.specs.Bytes.{Fault, starts}
use Rattle.pickle_syntax.specs.Words.{Cut}
use Rattle.pickle_syntax.specs.Signs.{double_sign, single_sign, sign_cut, sign_piece}
use Rattle.pickle_syntax.specs.Lexing.{piece_at}
use Rattle.pickle_syntax.specs.Pieces.{sign_spelling, MayPrecede}
use Rattle.pickle_syntax.proofs.Chains.{tested}
use Rattle.pickle_syntax.proofs.Cuts.{Cuts, Reaches}

-- a test in a chain of tests for two bytes
on_two : (b next x y : ℕ) (v s : Sign) (more : Option Sign) → sign_spelling v ≡ x ∷ y ∷ [] →
    cond (eqb b x && eqb next y) (Some v) more ≡ Some s → (more ≡ Some s → sign_spelling s ≡ b ∷ next ∷ []) →
    sign_spelling s ≡ b ∷ next ∷ []
on_two b next x y v s more spelled is others = elim (tested (eqb b x && eqb next y) v more s is) [
  | inl hit ↦ (let both = and_parts (eqb b x) (eqb next y) hit.0 in
      rw (← hit.1, eqb-true b x both.0, eqb-true next y both.1) spelled)
  | inr e ↦ others e
]

-- and for one
on_one : (b x : ℕ) (v s : Sign) (more : Option Sign) → sign_spelling v ≡ x ∷ [] →
    cond (eqb b x) (Some v) more ≡ Some s → (more ≡ Some s → sign_spelling s ≡ b ∷ []) → sign_spelling s ≡ b ∷ []
on_one b x v s more spelled is others = elim (tested (eqb b x) v more s is) [
  | inl hit ↦ rw (← hit.1, eqb-true b x hit.0) spelled
  | inr e ↦ others e
]

double_is : (b next : ℕ) (s : Sign) → double_sign b next ≡ Some s → sign_spelling s ≡ b ∷ next ∷ []
unfolding double_sign
double_is b next s is =
    on_two b next 61 61 sign.EqualEqual s _ refl is (λ is.
    on_two b next 33 61 sign.BangEqual s _ refl is (λ is.
    on_two b next 60 61 sign.LessEqual s _ refl is (λ is.
    on_two b next 62 61 sign.GreaterEqual s _ refl is (λ is.
    on_two b next 60 60 sign.ShiftLeft s _ refl is (λ is.
    on_two b next 62 62 sign.ShiftRight s _ refl is (λ is.
    on_two b next 38 38 sign.AndAnd s _ refl is (λ is.
    on_two b next 124 124 sign.OrOr s None refl is (λ is.
    absurd cc))))))))

single_is : (b : ℕ) (s : Sign) → single_sign b ≡ Some s → sign_spelling s ≡ b ∷ []
unfolding single_sign
single_is b s is =
    on_one b 123 sign.OpenBrace s _ refl is (λ is.
    on_one b 125 sign.CloseBrace s _ refl is (λ is.
    on_one b 40 sign.OpenParen s _ refl is (λ is.
    on_one b 41 sign.CloseParen s _ refl is (λ is.
    on_one b 91 sign.OpenBracket s _ refl is (λ is.
    on_one b 93 sign.CloseBracket s _ refl is (λ is.
    on_one b 59 sign.Semicolon s _ refl is (λ is.
    on_one b 44 sign.Comma s _ refl is (λ is.
    on_one b 46 sign.Dot s _ refl is (λ is.
    on_one b 58 sign.Colon s _ refl is (λ is.
    on_one b 63 sign.Question s _ refl is (λ is.
    on_one b 64 sign.At s _ refl is (λ is.
    on_one b 35 sign.Hash s _ refl is (λ is.
    on_one b 61 sign.Assign s _ refl is (λ is.
    on_one b 43 sign.Plus s _ refl is (λ is.
    on_one b 45 sign.Minus s _ refl is (λ is.
    on_one b 42 sign.Star s _ refl is (λ is.
    on_one b 47 sign.Slash s _ refl is (λ is.
    on_one b 37 sign.Percent s _ refl is (λ is.
    on_one b 126 sign.Tilde s _ refl is (λ is.
    on_one b 33 sign.Bang s _ refl is (λ is.
    on_one b 38 sign.And s _ refl is (λ is.
    on_one b 124 sign.Or s _ refl is (λ is.
    on_one b 94 sign.Caret s _ refl is (λ is.
    on_one b 60 sign.Less s _ refl is (λ is.
    on_one b 62 sign.Greater s None refl is (λ is.
    absurd cc))))))))))))))))))))))))))

-- the byte behind the first, or 1
abbrev second : List ℕ → ℕ
second (a ∷ b ∷ rest) = b
second _ = 1

no_nul : (s : Sign) → second (sign_spelling s) ≡ 0 → ⊥
no_nul sign.OpenBrace e = omega (arith, e)
no_nul sign.CloseBrace e = omega (arith, e)
no_nul sign.OpenParen e = omega (arith, e)
no_nul sign.CloseParen e = omega (arith, e)
no_nul sign.OpenBracket e = omega (arith, e)
no_nul sign.CloseBracket e = omega (arith, e)
no_nul sign.Semicolon e = omega (arith, e)
no_nul sign.Comma e = omega (arith, e)
no_nul sign.Dot e = omega (arith, e)
no_nul sign.Colon e = omega (arith, e)
no_nul sign.Question e = omega (arith, e)
no_nul sign.At e = omega (arith, e)
no_nul sign.Hash e = omega (arith, e)
no_nul sign.Assign e = omega (arith, e)
no_nul sign.Plus e = omega (arith, e)
no_nul sign.Minus e = omega (arith, e)
no_nul sign.Star e = omega (arith, e)
no_nul sign.Slash e = omega (arith, e)
no_nul sign.Percent e = omega (arith, e)
no_nul sign.Tilde e = omega (arith, e)
no_nul sign.Bang e = omega (arith, e)
no_nul sign.And e = omega (arith, e)
no_nul sign.Or e = omega (arith, e)
no_nul sign.Caret e = omega (arith, e)
no_nul sign.Less e = omega (arith, e)
no_nul sign.Greater e = omega (arith, e)
no_nul sign.EqualEqual e = omega (arith, e)
no_nul sign.BangEqual e = omega (arith, e)
no_nul sign.LessEqual e = omega (arith, e)
no_nul sign.GreaterEqual e = omega (arith, e)
no_nul sign.ShiftLeft e = omega (arith, e)
no_nul sign.ShiftRight e = omega (arith, e)
no_nul sign.AndAnd e = omega (arith, e)
no_nul sign.OrOr e = omega (arith, e)

pub sign_may : (s : Sign) (after : List ℕ) → (s ≡ sign.Slash → (more : List ℕ) → after ≢ 42 ∷ more) →
    MayPrecede (Mark s) after
sign_may sign.Slash after h = h refl
sign_may _ after h = tt

two_not_slash : (s : Sign) (b next : ℕ) → sign_spelling s ≡ b ∷ next ∷ [] → s ≡ sign.Slash → ⊥
two_not_slash s b next is e = let f : 47 ∷ [] ≡ b ∷ next ∷ [] = sym (ap sign_spelling e) ∙ is in cc

module _ (at b : ℕ) where
  sign_cuts : (rest : List ℕ) (d s : Option Sign) (cut : Cut) → double_sign b (slice_index rest 0) ≡ d →
      single_sign b ≡ s → (b ≡ 47 → (more : List ℕ) → rest ≢ 42 ∷ more) → sign_cut at d s ≡ Ok cut → Cuts cut (b ∷ rest)
  sign_cuts [] (Some d) s cut ed es star is = absurd (no_nul d (rw (double_is b 0 d ed) refl))
  sign_cuts (c ∷ rest) (Some d) s cut ed es star is =
      let e : (Some (Mark d), 2) ≡ cut = cc in
      let spelled = double_is b c d ed in
      subst (λ (k : Cut). Cuts k (b ∷ c ∷ rest)) e (record {
        front = b ∷ c ∷ [];
        after = rest;
        whole = refl;
        size = refl;
        some = omega arith;
        is = (sym spelled, sign_may d rest (λ h. absurd (two_not_slash d b c spelled h)));
      })
  sign_cuts rest None (Some s) cut ed es star is =
      let e : (Some (Mark s), 1) ≡ cut = cc in
      let spelled = single_is b s es in
      subst (λ (k : Cut). Cuts k (b ∷ rest)) e (record {
        front = b ∷ [];
        after = rest;
        whole = refl;
        size = refl;
        some = omega arith;
        is = (
          sym spelled,
          sign_may s rest (λ h. star (let f : 47 ∷ [] ≡ b ∷ [] = sym (ap sign_spelling h) ∙ spelled in cc)),
        );
      })
  sign_cuts rest None None cut ed es star is = absurd cc

  pub sign_piece_cuts : (rest : List ℕ) (cut : Cut) → (b ≡ 47 → (more : List ℕ) → rest ≢ 42 ∷ more) →
      sign_piece at b rest ≡ Ok cut → Cuts cut (b ∷ rest)
  unfolding sign_piece
  sign_piece_cuts rest cut star is =
      sign_cuts rest (double_sign b (slice_index rest 0)) (single_sign b) cut refl refl star is

  sign_fails : (d s : Option Sign) (f : Fault) → sign_cut at d s ≡ Err f → f ≡ (BadByte, at)
  sign_fails (Some d) s f is = absurd cc
  sign_fails None (Some s) f is = absurd cc
  sign_fails None None f is = cc

  pub sign_piece_fails : (rest : List ℕ) (f : Fault) → sign_piece at b rest ≡ Err f → f ≡ (BadByte, at)
  unfolding sign_piece
  sign_piece_fails rest f is = sign_fails (double_sign b (slice_index rest 0)) (single_sign b) f is

  one_reaches : (d o : Option Sign) (s : Sign) → o ≡ Some s → Reaches (Some (Mark s)) (b ∷ []) (sign_cut at d o)
  one_reaches (Some d) o s e =
      record { cut = (Some (Mark d), 2); reads = refl; far = omega arith; same = λ h. absurd (omega (arith, h)) }
  one_reaches None (Some o) s e = record { cut = (Some (Mark o), 1); reads = refl; far = omega arith; same = λ h. cc }
  one_reaches None None s e = absurd cc

  pub single_reaches : (after : List ℕ) (s : Sign) → single_sign b ≡ Some s →
      Reaches (Some (Mark s)) (b ∷ []) (sign_piece at b after)
  unfolding sign_piece
  single_reaches after s e = one_reaches (double_sign b (slice_index after 0)) (single_sign b) s e

-- at a byte that begins a sign
one : (at b : ℕ) (after : List ℕ) (s : Sign) → starts b ≡ start.Sign → single_sign b ≡ Some s →
    Reaches (Some (Mark s)) (b ∷ []) (piece_at at (b ∷ after))
unfolding piece_at
one at b after s is e = rw is (single_reaches at b after s e)

pub sign_reaches : (at : ℕ) (s : Sign) (after : List ℕ) →
    (s ≡ sign.Slash → Reaches (Some (Mark s)) (sign_spelling s) (piece_at at (sign_spelling s ++ after))) →
    Reaches (Some (Mark s)) (sign_spelling s) (piece_at at (sign_spelling s ++ after))
unfolding piece_at sign_piece double_sign single_sign
sign_reaches at sign.OpenBrace after slash = one at 123 after sign.OpenBrace refl refl
sign_reaches at sign.CloseBrace after slash = one at 125 after sign.CloseBrace refl refl
sign_reaches at sign.OpenParen after slash = one at 40 after sign.OpenParen refl refl
sign_reaches at sign.CloseParen after slash = one at 41 after sign.CloseParen refl refl
sign_reaches at sign.OpenBracket after slash = one at 91 after sign.OpenBracket refl refl
sign_reaches at sign.CloseBracket after slash = one at 93 after sign.CloseBracket refl refl
sign_reaches at sign.Semicolon after slash = one at 59 after sign.Semicolon refl refl
sign_reaches at sign.Comma after slash = one at 44 after sign.Comma refl refl
sign_reaches at sign.Dot after slash = one at 46 after sign.Dot refl refl
sign_reaches at sign.Colon after slash = one at 58 after sign.Colon refl refl
sign_reaches at sign.Question after slash = one at 63 after sign.Question refl refl
sign_reaches at sign.At after slash = one at 64 after sign.At refl refl
sign_reaches at sign.Hash after slash = one at 35 after sign.Hash refl refl
sign_reaches at sign.Assign after slash = one at 61 after sign.Assign refl refl
sign_reaches at sign.Plus after slash = one at 43 after sign.Plus refl refl
sign_reaches at sign.Minus after slash = one at 45 after sign.Minus refl refl
sign_reaches at sign.Star after slash = one at 42 after sign.Star refl refl
sign_reaches at sign.Slash after slash = slash refl
sign_reaches at sign.Percent after slash = one at 37 after sign.Percent refl refl
sign_reaches at sign.Tilde after slash = one at 126 after sign.Tilde refl refl
sign_reaches at sign.Bang after slash = one at 33 after sign.Bang refl refl
sign_reaches at sign.And after slash = one at 38 after sign.And refl refl
sign_reaches at sign.Or after slash = one at 124 after sign.Or refl refl
sign_reaches at sign.Caret after slash = one at 94 after sign.Caret refl refl
sign_reaches at sign.Less after slash = one at 60 after sign.Less refl refl
sign_reaches at sign.Greater after slash = one at 62 after sign.Greater refl refl
sign_reaches at sign.EqualEqual after slash =
    record { cut = (Some (Mark sign.EqualEqual), 2); reads = refl; far = omega arith; same = λ _. refl }
sign_reaches at sign.BangEqual after slash =
    record { cut = (Some (Mark sign.BangEqual), 2); reads = refl; far = omega arith; same = λ _. refl }
sign_reaches at sign.LessEqual after slash =
    record { cut = (Some (Mark sign.LessEqual), 2); reads = refl; far = omega arith; same = λ _. refl }
sign_reaches at sign.GreaterEqual after slash =
    record { cut = (Some (Mark sign.GreaterEqual), 2); reads = refl; far = omega arith; same = λ _. refl }
sign_reaches at sign.ShiftLeft after slash =
    record { cut = (Some (Mark sign.ShiftLeft), 2); reads = refl; far = omega arith; same = λ _. refl }
sign_reaches at sign.ShiftRight after slash =
    record { cut = (Some (Mark sign.ShiftRight), 2); reads = refl; far = omega arith; same = λ _. refl }
sign_reaches at sign.AndAnd after slash =
    record { cut = (Some (Mark sign.AndAnd), 2); reads = refl; far = omega arith; same = λ _. refl }
sign_reaches at sign.OrOr after slash =
    record { cut = (Some (Mark sign.OrOr), 2); reads = refl; far = omega arith; same = λ _. refl }
