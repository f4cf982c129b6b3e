-- Steps over the pieces.
use Rattle.std.proofs.Common.{◌≡◌, ℕ, zero, suc, ◌+◌, ◌-◌, ◌<◌, ◌≤◌, List, [], ◌∷◌, ◌++◌, drop, length, refl, sym, arith, Option, Ok, Err, append_assoc}
use Rattle.std.proofs.lemmas.List.{append-nil}
use Rattle.pickle_syntax.specs.Bytes.{Fault}
use Rattle.pickle_syntax.specs.Tokens.{Token}
use Rattle.pickle_syntax.specs.Words.{Cut}
use Rattle.pickle_syntax.specs.Lexing.{Lexed, Span, piece_at, token_list, span_list, with_piece, lexed_from}

abbrev pub Spans : Type 0
Spans = List Span

-- after the tokens before
abbrev pub with_before : List Token → Spans → Lexed → Lexed
with_before ts ss (Ok x) = Ok (ts ++ x.0, ss ++ x.1)
with_before ts ss (Err f) = Err f

before_piece : (ts : List Token) (ss : Spans) (at : ℕ) (p : Cut) (r : Lexed) →
    with_before ts ss (with_piece at p r) ≡ with_before (ts ++ token_list p.0) (ss ++ span_list p.0 at p.1) r
before_piece ts ss at p (Ok x) =
    rw (append_assoc ts (token_list p.0) x.0, append_assoc ss (span_list p.0 at p.1) x.1) refl
before_piece ts ss at p (Err f) = refl

pub before_none : (r : Lexed) → with_before [] [] r ≡ r
before_none (Ok x) = refl
before_none (Err f) = refl

-- the rest of a piece is passed
lexed_skips : (left at : ℕ) (bytes : List ℕ) → lexed_from left at bytes ≡ lexed_from 0 (at + left) (drop left bytes)
unfolding lexed_from
lexed_skips zero at [] = refl
lexed_skips (suc left) at [] = refl
lexed_skips zero at (b ∷ rest) = let e : at + 0 ≡ at = omega arith in rw e refl
lexed_skips (suc left) at (b ∷ rest) =
    let e : at + suc left ≡ at + 1 + left = omega arith in rw e (lexed_skips left (at + 1) rest)

-- one piece on
pub piece_on : (at len : ℕ) (o : Option Token) (bytes : List ℕ) → 1 ≤ len → len ≤ length bytes →
    piece_at at bytes ≡ Ok (o, len) →
    lexed_from 0 at bytes ≡ with_piece at (o, len) (lexed_from 0 (at + len) (drop len bytes))
unfolding lexed_from
piece_on at len o [] some low is = absurd (omega arith)
piece_on at zero o (b ∷ rest) some low is = absurd (omega arith)
piece_on at (suc len) o (b ∷ rest) some low is =
    let e : at + 1 + len ≡ at + suc len = omega arith in
    let f : suc len - 1 ≡ len = omega arith in
    rw (is, f, lexed_skips len (at + 1) rest, e) refl

module _ (ts : List Token) (ss : Spans) (at : ℕ) where
  pub on_piece : (len : ℕ) (o : Option Token) (bytes : List ℕ) → 1 ≤ len → len ≤ length bytes →
      piece_at at bytes ≡ Ok (o, len) →
      with_before (ts ++ token_list o) (ss ++ span_list o at len) (lexed_from 0 (at + len) (drop len bytes))
      ≡ with_before ts ss (lexed_from 0 at bytes)
  on_piece len o bytes some low is = sym (rw (piece_on at len o bytes some low is)
      (before_piece ts ss at (o, len) (lexed_from 0 (at + len) (drop len bytes))))

  pub on_fault : (f : Fault) (bytes : List ℕ) → 0 < length bytes → piece_at at bytes ≡ Err f →
      with_before ts ss (lexed_from 0 at bytes) ≡ Err f
  unfolding lexed_from
  on_fault f [] some is = absurd (omega arith)
  on_fault f (b ∷ rest) some is = rw is refl

  pub on_end : (bytes : List ℕ) → length bytes ≡ 0 → with_before ts ss (lexed_from 0 at bytes) ≡ Ok (ts, ss)
  unfolding lexed_from
  on_end [] e = rw (append-nil ts, append-nil ss) refl
  on_end (b ∷ rest) e = absurd (omega arith)

pub ruleset lexed_steps = (before_none, on_piece, on_fault, on_end)
