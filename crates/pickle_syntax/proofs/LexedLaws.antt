-- A pickle is cut by the rules: the lexer's answer is the only one that they allow.
use Rattle.std.proofs.Common.{◌≡◌, ◌≢◌, ℕ, zero, suc, ◌+◌, ◌-◌, ◌≤◌, Bool, true, false, cond, ltb, List, [], ◌∷◌, ◌++◌, length, take, drop, refl, sym, ap, ◌∙◌, subst, arith, inl, inr, Option, Some, None, Result, Ok, Err, length-append, append_assoc}
use Rattle.std.specs.Prelude.{◌⊎◌, ◌↔◌, IfOk, IfErr}
use Rattle.std.proofs.Math.Seq.{drop-append_seam, take-append_seam}
use Rattle.std.proofs.lemmas.List.{append-nil}
use Rattle.std.proofs.lemmas.Bool.{ltb-true, ltb-false, lt-ltb, le-ltb}
use Rattle.pickle_syntax.specs.declared.lexer.bytes.Start.{Start}
use Rattle.pickle_syntax.specs.declared.lexer.bytes.Start.TheVariants as start
use Rattle.pickle_syntax.specs.declared.lexer.fault.LexFaultKind.{LexFaultKind}
use Rattle.pickle_syntax.specs.declared.lexer.fault.LexFaultKind.TheVariants.{BadByte, Unclosed, BadNumber, TooLong, Memory}
use Rattle.pickle_syntax.specs.declared.lexer.fault.LexFault.{LexFault}
use Rattle.pickle_syntax.specs.declared.lexer.Tokens.{Tokens}
use Rattle.pickle_syntax.specs.Tokens.{Token, tokens_of}
use Rattle.pickle_syntax.specs.Bytes.{Fault, Fails, Gives, ◌>>=◌, digit_of, starts}
use Rattle.pickle_syntax.specs.Words.{Cut}
use Rattle.pickle_syntax.specs.Numbers.{number_at}
use Rattle.pickle_syntax.specs.Blanks.{slash_piece}
use Rattle.pickle_syntax.specs.Lexing.{Lexed, Span, piece_from, piece_at, token_list, span_list, with_piece, lexed_from, lexed, InOrder}
use Rattle.pickle_syntax.specs.Pieces.{IsLongest, HasNoPiece, IsFaultAt, InNumber, InComment, InText, Elsewhere, Piece, pieces, tokens_in, spans_in, place_after, AreTokens, IsFirstFault, IsLexed, IsLexFault}
use Rattle.pickle_syntax.proofs.Classes.{Tells, tells}
use Rattle.pickle_syntax.proofs.Cuts.{Cuts, Reaches}
use Rattle.pickle_syntax.proofs.Lexed.{with_before, before_none, piece_on}
use Rattle.pickle_syntax.proofs.SignLaws.{sign_piece_fails}
use Rattle.pickle_syntax.proofs.CommentLaws.{open_comment_bad, slash_bad}
use Rattle.pickle_syntax.proofs.TextLaws.{bad_text_reads, apostrophe_bad}
use Rattle.pickle_syntax.proofs.PieceLaws.{number_cut, number_at_front, number_fails, cuts, fails, reaches}

abbrev done : Cut → Result Cut Fault
done x = Ok x

ok_same : (x y : Cut) → done x ≡ done y → x ≡ y
ok_same x y e = cc

pair_is : (x : Cut) (o : Option Token) (n : ℕ) → x.0 ≡ o → x.1 ≡ n → x ≡ (o, n)
pair_is x o n e f = rw (← e, ← f) refl

cuts_any : (at : ℕ) (bytes : List ℕ) (cut : Cut) → piece_at at bytes ≡ Ok cut → Cuts cut bytes
unfolding piece_at
cuts_any at [] cut e = absurd cc
cuts_any at (b ∷ rest) cut e = cuts at b rest cut e

-- what is cut at a place is the longest piece there
reached_same : (at : ℕ) (bytes : List ℕ) (cut : Cut) (o : Option Token) (front after : List ℕ) →
    piece_at at bytes ≡ Ok cut → front ++ after ≡ bytes →
    (k : Reaches o front (piece_at at (front ++ after))) → k.cut ≡ cut
reached_same at bytes cut o front after e f k = ok_same k.cut cut (sym k.reads ∙ ap (piece_at at) f ∙ e)

pub cut_longest : (at : ℕ) (bytes : List ℕ) (cut : Cut) (c : Cuts cut bytes) → piece_at at bytes ≡ Ok cut →
    IsLongest cut.0 c.front c.after
cut_longest at bytes cut c e = record {
  is = c.is;
  longest = λ o front after f is.
      (let k = reaches at o front after is in
      let same : k.cut ≡ cut = reached_same at bytes cut o front after e (f ∙ sym c.whole) k in
      omega (arith, k.far, c.size, ap (λ (x : Cut). x.1) same));
  only = λ o is.
      (let k = reaches at o c.front c.after is in
      let same : k.cut ≡ cut = reached_same at bytes cut o c.front c.after e (sym c.whole) k in
      k.same (c.size ∙ sym (ap (λ (x : Cut). x.1) same)) ∙ ap (λ (x : Cut). x.0) same);
}

pub fault_none : (at : ℕ) (bytes : List ℕ) (f : Fault) → piece_at at bytes ≡ Err f → HasNoPiece bytes
fault_none at bytes f e o front after g is =
    let k = reaches at o front after is in
    let h : Ok k.cut ≡ Err f = sym k.reads ∙ ap (piece_at at) g ∙ e in
    cc

-- and the longest piece at a place is cut
pub longest_cut : (at : ℕ) (o : Option Token) (front after : List ℕ) → IsLongest o front after →
    (piece_at at (front ++ after) ≡ Ok (o, length front)) × (1 ≤ length front)
longest_cut at o front after l =
    let k = reaches at o front after l.is in
    let c = cuts_any at (front ++ after) k.cut k.reads in
    let low = l.longest k.cut.0 c.front c.after (sym c.whole) c.is in
    let size : length front ≡ k.cut.1 = omega (arith, low, k.far, c.size) in (
      k.reads ∙ ap (λ (x : Cut). done x) (pair_is k.cut o (length front) (sym (k.same size)) (sym size)),
      omega (arith, size, c.some),
    )

-- where no piece is, the fault of the rules is told
elsewhere_from : (at b : ℕ) (rest : List ℕ) (g : Fault) (s : Start) → Tells s b → 10 ≤ digit_of b → b ≢ 34 →
    ((more : List ℕ) → b ∷ rest ≢ 47 ∷ 42 ∷ more) → piece_from s at b rest ≡ Err g → g ≡ (BadByte, at)
elsewhere_from at b rest g start.Blank t high quote none e = absurd cc
elsewhere_from at b rest g start.Word t high quote none e = absurd cc
elsewhere_from at b rest g start.Number t high quote none e = absurd (omega (arith, t, high))
elsewhere_from at b rest g start.Text t high quote none e = absurd (quote t)
elsewhere_from at b rest g start.Apostrophe t high quote none e = apostrophe_bad at rest g e
elsewhere_from at b rest g start.Slash t high quote none e = slash_bad at rest g (λ more f. none more (rw t f)) e
elsewhere_from at b rest g start.Sign t high quote none e = sign_piece_fails at b rest g e

elsewhere_bad : (at b : ℕ) (rest : List ℕ) (g : Fault) → 10 ≤ digit_of b → b ≢ 34 →
    ((more : List ℕ) → b ∷ rest ≢ 47 ∷ 42 ∷ more) → piece_at at (b ∷ rest) ≡ Err g → g ≡ (BadByte, at)
unfolding piece_at
elsewhere_bad at b rest g high quote none e =
    elsewhere_from at b rest g (starts b) (tells b (starts b) refl) high quote none e

slash_at : (at : ℕ) (rest : List ℕ) → piece_at at (47 ∷ rest) ≡ slash_piece at rest
unfolding piece_at
slash_at at rest = refl

err_same : (f g : Fault) → (let r : Result Cut Fault = Err f in r) ≡ Err g → f ≡ g
err_same f g e = cc

fault_same : (at : ℕ) (bytes : List ℕ) (f g : Fault) → IsFaultAt at bytes f → piece_at at bytes ≡ Err g → g ≡ f
fault_same at bytes f g (InNumber b rest e digit h) is =
    let there : (number_at at (b ∷ rest) >>= λ n. Ok (number_cut n)) ≡ Err g = sym (number_at_front at b rest digit)
    ∙ ap (piece_at at) (sym e) ∙ is in
    number_fails at b rest g (number_at at (b ∷ rest)) refl there ∙ sym h
fault_same at bytes f g (InComment rest e h) is =
    open_comment_bad at rest g (sym (slash_at at (42 ∷ rest)) ∙ ap (piece_at at) (sym e) ∙ is) ∙ sym h
fault_same at bytes f g (InText values parts rest e are ends) is =
    err_same g f (sym is ∙ ap (piece_at at) e ∙ bad_text_reads at values parts rest f are ends)
fault_same at bytes f g (Elsewhere b rest e high quote none h) is =
    elsewhere_bad at b rest g high quote (λ more k. none more (e ∙ k)) (ap (piece_at at) (sym e) ∙ is) ∙ sym h

pub fault_cut : (at : ℕ) (bytes : List ℕ) (f : Fault) → HasNoPiece bytes → IsFaultAt at bytes f →
    piece_at at bytes ≡ Err f
fault_cut at bytes f none is = by (piece_at at bytes) refl
  where
    by : (r : Result Cut Fault) → piece_at at bytes ≡ r → r ≡ Err f
    by (Ok cut) e = (let c = cuts_any at bytes cut e in absurd (none cut.0 c.front c.after (sym c.whole) c.is))
    by (Err g) e = ap (λ (h : Fault). Err h) (fault_same at bytes f g is e)

-- pieces that stand one after the other are read one after the other
piece_before : (at len : ℕ) (o : Option Token) (ts : List Token) (ss : List Span) (r : Lexed) →
    with_piece at (o, len) (with_before ts ss r) ≡ with_before (token_list o ++ ts) (span_list o at len ++ ss) r
piece_before at len o ts ss (Ok x) =
    rw (append_assoc (token_list o) ts x.0, append_assoc (span_list o at len) ss x.1) refl
piece_before at len o ts ss (Err f) = refl

one_piece : (at : ℕ) (o : Option Token) (front after bytes : List ℕ) → bytes ≡ front ++ after →
    IsLongest o front after →
    lexed_from 0 at bytes ≡ with_piece at (o, length front) (lexed_from 0 (at + length front) after)
one_piece at o front after bytes e l =
    let k = longest_cut at o front after l in
    let within : length front ≤ length (front ++ after) = omega (arith, length-append front after) in
    rw e (piece_on at (length front) o (front ++ after) k.1 within k.0 ∙ rw (drop-append_seam front after) refl)

pieces_read : (ps : List Piece) (at : ℕ) (bytes rest : List ℕ) → pieces ps bytes rest →
    lexed_from 0 at bytes ≡ with_before (tokens_in ps) (spans_in at ps) (lexed_from 0 (place_after at ps) rest)
pieces_read [] at bytes rest e = rw e (sym (before_none (lexed_from 0 at rest)))
pieces_read (p ∷ ps) at bytes rest e =
    one_piece at p.token p.bytes e.0 bytes e.1 e.2
    ∙ ap (with_piece at (p.token, length p.bytes)) (pieces_read ps (at + length p.bytes) e.0 rest e.3)
    ∙ piece_before at (length p.bytes) p.token (tokens_in ps) (spans_in (at + length p.bytes) ps)
    (lexed_from 0 (place_after (at + length p.bytes) ps) rest)

nothing : (at : ℕ) → lexed_from 0 at [] ≡ Ok ([], [])
unfolding lexed_from
nothing at = refl

tokens_read : (at : ℕ) (bytes : List ℕ) (x : List Token × List Span) → AreTokens at bytes x →
    lexed_from 0 at bytes ≡ Ok x
tokens_read at bytes x k =
    let ps = k.0 in
    pieces_read ps at bytes [] k.1
    ∙ rw (nothing (place_after at ps), append-nil (tokens_in ps), append-nil (spans_in at ps), ← k.2, ← k.3) refl

faulty : (at : ℕ) (bytes : List ℕ) (f : Fault) → HasNoPiece bytes → IsFaultAt at bytes f → 1 ≤ length bytes →
    lexed_from 0 at bytes ≡ Err f
unfolding lexed_from
faulty at [] f none is some = absurd (omega (arith, some))
faulty at (b ∷ rest) f none is some = rw (fault_cut at (b ∷ rest) f none is) refl

fault_some : (at : ℕ) (bytes : List ℕ) (f : Fault) → IsFaultAt at bytes f → 1 ≤ length bytes
fault_some at bytes f (InNumber b rest e digit h) = rw e (omega arith)
fault_some at bytes f (InComment rest e h) = rw e (omega arith)
fault_some at bytes f (InText values parts rest e are ends) = rw e (omega arith)
fault_some at bytes f (Elsewhere b rest e high quote none h) = rw e (omega arith)

fault_read : (at : ℕ) (bytes : List ℕ) (f : Fault) → IsFirstFault at bytes f → lexed_from 0 at bytes ≡ Err f
fault_read at bytes f k =
    let ps = k.0 in
    pieces_read ps at bytes k.1 k.2
    ∙ rw (faulty (place_after at ps) k.1 f k.3 k.4 (fault_some (place_after at ps) k.1 f k.4)) refl

-- what is read stands in pieces
Meets : ℕ → List ℕ → Lexed → Type 0
Meets at bytes (Ok x) = AreTokens at bytes x
Meets at bytes (Err f) = IsFirstFault at bytes f

joined : (at len : ℕ) (o : Option Token) (front after : List ℕ) (r : Lexed) → len ≡ length front →
    IsLongest o front after → Meets (at + len) after r → Meets at (front ++ after) (with_piece at (o, len) r)
unfolding Meets
joined at len o front after (Ok x) e l m =
    let p : Piece = record { token = o; bytes = front } in
    let place : at + len ≡ at + length front = ap (λ (n : ℕ). at + n) e in (
      p ∷ m.0,
      (after, refl, l, m.1),
      ap (λ (ts : List Token). token_list o ++ ts) m.2,
      ap (λ (n : ℕ). span_list o at n ++ x.1) e
          ∙ ap (λ (ss : List Span). span_list o at (length front) ++ ss) (m.3 ∙ ap (λ (n : ℕ). spans_in n m.0) place),
    )
joined at len o front after (Err f) e l m =
    let p : Piece = record { token = o; bytes = front } in
    let place : at + len ≡ at + length front = ap (λ (n : ℕ). at + n) e in
    (p ∷ m.0, m.1, (after, refl, l, m.2), m.3, subst (λ (n : ℕ). IsFaultAt (place_after n m.0) m.1 f) place m.4)

dropped : (n : ℕ) (bytes front after : List ℕ) → bytes ≡ front ++ after → length front ≡ n → drop n bytes ≡ after
dropped n bytes front after e size = rw (e, ← size) (drop-append_seam front after)

piece_meets : (at b : ℕ) (rest : List ℕ) (r : Result Cut Fault) → piece_at at (b ∷ rest) ≡ r →
    ((left : ℕ) → Meets (at + 1 + left) (drop left rest) (lexed_from left (at + 1) rest)) →
    Meets at (b ∷ rest) (r >>= λ p. with_piece at p (lexed_from (p.1 - 1) (at + 1) rest))
unfolding Meets
piece_meets at b rest (Err f) e more = ([], b ∷ rest, refl, fault_none at (b ∷ rest) f e, fails at b rest f e)
piece_meets at b rest (Ok (o, zero)) e more = absurd (let c = cuts at b rest (o, 0) e in omega (arith, c.some))
piece_meets at b rest (Ok (o, suc n)) e more =
    let c = cuts at b rest (o, suc n) e in
    let f : suc n - 1 ≡ n = omega arith in
    let g : at + 1 + n ≡ at + suc n = omega arith in
    let after : drop n rest ≡ c.after = dropped (suc n) (b ∷ rest) c.front c.after c.whole c.size in
    let m : Meets (at + suc n) c.after (lexed_from n (at + 1) rest) =
    subst (λ (l : List ℕ). Meets (at + suc n) l (lexed_from n (at + 1) rest)) after
    (subst (λ (k : ℕ). Meets k (drop n rest) (lexed_from n (at + 1) rest)) g (more n)) in
    let all : Meets at (c.front ++ c.after) (with_piece at (o, suc n) (lexed_from n (at + 1) rest)) = joined at (suc n)
    o c.front c.after (lexed_from n (at + 1) rest) (sym c.size) (cut_longest at (b ∷ rest) (o, suc n) c e) m in
    rw f (subst (λ (l : List ℕ). Meets at l (with_piece at (o, suc n) (lexed_from n (at + 1) rest))) (sym c.whole) all)

lexed_meets : (left at : ℕ) (bytes : List ℕ) → Meets (at + left) (drop left bytes) (lexed_from left at bytes)
unfolding Meets lexed_from
lexed_meets zero at [] = ([], refl, refl, refl)
lexed_meets (suc left) at [] = ([], refl, refl, refl)
lexed_meets (suc left) at (b ∷ rest) =
    (let e : at + suc left ≡ at + 1 + left = omega arith in rw e (lexed_meets left (at + 1) rest))
lexed_meets zero at (b ∷ rest) =
    let e : at + 0 ≡ at = omega arith in
    rw e (piece_meets at b rest (piece_at at (b ∷ rest)) refl (λ left. lexed_meets left (at + 1) rest))

meets_tokens : (bytes : List ℕ) (x : List Token × List Span) (r : Lexed) → Meets 0 bytes r →
    r ≡ Ok x → AreTokens 0 bytes x
unfolding Meets
meets_tokens bytes x (Ok y) m e = (let f : y ≡ x = cc in subst (AreTokens 0 bytes) f m)
meets_tokens bytes x (Err f) m e = absurd cc

meets_fault : (bytes : List ℕ) (f : Fault) (r : Lexed) → Meets 0 bytes r → r ≡ Err f → IsFirstFault 0 bytes f
unfolding Meets
meets_fault bytes f (Ok y) m e = absurd cc
meets_fault bytes f (Err g) m e = (let h : g ≡ f = cc in subst (IsFirstFault 0 bytes) h m)

from_start : (bytes : List ℕ) → Meets 0 bytes (lexed_from 0 0 bytes)
from_start bytes = (let e : 0 + 0 ≡ 0 = omega arith in
    subst (λ (n : ℕ). Meets n bytes (lexed_from 0 0 bytes)) e (lexed_meets 0 0 bytes))

-- all of it, with the limit on the bytes
split : (b : Bool) (r : Lexed) (x : List Token × List Span) → cond b (Err (TooLong, 1048576)) r ≡ Ok x →
    (b ≡ false) × (r ≡ Ok x)
split true r x e = absurd cc
split false r x e = (refl, e)

split_fault : (b : Bool) (r : Lexed) (f : Fault) → cond b (Err (TooLong, 1048576)) r ≡ Err f →
    ((b ≡ true) × (f ≡ (TooLong, 1048576))) ⊎ ((b ≡ false) × (r ≡ Err f))
split_fault true r f e = inl (refl, cc)
split_fault false r f e = inr (refl, e)

pub tokens_are : (bytes : List ℕ) (x : List Token × List Span) → (lexed bytes ≡ Ok x) ↔ IsLexed bytes x
unfolding lexed
tokens_are bytes x = (there, back)
  where
    there : cond (ltb 1048576 (length bytes)) (Err (TooLong, 1048576)) (lexed_from 0 0 bytes) ≡ Ok x → IsLexed bytes x
    there e = (let k = split (ltb 1048576 (length bytes)) (lexed_from 0 0 bytes) x e in
        (ltb-false 1048576 (length bytes) k.0, meets_tokens bytes x (lexed_from 0 0 bytes) (from_start bytes) k.1))

    back : IsLexed bytes x → cond (ltb 1048576 (length bytes)) (Err (TooLong, 1048576)) (lexed_from 0 0 bytes) ≡ Ok x
    back k = rw (le-ltb 1048576 (length bytes) k.0) (tokens_read 0 bytes x k.1)

pub faults_are : (bytes : List ℕ) (f : Fault) → (lexed bytes ≡ Err f) ↔ IsLexFault bytes f
unfolding lexed
faults_are bytes f = (there, back)
  where
    there : cond (ltb 1048576 (length bytes)) (Err (TooLong, 1048576)) (lexed_from 0 0 bytes) ≡ Err f →
        IsLexFault bytes f
    there e = elim (split_fault (ltb 1048576 (length bytes)) (lexed_from 0 0 bytes) f e) [
      | inl k ↦ inl (ltb-true 1048576 (length bytes) k.0, k.1)
      | inr k ↦
          inr (ltb-false 1048576 (length bytes) k.0, meets_fault bytes f (lexed_from 0 0 bytes) (from_start bytes) k.1)
    ]

    back : IsLexFault bytes f →
        cond (ltb 1048576 (length bytes)) (Err (TooLong, 1048576)) (lexed_from 0 0 bytes) ≡ Err f
    back (inl k) = rw (lt-ltb 1048576 (length bytes) k.0, k.1) refl
    back (inr k) = rw (le-ltb 1048576 (length bytes) k.0) (fault_read 0 bytes f k.1)

-- the laws at a place
front_same : (front after other more : List ℕ) → length front ≡ length other →
    front ++ after ≡ other ++ more → front ≡ other
front_same front after other more e f =
    sym (take-append_seam front after) ∙ ap (take (length front)) f ∙ ap (λ (n : ℕ). take n (other ++ more)) e
    ∙ take-append_seam other more

longest_at : (at : ℕ) (o : Option Token) (front after : List ℕ) → piece_at at (front ++ after) ≡ Ok (o, length front) →
    IsLongest o front after
longest_at at o front after e =
    let c = cuts_any at (front ++ after) (o, length front) e in
    let f : c.front ≡ front = front_same c.front c.after front after c.size (sym c.whole) in
    let g : c.after ≡ after = sym (drop-append_seam c.front c.after)
    ∙ ap (λ (n : ℕ). drop n (c.front ++ c.after)) c.size ∙ ap (drop (length front)) (sym c.whole)
    ∙ drop-append_seam front after in
    subst (λ (l : List ℕ). IsLongest o front l) g
    (subst (λ (l : List ℕ). IsLongest o l c.after) f (cut_longest at (front ++ after) (o, length front) c e))

pub pieces_are : (at : ℕ) (o : Option Token) (front after : List ℕ) →
    (piece_at at (front ++ after) ≡ Ok (o, length front)) ↔ IsLongest o front after
pieces_are at o front after = (longest_at at o front after, λ l. (longest_cut at o front after l).0)

pub none_are : (at : ℕ) (bytes : List ℕ) (f : Fault) → 1 ≤ length bytes →
    (piece_at at bytes ≡ Err f) ↔ (HasNoPiece bytes × IsFaultAt at bytes f)
none_are at [] f some = absurd (omega (arith, some))
none_are at (b ∷ rest) f some =
    (λ e. (fault_none at (b ∷ rest) f e, fails at b rest f e), λ k. fault_cut at (b ∷ rest) f k.0 k.1)

-- the spans of pieces are in order
later : (from to : ℕ) (spans : List Span) → from ≤ to → InOrder to spans → InOrder from spans
later from to [] le h = tt
later from to (s ∷ spans) le h = (omega (arith, h.0), h.1, h.2)

spans_order : (at : ℕ) (ps : List Piece) (bytes rest : List ℕ) → pieces ps bytes rest → InOrder at (spans_in at ps)
spans_order at [] bytes rest e = tt
spans_order at (p ∷ ps) bytes rest e =
    let more = spans_order (at + length p.bytes) ps e.0 rest e.3 in
    one at p.token (length p.bytes) (spans_in (at + length p.bytes) ps) (longest_cut at p.token p.bytes e.0 e.2).1 more
  where
    one : (at : ℕ) (o : Option Token) (len : ℕ) (spans : List Span) → 1 ≤ len → InOrder (at + len) spans →
        InOrder at (span_list o at len ++ spans)
    one at None len spans some h = later at (at + len) spans (omega arith) h
    one at (Some t) len spans some h = (omega arith, omega (arith, some), h)

-- what `lex` promises of what was found
pub tokens_lexed : (bytes : List ℕ) (r : Result Tokens LexFault) →
    Gives (λ t. (tokens_of t.kinds.items, t.spans.items)) r (lexed bytes) →
    IfOk r (λ t. IsLexed bytes (tokens_of t.kinds.items, t.spans.items))
tokens_lexed bytes (Ok t) given = (tokens_are bytes (tokens_of t.kinds.items, t.spans.items)).0 given
tokens_lexed bytes (Err f) given = tt

pub spans_ordered : (bytes : List ℕ) (r : Result Tokens LexFault) →
    Gives (λ t. (tokens_of t.kinds.items, t.spans.items)) r (lexed bytes) → IfOk r (λ t. InOrder 0 t.spans.items)
spans_ordered bytes (Ok t) given =
    let k = ((tokens_are bytes (tokens_of t.kinds.items, t.spans.items)).0 given).1 in
    subst (InOrder 0) (sym k.3) (spans_order 0 k.0 bytes [] k.1)
spans_ordered bytes (Err f) given = tt

fault_from : (bytes : List ℕ) (kind : LexFaultKind) (at : ℕ) → Fails kind at (lexed bytes) → kind ≢ Memory →
    IsLexFault bytes (kind, at)
fault_from bytes Memory at given other = absurd (other refl)
fault_from bytes BadByte at given other = (faults_are bytes (BadByte, at)).0 given
fault_from bytes Unclosed at given other = (faults_are bytes (Unclosed, at)).0 given
fault_from bytes BadNumber at given other = (faults_are bytes (BadNumber, at)).0 given
fault_from bytes TooLong at given other = (faults_are bytes (TooLong, at)).0 given

pub fault_told : (bytes : List ℕ) (r : Result Tokens LexFault) →
    Gives (λ t. (tokens_of t.kinds.items, t.spans.items)) r (lexed bytes) →
    IfErr r (λ f. f.kind ≢ Memory → IsLexFault bytes (f.kind, f.at))
fault_told bytes (Ok t) given = tt
fault_told bytes (Err f) given = fault_from bytes f.kind f.at given

memory_from : (bytes : List ℕ) (kind : LexFaultKind) (at : ℕ) → Fails kind at (lexed bytes) → kind ≡ Memory → at ≡ 0
memory_from bytes Memory at given e = given
memory_from bytes BadByte at given e = absurd cc
memory_from bytes Unclosed at given e = absurd cc
memory_from bytes BadNumber at given e = absurd cc
memory_from bytes TooLong at given e = absurd cc

pub memory_at : (bytes : List ℕ) (r : Result Tokens LexFault) →
    Gives (λ t. (tokens_of t.kinds.items, t.spans.items)) r (lexed bytes) → IfErr r (λ f. f.kind ≡ Memory → f.at ≡ 0)
memory_at bytes (Ok t) given = tt
memory_at bytes (Err f) given = memory_from bytes f.kind f.at given
