-- Blanks and comments are cut by the rules.
use Rattle.std.proofs.Common.{◌≡◌, ◌≢◌, ℕ, suc, ◌+◌, Bool, true, false, cond, eqb, List, [], ◌∷◌, ◌++◌, length, take, drop, refl, sym, ap, ◌∙◌, subst, arith, inl, inr, ◌&&◌, Option, Some, None, Ok, Err, append_assoc, length-append}
use Rattle.std.specs.Prelude.{option_map}
use Rattle.std.specs.List.{prefix_len}
use Rattle.std.proofs.lemmas.Bool.{and_parts, eqb-true, cases_Bool, both_ways}
use Rattle.std.proofs.lemmas.List.{take-append-drop}
use Rattle.std.proofs.lemmas.List.Folds.{length-prefix_len}
use Rattle.pickle_syntax.specs.declared.lexer.bytes.Class.TheVariants as class
use Rattle.pickle_syntax.specs.declared.lexer.fault.LexFaultKind.TheVariants.{BadByte, Unclosed}
use Rattle.pickle_syntax.specs.declared.token.Sign.TheVariants as sign
use Rattle.pickle_syntax.specs.Tokens.{Mark}
use Rattle.pickle_syntax.specs.Bytes.{Fault, is_in}
use Rattle.pickle_syntax.specs.Words.{Cut}
use Rattle.pickle_syntax.specs.Signs.{sign_piece, single_sign}
use Rattle.pickle_syntax.specs.Blanks.{ends_block, block_len, block_piece, slash_piece}
use Rattle.pickle_syntax.specs.Lexing.{piece_at}
use Rattle.pickle_syntax.specs.Pieces.{IsBlank, IsLineComment, IsBlockComment, IsFaultAt, InComment, Elsewhere}
use Rattle.pickle_syntax.proofs.Classes.{run_reaches, run_all, starts_blank}
use Rattle.pickle_syntax.proofs.Cuts.{Cuts, Reaches}
use Rattle.pickle_syntax.proofs.SignLaws.{sign_piece_cuts, sign_piece_fails, single_reaches}

-- no `*/` stands before the end
abbrev pub FirstEnd : List ℕ → Type 0
FirstEnd inner = (before after : List ℕ) → inner ++ 42 ∷ 47 ∷ [] ≡ before ++ 42 ∷ 47 ∷ [] ++ after → after ≡ []

-- up to and with the first `*/`
record Block (bytes : List ℕ) (len : ℕ) : Type 0 where
  inner : List ℕ
  after : List ℕ
  whole : bytes ≡ inner ++ 42 ∷ 47 ∷ after
  size : length inner + 2 ≡ len
  first : FirstEnd inner

empty : (bytes : List ℕ) → length bytes ≡ 0 → bytes ≡ []
empty [] e = refl
empty (b ∷ bytes) e = absurd (omega arith)

at_once : FirstEnd []
at_once before after e =
    empty after (omega (arith, simp length-append at (ap length e)))

head_same : (a b : ℕ) (x y : List ℕ) → a ∷ x ≡ b ∷ y → a ≡ b
head_same a b x y e = cc

tail_same : (a b : ℕ) (x y : List ℕ) → a ∷ x ≡ b ∷ y → x ≡ y
tail_same a b x y e = cc

pair : (b c : ℕ) (rest : List ℕ) → b ≡ 42 → c ≡ 47 → ends_block (b ∷ c ∷ rest) 0 ≡ true
pair b c rest e f = rw (e, f) refl

-- `*/` at the front
pairs : (b c : ℕ) (rest : List ℕ) → ends_block (b ∷ c ∷ rest) 0 ≡ true → (b ≡ 42) × (c ≡ 47)
pairs b c rest is = (let both = and_parts (eqb b 42) (eqb c 47) is in (eqb-true b 42 both.0, eqb-true c 47 both.1))

later_on : (b c : ℕ) (inner before after : List ℕ) → FirstEnd inner →
    b ∷ inner ++ 42 ∷ 47 ∷ [] ≡ c ∷ before ++ 42 ∷ 47 ∷ [] ++ after → after ≡ []
later_on b c inner before after first e =
    first before after (tail_same b c (inner ++ 42 ∷ 47 ∷ []) (before ++ 42 ∷ 47 ∷ [] ++ after) e)

not_here : (b : ℕ) (inner more after : List ℕ) → ends_block (b ∷ inner ++ 42 ∷ 47 ∷ more) 0 ≡ false →
    b ∷ inner ++ 42 ∷ 47 ∷ [] ≡ 42 ∷ 47 ∷ after → after ≡ []
not_here b [] more after miss e = absurd (let f : 42 ≡ 47 =
    head_same 42 47 (47 ∷ []) after (tail_same b 42 (42 ∷ 47 ∷ []) (47 ∷ after) e) in omega (arith, f))
not_here b (d ∷ inner) more after miss e =
    let f : b ≡ 42 = head_same b 42 (d ∷ inner ++ 42 ∷ 47 ∷ []) (47 ∷ after) e in
    let g : d ≡ 47 =
    head_same d 47 (inner ++ 42 ∷ 47 ∷ []) after (tail_same b 42 (d ∷ inner ++ 42 ∷ 47 ∷ []) (47 ∷ after) e) in
    absurd (both_ways (ends_block (b ∷ d ∷ inner ++ 42 ∷ 47 ∷ more) 0) miss (pair b d (inner ++ 42 ∷ 47 ∷ more) f g))

later : (b : ℕ) (inner more : List ℕ) → ends_block (b ∷ inner ++ 42 ∷ 47 ∷ more) 0 ≡ false → FirstEnd inner →
    FirstEnd (b ∷ inner)
later b inner more miss first [] after e = not_here b inner more after miss e
later b inner more miss first (c ∷ before) after e = later_on b c inner before after first e

block_is : (bytes : List ℕ) (len : ℕ) → block_len bytes ≡ Some len → Block bytes len
unfolding block_len
block_is [] len is = absurd cc
block_is (b ∷ []) len is = absurd (none b is)
  where
    none : (b : ℕ) → cond (eqb b 42 && false) (Some 2) (option_map suc None) ≡ Some len → ⊥
    none b e = elim (eqb b 42) as (λ t. cond (t && false) (Some 2) (option_map suc None) ≡ Some len →
        ⊥) [ true ↦ (λ e. cc) | false ↦ (λ e. cc) ] e
block_is (b ∷ c ∷ rest) len is =
    by (ends_block (b ∷ c ∷ rest) 0) (block_len (c ∷ rest)) refl refl (block_is (c ∷ rest)) is
  where
    by : (t : Bool) (o : Option ℕ) → ends_block (b ∷ c ∷ rest) 0 ≡ t → block_len (c ∷ rest) ≡ o →
        ((n : ℕ) → block_len (c ∷ rest) ≡ Some n → Block (c ∷ rest) n) → cond t (Some 2) (option_map suc o) ≡ Some len →
        Block (b ∷ c ∷ rest) len
    by true o et eo more e = (let both = pairs b c rest et in
        record { inner = []; after = rest; whole = rw (both.0, both.1) refl; size = cc; first = at_once })
    by false None et eo more e = absurd cc
    by false (Some n) et eo more e =
        let k = more n eo in
        let w : c ∷ rest ≡ k.inner ++ 42 ∷ 47 ∷ k.after = k.whole in
        let s : suc n ≡ len = cc in
        record {
          inner = b ∷ k.inner;
          after = k.after;
          whole = ap (λ (l : List ℕ). b ∷ l) w;
          size = omega (arith, s, k.size);
          first = later b k.inner k.after (rw (← w) et) k.first;
        }

-- a comment is read to its first `*/`
block_reads : (inner after : List ℕ) → FirstEnd inner → block_len (inner ++ 42 ∷ 47 ∷ after) ≡ Some (length inner + 2)
unfolding block_len
block_reads [] after first = refl
block_reads (b ∷ inner) after first =
    rw (
      misses b inner after first,
      block_reads inner after (λ before more e. first (b ∷ before) more (ap (λ (l : List ℕ). b ∷ l) e)),
    ) (ap (λ (n : ℕ). Some n) (omega arith))
  where
    misses : (b : ℕ) (inner after : List ℕ) → FirstEnd (b ∷ inner) → ends_block (b ∷ inner ++ 42 ∷ 47 ∷ after) 0 ≡ false
    misses b [] after first = elim (eqb b 42) as (λ t. (t && false) ≡ false) [ true ↦ refl | false ↦ refl ]
    misses b (c ∷ inner) after first = elim (cases_Bool (ends_block (b ∷ c ∷ inner ++ 42 ∷ 47 ∷ after) 0)) [
      | inl hit ↦ (let both = pairs b c (inner ++ 42 ∷ 47 ∷ after) hit in
          let e : inner ++ 42 ∷ 47 ∷ [] ≡ [] = first [] (inner ++ 42 ∷ 47 ∷ []) (rw (both.0, both.1) refl) in
          absurd (omega (arith, simp length-append at (ap length e))))
      | inr miss ↦ miss
    ]

-- what a slash cuts
line_cuts : (rest : List ℕ) (cut : Cut) → (None, 2 + prefix_len (is_in class.Line) rest) ≡ cut →
    Cuts cut (47 ∷ 47 ∷ rest)
line_cuts rest cut e =
    let n = prefix_len (is_in class.Line) rest in
    let size : length (take n rest) ≡ n = length-prefix_len (is_in class.Line) rest in
    subst (λ (k : Cut). Cuts k (47 ∷ 47 ∷ rest)) e (record {
      front = 47 ∷ 47 ∷ take n rest;
      after = drop n rest;
      whole = ap (λ (l : List ℕ). 47 ∷ 47 ∷ l) (sym (take-append-drop n rest));
      size = omega (arith, size);
      some = omega arith;
      is = inr (inl (take n rest, refl, run_all class.Line rest));
    })

block_cuts : (at : ℕ) (rest : List ℕ) (o : Option ℕ) (cut : Cut) → block_len rest ≡ o → block_piece at o ≡ Ok cut →
    Cuts cut (47 ∷ 42 ∷ rest)
block_cuts at rest None cut eo is = absurd cc
block_cuts at rest (Some len) cut eo is =
    let e : (None, 2 + len) ≡ cut = cc in
    let k = block_is rest len eo in
    let size : length (k.inner ++ 42 ∷ 47 ∷ []) ≡ len = simp length-append (omega (arith, k.size)) in
    subst (λ (k : Cut). Cuts k (47 ∷ 42 ∷ rest)) e (record {
      front = 47 ∷ 42 ∷ k.inner ++ 42 ∷ 47 ∷ [];
      after = k.after;
      whole = ap (λ (l : List ℕ). 47 ∷ 42 ∷ l) (k.whole ∙ sym (append_assoc k.inner (42 ∷ 47 ∷ []) k.after));
      size = omega (arith, size);
      some = omega arith;
      is = inr (inr (k.inner, refl, k.first));
    })

pub slash_cuts : (at : ℕ) (rest : List ℕ) (cut : Cut) → slash_piece at rest ≡ Ok cut → Cuts cut (47 ∷ rest)
unfolding slash_piece
slash_cuts at [] cut is = sign_piece_cuts at 47 [] cut (λ _ more e. cc) is
slash_cuts at (c ∷ rest) cut is = by (eqb c 47) (eqb c 42) refl refl is
  where
    by : (t u : Bool) → eqb c 47 ≡ t → eqb c 42 ≡ u → cond t (Ok (None, 2 + prefix_len (is_in class.Line) rest))
        (cond u (block_piece at (block_len rest)) (sign_piece at 47 (c ∷ rest))) ≡ Ok cut → Cuts cut (47 ∷ c ∷ rest)
    by true u et eu e = rw (eqb-true c 47 et) (line_cuts rest cut cc)
    by false true et eu e = rw (eqb-true c 42 eu) (block_cuts at rest (block_len rest) cut refl e)
    by false false et eu e = sign_piece_cuts at 47 (c ∷ rest) cut
        (λ _ more f. (let g : c ≡ 42 = cc in let h : eqb c 42 ≡ true = rw g refl in cc)) e

-- why a slash begins no piece
block_fails : (at : ℕ) (o : Option ℕ) (f : Fault) → block_piece at o ≡ Err f → f ≡ (Unclosed, at)
block_fails at None f is = cc
block_fails at (Some len) f is = absurd cc

no_block : (rest : List ℕ) → ((more : List ℕ) → rest ≢ 42 ∷ more) → (more : List ℕ) → 47 ∷ rest ≢ 47 ∷ 42 ∷ more
no_block rest none more e = none more cc

pub slash_fails : (at : ℕ) (rest : List ℕ) (f : Fault) → slash_piece at rest ≡ Err f → IsFaultAt at (47 ∷ rest) f
unfolding slash_piece
slash_fails at [] f is = Elsewhere 47 [] refl (omega arith) (λ e. omega (arith, e))
    (no_block [] (λ more e. cc)) (sign_piece_fails at 47 [] f is)
slash_fails at (c ∷ rest) f is = by (eqb c 47) (eqb c 42) refl refl is
  where
    by : (t u : Bool) → eqb c 47 ≡ t → eqb c 42 ≡ u → cond t (Ok (None, 2 + prefix_len (is_in class.Line) rest))
        (cond u (block_piece at (block_len rest)) (sign_piece at 47 (c ∷ rest))) ≡ Err f →
        IsFaultAt at (47 ∷ c ∷ rest) f
    by true u et eu e = absurd cc
    by false true et eu e = InComment rest (rw (eqb-true c 42 eu) refl) (block_fails at (block_len rest) f e)
    by false false et eu e = Elsewhere 47 (c ∷ rest) refl (omega arith) (λ e. omega (arith, e))
        (no_block (c ∷ rest) (λ more f. (let g : c ≡ 42 = cc in let h : eqb c 42 ≡ true = rw g refl in cc)))
        (sign_piece_fails at 47 (c ∷ rest) f e)

pub open_comment_bad : (at : ℕ) (rest : List ℕ) (f : Fault) → slash_piece at (42 ∷ rest) ≡ Err f → f ≡ (Unclosed, at)
unfolding slash_piece
open_comment_bad at rest f is = block_fails at (block_len rest) f is

pub slash_bad : (at : ℕ) (rest : List ℕ) (f : Fault) → ((more : List ℕ) → 47 ∷ rest ≢ 47 ∷ 42 ∷ more) →
    slash_piece at rest ≡ Err f → f ≡ (BadByte, at)
unfolding slash_piece
slash_bad at [] f none is = sign_piece_fails at 47 [] f is
slash_bad at (c ∷ rest) f none is = by (eqb c 47) (eqb c 42) refl refl is
  where
    by : (t u : Bool) → eqb c 47 ≡ t → eqb c 42 ≡ u → cond t (Ok (None, 2 + prefix_len (is_in class.Line) rest))
        (cond u (block_piece at (block_len rest)) (sign_piece at 47 (c ∷ rest))) ≡ Err f → f ≡ (BadByte, at)
    by true u et eu e = absurd cc
    by false true et eu e = absurd (none rest (rw (eqb-true c 42 eu) refl))
    by false false et eu e = sign_piece_fails at 47 (c ∷ rest) f e

-- a comment at the front is cut
line_reads : (at : ℕ) (rest : List ℕ) → piece_at at (47 ∷ 47 ∷ rest) ≡ Ok (None, 2 + prefix_len (is_in class.Line) rest)
unfolding piece_at slash_piece
line_reads at rest = refl

pub line_reaches : (at : ℕ) (front after : List ℕ) → IsLineComment front →
    Reaches None front (piece_at at (front ++ after))
line_reaches at front after is =
    let line = is.0 in
    let far = run_reaches class.Line line after is.2 in
    rw is.1 (record {
      cut = (None, 2 + prefix_len (is_in class.Line) (line ++ after));
      reads = line_reads at (line ++ after);
      far = omega (arith, far);
      same = λ _. refl;
    })

block_at : (at : ℕ) (inner after : List ℕ) → FirstEnd inner →
    piece_at at (47 ∷ 42 ∷ inner ++ 42 ∷ 47 ∷ after) ≡ Ok (None, 2 + (length inner + 2))
unfolding piece_at slash_piece
block_at at inner after first = rw (block_reads inner after first) refl

pub block_reaches : (at : ℕ) (front after : List ℕ) → IsBlockComment front →
    Reaches None front (piece_at at (front ++ after))
block_reaches at front after is =
    let inner = is.0 in
    let size : length (inner ++ 42 ∷ 47 ∷ []) ≡ length inner + 2 = length-append inner (42 ∷ 47 ∷ []) in
    let regroup : inner ++ 42 ∷ 47 ∷ [] ++ after ≡ inner ++ 42 ∷ 47 ∷ after = append_assoc inner (42 ∷ 47 ∷ []) after in
    rw is.1 (record {
      cut = (None, 2 + (length inner + 2));
      reads = rw regroup (block_at at inner after is.2);
      far = omega (arith, size);
      same = λ _. refl;
    })

-- the sign `/`
slash_single : single_sign 47 ≡ Some sign.Slash
unfolding single_sign
slash_single = refl

pub slash_reaches : (at : ℕ) (after : List ℕ) → ((more : List ℕ) → after ≢ 42 ∷ more) →
    Reaches (Some (Mark sign.Slash)) (47 ∷ []) (piece_at at (47 ∷ after))
unfolding piece_at slash_piece
slash_reaches at [] none = single_reaches at 47 [] sign.Slash slash_single
slash_reaches at (c ∷ after) none = by (eqb c 47) (eqb c 42) refl
  where
    by : (t u : Bool) → eqb c 42 ≡ u →
        Reaches (Some (Mark sign.Slash)) (47 ∷ []) (cond t (Ok (None, 2 + prefix_len (is_in class.Line) after))
        (cond u (block_piece at (block_len after)) (sign_piece at 47 (c ∷ after))))
    by true u eu = record {
      cut = (None, 2 + prefix_len (is_in class.Line) after);
      reads = refl;
      far = omega arith;
      same = λ h. absurd (omega (arith, h));
    }
    by false true eu = absurd (none after (rw (eqb-true c 42 eu) refl))
    by false false eu = single_reaches at 47 (c ∷ after) sign.Slash slash_single

-- a blank
blank_at : (at b : ℕ) (rest : List ℕ) → is_in class.Blank b ≡ true → piece_at at (b ∷ rest) ≡ Ok (None, 1)
unfolding piece_at
blank_at at b rest blank = rw (starts_blank b blank) refl

pub blank_reaches : (at : ℕ) (front after : List ℕ) → IsBlank front → Reaches None front (piece_at at (front ++ after))
blank_reaches at front after is =
    rw is.1 (record { cut = (None, 1); reads = blank_at at is.0 after is.2; far = omega arith; same = λ _. refl })
