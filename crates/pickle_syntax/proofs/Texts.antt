-- Steps over a text.
use Rattle.std.proofs.Common.{◌≡◌, ℕ, zero, suc, ◌+◌, ◌-◌, ◌<◌, ◌≤◌, List, [], ◌∷◌, ◌++◌, drop, length, refl, sym, ap, ◌∙◌, arith, Result, Ok, Err, append_assoc}
use Rattle.std.proofs.lemmas.List.{append-nil}
use Rattle.pickle_syntax.specs.Bytes.{Fault}
use Rattle.pickle_syntax.specs.Texts.{Read, with_byte, text_from, part_at}
use Rattle.pickle_syntax.specs.declared.lexer.fault.LexFaultKind.TheVariants.{BadByte, Unclosed}
use Rattle.pickle_syntax.specs.declared.lexer.texts.Part.TheVariants.{Closes, Byte, Bad, Breaks}

abbrev pub with_front : List ℕ → Result Read Fault → Result Read Fault
with_front front (Ok x) = Ok (front ++ x.0, x.1)
with_front front (Err f) = Err f

with_front-with_byte : (front : List ℕ) (b : ℕ) (r : Result Read Fault) →
    with_front front (with_byte b r) ≡ with_front (front ++ b ∷ []) r
with_front-with_byte front b (Ok x) = ap (λ (l : List ℕ). Ok (l, x.1)) (sym (append_assoc front (b ∷ []) x.0))
with_front-with_byte front b (Err f) = refl

with_front-nil : (r : Result Read Fault) → with_front [] r ≡ r
with_front-nil (Ok x) = refl
with_front-nil (Err f) = refl

-- the rest of a part is passed
pub text_skips : (quote left at : ℕ) (bytes : List ℕ) →
    text_from quote left at bytes ≡ text_from quote 0 (at + left) (drop left bytes)
unfolding text_from
text_skips quote zero at [] = refl
text_skips quote (suc left) at [] = refl
text_skips quote zero at (b ∷ rest) = let e : at + 0 ≡ at = omega arith in rw e refl
text_skips quote (suc left) at (b ∷ rest) =
    let e : at + suc left ≡ at + 1 + left = omega arith in rw e (text_skips quote left (at + 1) rest)

module _ (front : List ℕ) (quote at : ℕ) where
  pub text_byte : (bytes : List ℕ) (v n : ℕ) → 0 < length bytes → part_at 34 bytes ≡ Byte v n → 1 ≤ n →
      with_front (front ++ v ∷ []) (text_from quote 0 (at + n) (drop n bytes))
      ≡ with_front front (text_from quote 0 at bytes)
  unfolding text_from
  text_byte [] v n pos is some = absurd (omega arith)
  text_byte (b ∷ rest) v zero pos is some = absurd (omega arith)
  text_byte (b ∷ rest) v (suc n) pos is some =
      let e : at + 1 + n ≡ at + suc n = omega arith in
      let f : suc n - 1 ≡ n = omega arith in
      rw (is, f) (sym
      (with_front-with_byte front v (text_from quote n (at + 1) rest) ∙ rw (text_skips quote n (at + 1) rest, e) refl))

  pub text_closes : (bytes : List ℕ) → 0 < length bytes → part_at 34 bytes ≡ Closes →
      with_front front (text_from quote 0 at bytes) ≡ Ok (front, at + 1)
  unfolding text_from
  text_closes [] pos is = absurd (omega arith)
  text_closes (b ∷ rest) pos is = rw (is, append-nil front) refl

  pub text_bad : (bytes : List ℕ) → 0 < length bytes → part_at 34 bytes ≡ Bad →
      with_front front (text_from quote 0 at bytes) ≡ Err (BadByte, at)
  unfolding text_from
  text_bad [] pos is = absurd (omega arith)
  text_bad (b ∷ rest) pos is = rw is refl

  pub text_breaks : (bytes : List ℕ) → 0 < length bytes → part_at 34 bytes ≡ Breaks →
      with_front front (text_from quote 0 at bytes) ≡ Err (Unclosed, quote)
  unfolding text_from
  text_breaks [] pos is = absurd (omega arith)
  text_breaks (b ∷ rest) pos is = rw is refl

  pub text_ends : (bytes : List ℕ) → length bytes ≡ 0 →
      with_front front (text_from quote 0 at bytes) ≡ Err (Unclosed, quote)
  unfolding text_from
  text_ends [] e = refl
  text_ends (b ∷ rest) e = absurd (omega arith)

pub text_starts : (r : Result Read Fault) → with_front [] r ≡ r
text_starts r = with_front-nil r

pub ruleset text_steps = (text_byte, text_closes, text_bad, text_breaks, text_ends, text_starts)
