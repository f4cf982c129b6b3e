-- Steps over a comment.
use Rattle.std.proofs.Common.{◌≡◌, ℕ, suc, ◌+◌, ◌<◌, ◌≤◌, true, false, List, ◌∷◌, drop, length, get_or, refl, ap, ◌∙◌, arith, Option, Some, None}
use Rattle.std.specs.Prelude.{option_map}
use Rattle.std.proofs.lemmas.List.{at_drop_more, at_drop_all, get_or-drop}
use Rattle.pickle_syntax.specs.Blanks.{ends_block, block_len}

abbrev pub plus : ℕ → Option ℕ → Option ℕ
plus n None = None
plus n (Some k) = Some (n + k)

plus-suc : (n : ℕ) (o : Option ℕ) → plus n (option_map suc o) ≡ plus (n + 1) o
plus-suc n None = refl
plus-suc n (Some k) = let e : n + suc k ≡ n + 1 + k = omega arith in ap (λ (m : ℕ). Some m) e

ends_at : (i : ℕ) (bytes : List ℕ) → i < length bytes →
    ends_block (get_or bytes i 0 ∷ drop (i + 1) bytes) 0 ≡ ends_block bytes i
ends_at i bytes lt = let e : i + 1 + 0 ≡ i + 1 = omega arith in rw (get_or-drop (i + 1) bytes 0 0, e) refl

pub block_found : (i : ℕ) (bytes : List ℕ) → i < length bytes → ends_block bytes i ≡ true →
    plus i (block_len (drop i bytes)) ≡ Some (i + 2)
unfolding block_len
block_found i bytes lt is =
    let e : block_len (drop i bytes) ≡ Some 2 = at_drop_more block_len bytes i 0 lt
    ∙ rw (ends_at i bytes lt, is) refl in
    rw e refl

pub block_more : (i : ℕ) (bytes : List ℕ) → i < length bytes → ends_block bytes i ≡ false →
    plus i (block_len (drop i bytes)) ≡ plus (i + 1) (block_len (drop (i + 1) bytes))
unfolding block_len
block_more i bytes lt is =
    let e : block_len (drop i bytes) ≡ option_map suc (block_len (drop (i + 1) bytes)) =
    at_drop_more block_len bytes i 0 lt ∙ rw (ends_at i bytes lt, is) refl in
    rw e (plus-suc i (block_len (drop (i + 1) bytes)))

pub block_end : (i : ℕ) (bytes : List ℕ) → length bytes ≤ i → plus i (block_len (drop i bytes)) ≡ None
unfolding block_len
block_end i bytes le = ap (plus i) (at_drop_all block_len bytes i le)

pub plus_none : (o : Option ℕ) → plus 0 o ≡ o
plus_none None = refl
plus_none (Some k) = ap (λ (m : ℕ). Some m) (omega arith)

pub ruleset block_steps = (block_found, block_more, block_end, plus_none)
