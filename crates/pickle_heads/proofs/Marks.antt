-- The place of the first mark, step by step.
use Rattle.std.proofs.Common.{ℕ, ◌≡◌, ◌+◌, ◌<◌, Bool, true, false, cond, List, ◌∷◌, Option, Some, None, take, drop, length, get_or, refl, sym, subst, drop-cons, suc, Bor}
use Rattle.std.specs.Prelude.{codes, is_some, option_copied}
use Rattle.std.specs.Str.{bytes_eq}
use Rattle.pickle_heads.specs.Texts.{after}
use Rattle.pickle_heads.specs.Heads.{mark_place}

abbrev pub mark : List ℕ
mark = codes ", options: "

none_if_there : (t : Bool) (x : List ℕ) (n : ℕ) → is_some (cond t (Some x) None) ≡ true → cond t 0 n ≡ 0
none_if_there true x n e = refl
none_if_there false x n e = cc

more_if_not : (t : Bool) (x : List ℕ) (n : ℕ) → is_some (cond t (Some x) None) ≡ false → cond t 0 n ≡ n
more_if_not true x n e = cc
more_if_not false x n e = refl

there : (b : ℕ) (rest : List ℕ) → is_some (after mark (b ∷ rest)) ≡ true → mark_place (b ∷ rest) ≡ 0
there b rest = none_if_there (bytes_eq (take 11 (b ∷ rest)) mark) (drop 11 (b ∷ rest)) (1 + mark_place rest)

not_there : (b : ℕ) (rest : List ℕ) → is_some (after mark (b ∷ rest)) ≡ false
    → mark_place (b ∷ rest) ≡ 1 + mark_place rest
not_there b rest = more_if_not (bytes_eq (take 11 (b ∷ rest)) mark) (drop 11 (b ∷ rest)) (1 + mark_place rest)

-- a copy is there where the value is
pub copied_is_some : {X : Type 0} (o : Option (Bor X)) → is_some (option_copied o) ≡ is_some o
copied_is_some None = refl
copied_is_some (Some x) = refl

-- a mark that begins at a place is there
pub mark_here : (text : List ℕ) (at : ℕ) → at < length text → is_some (after mark (drop at text)) ≡ true
    → mark_place (drop at text) ≡ 0
mark_here text at lt = subst (λ (xs : List ℕ). is_some (after mark xs) ≡ true → mark_place xs ≡ 0)
    (sym (drop-cons text at 0 lt)) (there (get_or text at 0) (drop (suc at) text))

-- otherwise it is the first of the rest
pub mark_later : (text : List ℕ) (at : ℕ) → at < length text → is_some (after mark (drop at text)) ≡ false
    → mark_place (drop at text) ≡ 1 + mark_place (drop (suc at) text)
mark_later text at lt =
    subst (λ (xs : List ℕ). is_some (after mark xs) ≡ false → mark_place xs ≡ 1 + mark_place (drop (suc at) text))
    (sym (drop-cons text at 0 lt)) (not_there (get_or text at 0) (drop (suc at) text))
