-- Laws of the reasons for which arguments aren't a job.
use Rattle.std.proofs.Common.{◌≡◌, ℕ, ◌<◌, zero, suc, List, [], ◌∷◌, length, map, get_or, Result, Ok, Err, IfErr, inl, inr, sym, subst, arith}
use Rattle.std.specs.Result.{IsErrAnd}
use Rattle.std.specs.Borrow.{Bor}
use Rattle.command_line.specs.declared.words.WordFault.{WordFault}
use Rattle.command_line.specs.declared.words.WordFault.TheVariants.{Usage, Help, Offset, Memory}
use Rattle.command_line.specs.Misread.{FailsFor, AnyWord}

pub fails_weaker : (A A' B B' : Type 0) → (A → A') → (B → B') → (fault : WordFault) → FailsFor A B fault →
    FailsFor A' B' fault
fails_weaker A A' B B' f g (Usage text) h = f h
fails_weaker A A' B B' f g (Help text) h = h
fails_weaker A A' B B' f g Offset h = g h
fails_weaker A A' B B' f g Memory h = tt

-- the same of what may have failed
pub fails_more : {T : Type 0} (r : Result T WordFault) (A A' B B' : Type 0) → (A → A') → (B → B')
    → IfErr r (FailsFor A B) → IfErr r (FailsFor A' B')
fails_more (Ok x) A A' B B' f g h = tt
fails_more (Err y) A A' B B' f g h = fails_weaker A A' B B' f g y h

-- one of the words is such
pub word_at : (IsSuch : List ℕ → Type 0) (words : List (Bor (List ℕ))) (i : ℕ) (default : Bor (List ℕ))
    → i < length words → IsSuch (get_or words i default).now
    → AnyWord IsSuch (map (λ word. word.now) words)
word_at IsSuch [] i default lt such = absurd (omega arith)
word_at IsSuch (word ∷ words) zero default lt such = inl such
word_at IsSuch (word ∷ words) (suc i) default lt such = inr (word_at IsSuch words i default (omega arith) such)

-- a fault that is passed on
pub passed : {T : Type 0} (r : Result T WordFault) (fault : WordFault) (A A' B B' : Type 0)
    → IsErrAnd r (λ y. y ≡ fault) → (A → A') → (B → B') → FailsFor A B fault
    → IfErr r (FailsFor A' B')
passed (Ok x) fault A A' B B' is f g h = tt
passed (Err y) fault A A' B B' is f g h =
    let P : WordFault → Type 0 = FailsFor A' B' in subst P (sym is) (fails_weaker A A' B B' f g fault h)
