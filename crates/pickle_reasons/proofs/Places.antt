-- What is printed about a refusal.
use Rattle.std.proofs.Common.{◌≡◌, ℕ, List, [], fold, Result, Ok, Err, IfOk, subst}
use Rattle.pickle_source.specs.Places.{TellsPlace, called_by, shown_behind}

pub called_is : (path : List ℕ) {start shown called : List ℕ} → called ≡ shown → shown ≡ fold shown_behind start path →
    start ≡ [] → called ≡ called_by path
called_is path same shown_is empty = cc

pub told_if : {V E : Type 0} (pickle path : List ℕ) {called : List ℕ} → called ≡ called_by path
    → (items : V → List ℕ) (r : Result V E) → IfOk r (λ v. TellsPlace pickle called (items v))
    → IfOk r (λ v. TellsPlace pickle (called_by path) (items v))
told_if pickle path e items (Ok v) told = subst (λ called. TellsPlace pickle called (items v)) e told
told_if pickle path e items (Err x) told = tt
