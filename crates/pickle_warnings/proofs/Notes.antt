-- What is printed about an accepted pickle.
use Rattle.std.proofs.Common.{◌≡◌, ℕ, List, [], ◌++◌, fold, Result, Ok, Err, IfOk, subst, sym}
use Rattle.pickle_tree.specs.Tree.{DeclarationTree}
use Rattle.pickle_types.specs.Names.{Names}
use Rattle.run_parts.specs.Accepted.{IsAccepted}
use Rattle.pickle_source.specs.Places.{TellsPlace, called_by, shown_behind}
use Rattle.pickle_warnings.specs.Warnings.{AreNotes, WarnsOf, none, more, silent, warns}

pub called_is : (path : List ℕ) {start shown called : List ℕ} → called ≡ shown → shown ≡ fold shown_behind start path →
    start ≡ [] → called ≡ called_by path
called_is path same shown_is empty = cc

pub notes_if : {V E : Type 0} (pickle path : List ℕ) {called : List ℕ} → called ≡ called_by path
    → (items : V → List ℕ) (r : Result V E) → IfOk r (λ v. AreNotes pickle called (items v))
    → IfOk r (λ v. AreNotes pickle (called_by path) (items v))
notes_if pickle path e items (Ok v) told = subst (λ called. AreNotes pickle called (items v)) e told
notes_if pickle path e items (Err x) told = tt

pub warned_if : {V E : Type 0} (pickle path : List ℕ) {declarations : List DeclarationTree} {types : Names}
    → IsAccepted pickle declarations types → (items : V → List ℕ) (r : Result V E)
    → IfOk r (λ v. AreNotes pickle (called_by path) (items v)) → IfOk r (λ v. WarnsOf pickle path (items v))
warned_if pickle path accepted items (Ok v) told = warns accepted told
warned_if pickle path accepted items (Err x) told = tt

pub silent_at : (pickle path : List ℕ) {text : List ℕ} → text ≡ [] → WarnsOf pickle path text
silent_at pickle path empty = subst (λ text. WarnsOf pickle path text) (sym empty) silent

pub no_notes : (pickle called : List ℕ) {text : List ℕ} → text ≡ [] → AreNotes pickle called text
no_notes pickle called empty = subst (λ text. AreNotes pickle called text) (sym empty) none

pub one_more : (pickle called : List ℕ) {before note after : List ℕ} → after ≡ before ++ note →
    AreNotes pickle called before → TellsPlace pickle called note → AreNotes pickle called after
one_more pickle called whole notes note = subst (λ text. AreNotes pickle called text) (sym whole) (more notes note)
