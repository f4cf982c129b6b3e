-- Chains of tests.
use Rattle.std.proofs.Common.{◌≡◌, subst, ℕ, Bool, true, false, cond, refl, inl, inr, Option, Some, List, ◌++◌, length, drop}
use Rattle.std.specs.Prelude.{◌⊎◌, ◌==◌}
use Rattle.std.specs.List.{starts_with}
use Rattle.std.proofs.lemmas.Bool.Decides.{Decides-eqb}
use Rattle.std.proofs.lemmas.Slice.Eq.{starts_is}

-- what a test that found something says
pub tested : {A : Type 0} (b : Bool) (x : A) (more : Option A) (y : A) → cond b (Some x) more ≡ Some y →
    ((b ≡ true) × (x ≡ y)) ⊎ (more ≡ Some y)
tested true x more y e = inl (refl, cc)
tested false x more y e = inr e

-- the bytes begin as y is spelled, and so long is its spelling
pub record Begins {A : Type 0} (spelling : A → List ℕ) (bytes : List ℕ) (y : A × ℕ) : Type 0 where
  pub front : bytes ≡ spelling y.0 ++ drop y.1 bytes
  pub size : length (spelling y.0) ≡ y.1

pub begun : {A : Type 0} (spelling : A → List ℕ) (bytes : List ℕ) (x y : A × ℕ) (more : Option (A × ℕ)) →
    length (spelling x.0) ≡ x.1 → cond (starts_with ◌==◌ bytes (spelling x.0)) (Some x) more ≡ Some y →
    (more ≡ Some y → Begins spelling bytes y) → Begins spelling bytes y
begun spelling bytes x y more size is others = elim (tested (starts_with ◌==◌ bytes (spelling x.0)) x more y is) [
  | inl hit ↦ subst (Begins spelling bytes) hit.1 (record {
    front =
        rw (← size) ((starts_is Decides-eqb bytes (spelling x.0) (starts_with ◌==◌ bytes (spelling x.0)) refl).0 hit.0);
    size = size;
  })
  | inr e ↦ others e
]

-- what a test chose
pub chosen : {A : Type 0} (b : Bool) (x y z : A) → cond b x y ≡ z → ((b ≡ true) × (x ≡ z)) ⊎ ((b ≡ false) × (y ≡ z))
chosen true x y z e = inl (refl, e)
chosen false x y z e = inr (refl, e)
