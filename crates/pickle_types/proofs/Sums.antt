-- Sums of bounds, grouped in another way.
use Rattle.std.proofs.Common.{◌≡◌, ℕ, ◌+◌, ◌*◌, Option, refl, subst, arith}
use Rattle.pickle_types.specs.Bounds.{IsBound}

pub array_sum : (o : Option ℕ) (w n k x : ℕ) → n ≡ k → IsBound o (1 + (w + n * (1 + x))) →
    IsBound o (1 + w + k * (1 + x))
array_sum o w n k x e h =
    let same : 1 + (w + n * (1 + x)) ≡ 1 + w + k * (1 + x) = rw e (omega arith) in subst (λ y. IsBound o y) same h

pub array_slots : (o : Option ℕ) (n k x : ℕ) → n ≡ k → IsBound o (1 + n * (1 + x)) → IsBound o (1 + k * (1 + x))
array_slots o n k x e h = let same : 1 + n * (1 + x) ≡ 1 + k * (1 + x) = rw e refl in subst (λ y. IsBound o y) same h
