-- Small facts on truths, options and places.
use Rattle.std.proofs.Common.{◌≡◌, ℕ, suc, ◌+◌, ◌*◌, ◌/◌, ◌<◌, ◌≤◌, Bool, true, false, Option, Some, None, refl, ap, subst, arith}
use Rattle.std.specs.Prelude.{nat_le}
use Rattle.std.proofs.Math.Nat.{suc-mul, div-lt_iff_lt-mul}
use Rattle.std.proofs.lemmas.Bool.{leb-true, leb-false}
use Rattle.pickle_types.specs.declared.integer.IntegerType.{IntegerType}

abbrev So : Bool → Type 0
So true = Unit {0}
So false = ⊥

pub clash : {A : Type 0} → true ≡ false → A
clash e = absurd (subst So e tt)

abbrev type_or : IntegerType → Option IntegerType → IntegerType
type_or type None = type
type_or type (Some t) = t

pub same_type : {t u : IntegerType} → Some t ≡ Some u → t ≡ u
same_type {t} {u} e = ap (type_or u) e

-- inside or past the end
pub by_place : {A : Type 0} (s m : ℕ) → (s ≤ m → A) → (m < s → A) → A
by_place {A} s m f g = chosen (nat_le s m) refl
  where
    chosen : (b : Bool) → nat_le s m ≡ b → A
    chosen true e = f (leb-true s m e)
    chosen false e = g (leb-false s m e)

pub by_value : {A : Type 0} (b : Bool) → (b ≡ true → A) → (b ≡ false → A) → A
by_value true f g = f refl
by_value false f g = g refl

-- as many pieces as are left reach past m, also when one of them is taken away
pub fewer : (m p q n d : ℕ) → m < p + suc n * d → p + d ≤ q → m < q + n * d
fewer m p q n d lt le = let e = suc-mul n d in omega arith

pub enough : (m s d : ℕ) → 0 < d → m < s + (m / d + 1) * d
enough m s d pos = let h : m < (m / d + 1) * d = (div-lt_iff_lt-mul pos).0 (omega arith) in omega arith
