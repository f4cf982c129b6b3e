-- The elements of an array of packed integers are integers of its type.
use Rattle.std.proofs.Common.{◌≡◌, ℕ, Bool, zero, suc, ◌+◌, List, [], ◌∷◌, refl, ap}
use Rattle.std.specs.Prelude.{IfSome}
use Rattle.pickle_types.specs.declared.integer.IntegerType.{IntegerType}
use Rattle.pickle_meaning.specs.Arithmetic.{with_sign}
use Rattle.pickle_meaning.specs.Values.{Mapped, NoMembers, MemberThen, IntegerLabel, member_at, gathered}
use Rattle.value_store.specs.declared.store.slots.Shape.TheVariants.{Integers}
use Rattle.value_store.specs.Integers.{IsIntegerOf, byte_members}
use Rattle.value_store.specs.Slots.{elements}

pub elements_integers : (w : ℕ) (g : Bool) (start : ℕ) (ns : List ℕ) (i : ℕ) →
    IfSome (member_at (gathered (elements (Integers w g) start ns)) i) (IsIntegerOf (record { width = w; signed = g }))
elements_integers w g start [] i = tt
elements_integers w g start (n ∷ ns) zero = refl
elements_integers w g start (n ∷ ns) (suc i) = elements_integers w g (start + w) ns i

-- those of a byte each
pub elements_bytes : (w : ℕ) (g : Bool) (start : ℕ) (bs : List ℕ) →
    gathered (elements (Integers w g) start bs) ≡ byte_members (record { width = w; signed = g }) start bs
elements_bytes w g start [] = refl
elements_bytes w g start (b ∷ bs) =
    let type : IntegerType = record { width = w; signed = g } in
    ap (MemberThen (Mapped (IntegerLabel (with_sign type b) type) start (start + w) NoMembers))
    (elements_bytes w g (start + w) bs)
