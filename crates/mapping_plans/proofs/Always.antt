-- What always holds of plans one after the other.
use Rattle.std.proofs.Common.{◌≡◌, ℕ, zero, suc, ◌≤◌, ◌<◌, ◌^◌, Bool, true, false, Result, Ok, Err, refl}
use Rattle.std.specs.Prelude.{if◌then◌else◌, nat_le}
use Rattle.std.proofs.lemmas.Bool.{leb-true}
use Rattle.bit_space.specs.declared.order.Order.{Order}
use Rattle.pickle_meaning.specs.declared.faults.MapFaultKind.TheVariants as fault
use Rattle.pickle_meaning.specs.Values.{Levels, opened}
use Rattle.pickle_meaning.specs.Clauses.{FaultAt}
use Rattle.value_store.specs.Moves.{Move}
use Rattle.mapping_plans.specs.Plan.{Plan, Ended, Tick, Made, Read, and_then, after, on_value, then_ok, leave_frame, framed, Always, result, after_tick, after_made, after_read}
use Rattle.mapping_plans.specs.Mapping.{from_inside}

-- a fact about a value; nothing is said of a fault
abbrev pub OfValue : {A F : Type 0} → (A → Type 0) → Result A F → Type 0
OfValue P (Ok a) = P a
OfValue P (Err e) = Unit {0}

pub of_tick : {A : Type 0} {M : Levels → Type 0} {Q : A → Type 0} {p : Plan A} → Always M Q (Tick p) → Always M Q p
of_tick (after_tick h) = h

pub of_made : {A : Type 0} {M : Levels → Type 0} {Q : A → Type 0} {count : ℕ} {move : Move} {levels : Levels}
    {p : Plan A} → Always M Q (Made count move levels p) → Always M Q p
of_made (after_made l h) = h

pub of_kept : {A : Type 0} {M : Levels → Type 0} {Q : A → Type 0} {count : ℕ} {move : Move} {levels : Levels}
    {p : Plan A} → Always M Q (Made count move levels p) → M levels
of_kept (after_made l h) = l

pub of_read : {A : Type 0} {M : Levels → Type 0} {Q : A → Type 0} {place width : ℕ} {order : Order} {ps : ℕ → Plan A} →
    Always M Q (Read place width order ps) → (n : ℕ) → n < 2 ^ width → Always M Q (ps n)
of_read (after_read h) = h

pub of_result : {A : Type 0} {M : Levels → Type 0} {Q : A → Type 0} {a : A} → Always M Q (Ended a) → Q a
of_result (result h) = h

pub weaker : {A : Type 0} {M : Levels → Type 0} {P Q : A → Type 0} → ((a : A) → P a → Q a) → {p : Plan A} →
    Always M P p → Always M Q p
weaker g (result {a} h) = result (g a h)
weaker g (after_tick h) = after_tick (weaker g h)
weaker g (after_made l h) = after_made l (weaker g h)
weaker g (after_read h) = after_read (λ n lt. weaker g (h n lt))

pub after_always : {A : Type 0} {M : Levels → Type 0} {Q : A → Type 0} (n : ℕ) (a : A) → Q a → Always M Q (after n a)
after_always zero a h = result h
after_always (suc n) a h = after_tick (after_always n a h)

pub then_always : {A B : Type 0} {M : Levels → Type 0} {P : A → Type 0} {Q : B → Type 0} (f : A → Plan B) →
    ((a : A) → P a → Always M Q (f a)) → {p : Plan A} → Always M P p → Always M Q (and_then p f)
then_always f g (result {a} h) = g a h
then_always f g (after_tick h) = after_tick (then_always f g h)
then_always f g (after_made l h) = after_made l (then_always f g h)
then_always f g (after_read h) = after_read (λ n lt. then_always f g (h n lt))

value_always : {A B F : Type 0} {M : Levels → Type 0} {P : A → Type 0} {Q : B → Type 0} (f : A → Plan (Result B F)) →
    ((a : A) → P a → Always M (OfValue Q) (f a)) → (r : Result A F) → OfValue P r → Always M (OfValue Q) (on_value f r)
value_always f g (Ok a) h = g a h
value_always f g (Err e) h = result tt

pub ok_always : {A B F : Type 0} {M : Levels → Type 0} {P : A → Type 0} {Q : B → Type 0} (f : A → Plan (Result B F)) →
    ((a : A) → P a → Always M (OfValue Q) (f a)) → {p : Plan (Result A F)} → Always M (OfValue P) p →
    Always M (OfValue Q) (then_ok p f)
unfolding then_ok
ok_always {F} {M} {P} {Q} f g h = then_always {P = OfValue {F = F} P} {Q = OfValue {F = F} Q} (on_value f)
    (value_always {M = M} {P = P} {Q = Q} f g) h

frame_always : {A F : Type 0} {M : Levels → Type 0} {Q : A → Type 0} (outer : Levels) → M outer → (r : Result A F) →
    OfValue Q r → Always M (OfValue Q) (leave_frame outer r)
frame_always outer left (Ok a) h = result h
frame_always outer left (Err e) h = after_made left (result tt)

-- what is built in a frame of its own
pub framed_always : {A F : Type 0} {M : Levels → Type 0} {Q : A → Type 0} (outer : Levels) → M (opened outer) →
    M outer → {p : Plan (Result A F)} → Always M (OfValue Q) p → Always M (OfValue Q) (framed outer p)
unfolding framed
framed_always {F} {M} {Q} outer inner left h = after_made inner (then_always {P = OfValue {F = F} Q}
    {Q = OfValue {F = F} Q} (leave_frame outer) (frame_always {M = M} {Q = Q} outer left) h)

-- a value that a function gives, after so many steps
pub told_always : {A B F : Type 0} {M : Levels → Type 0} {Q : B → Type 0} (n : ℕ) (r : Result A F)
    (f : A → Plan (Result B F)) →
    ((a : A) → r ≡ Ok a → Always M (OfValue Q) (f a)) → Always M (OfValue Q) (then_ok (after n r) f)
told_always {A} {B} {F} {M} {Q} n r f g = ok_always {P = λ a. r ≡ Ok a} {Q = Q} f g (after_always n r (told r))
  where
    told : (t : Result A F) → OfValue (λ a. t ≡ Ok a) t
    told (Ok a) = refl
    told (Err e) = tt

pub inside_always : {A : Type 0} {M : Levels → Type 0} {Q : A → Type 0} (m s : ℕ) {p : Plan (Result A FaultAt)} →
    (s ≤ m → Always M (OfValue Q) p) → Always M (OfValue Q) (from_inside m s p)
unfolding from_inside
inside_always {M} {Q} m s {p} h = chosen (nat_le s m) refl
  where
    chosen : (b : Bool) → nat_le s m ≡ b → Always M (OfValue Q) (if b then p else Ended (Err (fault.End, s)))
    chosen true e = h (leb-true s m e)
    chosen false e = result tt
