-- The results of plans on a file's bits.
use Rattle.std.proofs.Common.{◌≡◌, ℕ, zero, suc, ◌+◌, ◌<◌, ◌≤◌, List, Result, Ok, Err, refl, sym, ap, ◌∙◌, subst, arith}
use Rattle.std.proofs.lemmas.Bool.{le-leb, lt-leb}
use Rattle.bit_space.specs.declared.order.Order.{Order}
use Rattle.pickle_meaning.specs.declared.faults.MapFaultKind.TheVariants as fault
use Rattle.pickle_meaning.specs.Numbers.{number_at}
use Rattle.pickle_meaning.specs.Values.{Levels}
use Rattle.pickle_meaning.specs.Clauses.{FaultAt}
use Rattle.value_store.specs.Moves.{Move}
use Rattle.mapping_plans.specs.Plan.{Plan, Ended, Tick, Made, Read, and_then, after, on_value, then_ok, leave_frame, framed, result_of, steps_of, made_of}
use Rattle.mapping_plans.specs.Mapping.{from_inside}
use Rattle.mapping_plans.proofs.Equations.{result_then, steps_then, made_then}

-- on these bits a plan has the result a, in k steps with j values made
pub record Comes {A : Type 0} (bits : List ℕ) (p : Plan A) (a : A) (k j : ℕ) : Type 0 where
  pub result : result_of bits p ≡ a
  pub steps : steps_of bits p ≡ k
  pub made : made_of bits p ≡ j

pub comes_ended : {A : Type 0} {bits : List ℕ} {a : A} → Comes bits (Ended a) a 0 0
comes_ended = record { result = refl; steps = refl; made = refl }

pub comes_tick : {A : Type 0} {bits : List ℕ} {p : Plan A} {a : A} {k j : ℕ} → Comes bits p a k j →
    Comes bits (Tick p) a (1 + k) j
comes_tick h = record { result = h.result; steps = ap (λ n. 1 + n) h.steps; made = h.made }

pub comes_made : {A : Type 0} {bits : List ℕ} {count : ℕ} {move : Move} {levels : Levels} {p : Plan A} {a : A}
    {k j : ℕ} → Comes bits p a k j → Comes bits (Made count move levels p) a k (count + j)
comes_made {count} h = record { result = h.result; steps = h.steps; made = ap (λ n. count + n) h.made }

pub comes_read : {A : Type 0} {bits : List ℕ} {place width : ℕ} {order : Order} {rest : ℕ → Plan A} {a : A} {k j : ℕ} →
    Comes bits (rest (number_at bits order place width)) a k j → Comes bits (Read place width order rest) a k j
comes_read h = record { result = h.result; steps = h.steps; made = h.made }

-- the same counts, written another way
pub comes_as : {A : Type 0} {bits : List ℕ} {p : Plan A} {a : A} {k j k' j' : ℕ} → k ≡ k' → j ≡ j' →
    Comes bits p a k j → Comes bits p a k' j'
comes_as ek ej h = record { result = h.result; steps = h.steps ∙ ek; made = h.made ∙ ej }

pub comes_after : {A : Type 0} {bits : List ℕ} (n : ℕ) {a b : A} → a ≡ b → Comes bits (after n a) b n 0
comes_after zero e = record { result = e; steps = refl; made = refl }
comes_after (suc n) e = comes_as (omega arith) refl (comes_tick (comes_after n e))

pub comes_then : {A B : Type 0} {bits : List ℕ} (p : Plan A) (f : A → Plan B) {a : A} {b : B} {k j k' j' : ℕ} →
    Comes bits p a k j → Comes bits (f a) b k' j' → Comes bits (and_then p f) b (k + k') (j + j')
comes_then {bits} p f {a} {b} {k} {j} {k'} {j'} h g =
    let er : result_of bits (f (result_of bits p)) ≡ b =
    subst (λ x. result_of bits (f x) ≡ b) (sym h.result) g.result in
    let es : steps_of bits (f (result_of bits p)) ≡ k' = subst (λ x. steps_of bits (f x) ≡ k') (sym h.result) g.steps in
    let em : made_of bits (f (result_of bits p)) ≡ j' = subst (λ x. made_of bits (f x) ≡ j') (sym h.result) g.made in
    let ks = h.steps in
    let js = h.made in
    let s = steps_then bits f p in
    let m = made_then bits f p in
    record { result = result_then bits f p ∙ er; steps = omega arith; made = omega arith }

pub comes_ok : {A B F : Type 0} {bits : List ℕ} (p : Plan (Result A F)) (f : A → Plan (Result B F)) {a : A}
    {b : Result B F} {k j k' j' : ℕ} →
    Comes bits p (Ok a) k j → Comes bits (f a) b k' j' → Comes bits (then_ok p f) b (k + k') (j + j')
unfolding then_ok
comes_ok p f h g = comes_then p (on_value f) h g

pub comes_err : {A B F : Type 0} {bits : List ℕ} (p : Plan (Result A F)) (f : A → Plan (Result B F)) {e : F} {k j : ℕ} →
    Comes bits p (Err e) k j → Comes bits (then_ok p f) (Err e) k j
unfolding then_ok
comes_err {B} {F} {bits} p f {e} {k} {j} h =
    let g : Comes {A = Result B F} bits (Ended (Err e)) (Err e) 0 0 = comes_ended in
    comes_as (omega arith) (omega arith) (comes_then p (on_value f) h g)

-- one plan to a result, and what is done with it, also with a fault
pub comes_on : {A B F : Type 0} {bits : List ℕ} (p : Plan (Result A F)) (f : A → Plan (Result B F)) {a : Result A F}
    {b : Result B F} {k j k' j' : ℕ} →
    Comes bits p a k j → Comes bits (on_value f a) b k' j' → Comes bits (then_ok p f) b (k + k') (j + j')
unfolding then_ok
comes_on p f h g = comes_then p (on_value f) h g

-- what is built in a frame of its own, or its fault
pub comes_framed : {A F : Type 0} {bits : List ℕ} (outer : Levels) (p : Plan (Result A F)) {r : Result A F} {k j : ℕ} →
    Comes bits p r k j → Comes bits (framed outer p) r k j
unfolding framed
comes_framed {A} {F} {bits} outer p {r} h =
    comes_as (omega arith) (omega arith) (comes_made {count = 0} (comes_then p (leave_frame outer) h (left r)))
  where
    left : (x : Result A F) → Comes bits (leave_frame outer x) x 0 0
    left (Ok v) = comes_ended
    left (Err f) = comes_made {count = 0} comes_ended

pub comes_inside : {A : Type 0} {bits : List ℕ} (m s : ℕ) (p : Plan (Result A FaultAt)) {r : Result A FaultAt}
    {k j : ℕ} → s ≤ m → Comes bits p r k j → Comes bits (from_inside m s p) r k j
unfolding from_inside
comes_inside m s p inside h = rw (le-leb s m inside) h

pub comes_past : {A : Type 0} {bits : List ℕ} (m s : ℕ) (p : Plan (Result A FaultAt)) → m < s →
    Comes bits (from_inside m s p) (Err (fault.End, s)) 0 0
unfolding from_inside
comes_past m s p lt = rw (lt-leb s m lt) comes_ended
