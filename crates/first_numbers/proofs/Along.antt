-- Runs along plans made of plans.
use Rattle.std.proofs.Common.{◌≡◌, ℕ, zero, suc, ◌+◌, ◌≤◌, List, Option, Result, Ok, Err, refl, subst, arith}
use Rattle.std.proofs.lemmas.Bool.{le-leb}
use Rattle.pickle_meaning.specs.Values.{Levels}
use Rattle.pickle_meaning.specs.Clauses.{FaultAt}
use Rattle.mapping_plans.specs.Plan.{Plan, Ended, and_then, after, on_value, then_ok, leave_frame, framed}
use Rattle.mapping_plans.specs.Mapping.{from_inside}
use Rattle.first_numbers.specs.Runs.{Along, along_ended, along_tick, along_made, along_read}

module _ {known : Option (List ℕ)} where
  pub along_as : {A : Type 0} {p : Plan A} {a b : A} {k k' j : ℕ} → a ≡ b → k ≡ k' → Along known p a k j →
      Along known p b k' j
  along_as {p} {a} {k' = k'} {j} ea ek h =
      subst (λ b. Along known p b k' j) ea (subst (λ n. Along known p a n j) ek h)

  pub along_after : {A : Type 0} (n : ℕ) (a : A) → Along known (after n a) a n 0
  along_after zero a = along_ended
  along_after (suc n) a = along_as refl (omega arith) (along_tick (along_after n a))

  pub along_then : {A B : Type 0} {p : Plan A} {a : A} {k j : ℕ} (f : A → Plan B) {b : B} {k' j' : ℕ} →
      Along known p a k j → Along known (f a) b k' j' → (made : ℕ) × Along known (and_then p f) b (k + k') made
  along_then f {k'} {j'} along_ended g = (j', along_as refl (omega arith) g)
  along_then f (along_tick h) g =
      let more = along_then f h g in (more.0, along_as refl (omega arith) (along_tick more.1))
  along_then f (along_made {count} h) g = let more = along_then f h g in (count + more.0, along_made more.1)
  along_then f (along_read n may h) g = let more = along_then f h g in (more.0, along_read n may more.1)

  pub along_ok : {A B F : Type 0} {p : Plan (Result A F)} {a : A} {k j : ℕ} (f : A → Plan (Result B F))
      {b : Result B F} {k' j' : ℕ} →
      Along known p (Ok a) k j → Along known (f a) b k' j' → (made : ℕ) × Along known (then_ok p f) b (k + k') made
  unfolding then_ok
  along_ok f h g = along_then (on_value f) h g

  pub along_err : {A B F : Type 0} {p : Plan (Result A F)} {e : F} {k j : ℕ} (f : A → Plan (Result B F)) →
      Along known p (Err e) k j → (made : ℕ) × Along known (then_ok p f) (Err e) k made
  unfolding then_ok
  along_err {B} {F} {e} f h =
      let g : Along known {A = Result B F} (Ended (Err e)) (Err e) 0 0 = along_ended in
      let more = along_then (on_value f) h g in (more.0, along_as refl (omega arith) more.1)

  pub along_framed : {A F : Type 0} {p : Plan (Result A F)} {r : Result A F} {k j : ℕ} (outer : Levels) →
      Along known p r k j → (made : ℕ) × Along known (framed outer p) r k made
  unfolding framed
  along_framed {A} {F} {r} outer h =
      let more = along_then (leave_frame outer) h (left r) in
      (0 + more.0, along_made (along_as refl (omega arith) more.1))
    where
      left : (x : Result A F) → Along known (leave_frame outer x) x 0 0
      left (Ok v) = along_ended
      left (Err e) = along_made {count = 0} along_ended

  pub along_inside : {A : Type 0} {p : Plan (Result A FaultAt)} {r : Result A FaultAt} {k j : ℕ} (m s : ℕ) → s ≤ m →
      Along known p r k j → Along known (from_inside m s p) r k j
  unfolding from_inside
  along_inside m s le h = rw (le-leb s m le) h
