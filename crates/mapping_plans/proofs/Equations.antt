-- Results, steps and values made of one plan after another: the sums in the definition of mapping.
use Rattle.std.proofs.Common.{◌≡◌, ℕ, ◌+◌, List, refl, arith}
use Rattle.pickle_meaning.specs.Numbers.{number_at}
use Rattle.mapping_plans.specs.Plan.{Plan, Ended, Tick, Made, Read, and_then, result_of, steps_of, made_of}

module _ {A B : Type 0} (bits : List ℕ) (f : A → Plan B) where
  pub result_then : (p : Plan A) → result_of bits (and_then p f) ≡ result_of bits (f (result_of bits p))
  result_then (Ended a) = refl
  result_then (Tick p) = result_then p
  result_then (Made count move levels p) = result_then p
  result_then (Read place width order rest) = result_then (rest (number_at bits order place width))

  pub steps_then : (p : Plan A) → steps_of bits (and_then p f) ≡ steps_of bits p + steps_of bits (f (result_of bits p))
  steps_then (Ended a) = omega arith
  steps_then (Tick p) = let h = steps_then p in omega arith
  steps_then (Made count move levels p) = steps_then p
  steps_then (Read place width order rest) = steps_then (rest (number_at bits order place width))

  pub made_then : (p : Plan A) → made_of bits (and_then p f) ≡ made_of bits p + made_of bits (f (result_of bits p))
  made_then (Ended a) = omega arith
  made_then (Tick p) = made_then p
  made_then (Made count move levels p) = let h = made_then p in omega arith
  made_then (Read place width order rest) = made_then (rest (number_at bits order place width))
