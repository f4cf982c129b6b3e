-- Numbers that end near the start of a type.
use Rattle.std.proofs.Common.{ℕ, zero, suc, ◌+◌, ◌<◌, ◌≤◌, List, [], ◌∷◌, ◌++◌, length, get_or, arith}
use Rattle.pickle_tree.specs.declared.tree.ByteOrder.{ByteOrder}
use Rattle.std.specs.Prelude.{Option}
use Rattle.first_numbers.specs.declared.number.FirstNumber.{FirstNumber as HeldNumber}
use Rattle.first_numbers.specs.Held.{AreNear, IsNear, number_shown, numbers_shown}
use Rattle.first_numbers.specs.Layouts.{FirstNumber, moved}

pub near_at : (need : ℕ) (xs : List HeldNumber) (i : ℕ) (d : HeldNumber) → AreNear need (numbers_shown xs) →
    i < length xs → IsNear need (number_shown (get_or xs i d))
near_at need [] i d near lt = absurd (omega (arith, lt))
near_at need (x ∷ xs) zero d near lt = near.0
near_at need (x ∷ xs) (suc i) d near lt = near_at need xs i d near.1 (omega (arith, lt))

pub near_moved : (need need' place : ℕ) (set : Option ByteOrder) (xs : List FirstNumber) → place + need ≤ need' →
    AreNear need xs → AreNear need' (moved place set xs)
near_moved need need' place set [] le near = tt
near_moved need need' place set (x ∷ xs) le near = (
  record {
    ends = let e = near.0.ends in omega (arith, e, le);
    numeral = near.0.numeral;
    sound = near.0.sound;
    over = near.0.over;
  },
  near_moved need need' place set xs le near.1,
)

pub near_more : (need need' : ℕ) (xs : List FirstNumber) → need ≤ need' → AreNear need xs → AreNear need' xs
near_more need need' [] le near = tt
near_more need need' (x ∷ xs) le near = (
  record {
    ends = let e = near.0.ends in omega (arith, e, le);
    numeral = near.0.numeral;
    sound = near.0.sound;
    over = near.0.over;
  },
  near_more need need' xs le near.1,
)

pub near_append : (need : ℕ) (xs ys : List FirstNumber) → AreNear need xs → AreNear need ys → AreNear need (xs ++ ys)
near_append need [] ys near more = more
near_append need (x ∷ xs) ys near more = (near.0, near_append need xs ys near.1 more)
