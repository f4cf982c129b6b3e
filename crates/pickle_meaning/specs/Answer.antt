-- The answer of a mapping under a limit of steps.
use Rattle.std.specs.Prelude.{ℕ, ◌<◌, ◌≤◌, List, Result, Err}
use Rattle.bit_space.specs.declared.order.Order.{Order}
use Rattle.pickle_types.specs.Types.{PokeType}
use Rattle.pickle_meaning.specs.declared.faults.MapFaultKind.TheVariants as fault
use Rattle.pickle_meaning.specs.Values.{Value, no_values}
use Rattle.pickle_meaning.specs.Clauses.{FaultAt}
use Rattle.pickle_meaning.specs.Means.{Means}

-- On these bits the type at s has the answer r under a limit, in so many steps and with so many values made: the
-- outcome that it means there, or a Limit fault at s where that takes more steps than the limit. With a Limit fault the
-- values made are any number up to the outcome's.
pub data Answer (bits : List ℕ) (ty : PokeType) (order : Order) (s limit : ℕ) : Result Value FaultAt →
    (steps made : ℕ) → Type 0 where
  in_time : {r : Result Value FaultAt} {k j : ℕ} → Means bits ty order no_values s r k j → k ≤ limit →
      Answer bits ty order s limit r k j
  too_long : {r : Result Value FaultAt} {k j j' : ℕ} → Means bits ty order no_values s r k j → limit < k → j' ≤ j →
      Answer bits ty order s limit (Err (fault.Limit, s)) limit j'

-- On these bits a mapping of the type at s was broken off, by an allocation failure or by a device. It took no more
-- steps than its outcome and its limit have, and made no more values.
pub data BrokenOff (bits : List ℕ) (ty : PokeType) (order : Order) (s limit : ℕ) : (steps made : ℕ) → Type 0 where
  broken_off : {r : Result Value FaultAt} {k j k' j' : ℕ} → Means bits ty order no_values s r k j → k' ≤ k →
      k' ≤ limit → j' ≤ j → BrokenOff bits ty order s limit k' j'
