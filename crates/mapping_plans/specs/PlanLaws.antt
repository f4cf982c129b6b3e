-- The laws of plans.
use Rattle.std.specs.Prelude.{ℕ, ◌+◌, ◌≤◌, length, List}
use Rattle.bit_space.specs.declared.order.Order.{Order}
use Rattle.pickle_types.specs.Types.{PokeType}
use Rattle.pickle_types.specs.Bounds.{cost, room}
use Rattle.pickle_meaning.specs.Values.{Levels}
use Rattle.pickle_meaning.specs.Means.{Means}
use Rattle.pickle_meaning.specs.Room.{Slot, slots}
use Rattle.mapping_plans.specs.Plan.{result_of, steps_of, made_of, AtMost, MadeWithin, Counts, Always}
use Rattle.mapping_plans.specs.Mapping.{plan}
use Rattle.pickle_meaning.specs.Laws.{ValueFits, value_size}

-- the plan gives the outcome, with its steps and values made
abbrev pub PlanIsMeant : Type 0
PlanIsMeant = (bits : List ℕ) (ty : PokeType) (order : Order) (levels : Levels) (s : ℕ) →
    Means bits ty order levels s (result_of bits (plan (length bits) ty order levels s))
    (steps_of bits (plan (length bits) ty order levels s)) (made_of bits (plan (length bits) ty order levels s))

-- whatever is read, a mapping takes at most `cost` steps
abbrev pub StepsAreBounded : Type 0
StepsAreBounded =
    (m : ℕ) (ty : PokeType) (order : Order) (levels : Levels) (s : ℕ) → AtMost (plan m ty order levels s) (cost ty m)

-- whatever is read, a mapping has at no time made more values than it has taken steps
abbrev pub MadeIsBounded : Type 0
MadeIsBounded =
    (m : ℕ) (ty : PokeType) (order : Order) (levels : Levels) (s : ℕ) → MadeWithin (plan m ty order levels s) 0 0

-- whatever is read, each node and each byte of a text of the resulting value was made
abbrev pub ValuesAreMade : Type 0
ValuesAreMade =
    (m : ℕ) (ty : PokeType) (order : Order) (levels : Levels) (s : ℕ) → Counts value_size (plan m ty order levels s) 0

-- whatever is read, a value that the plan gives fits its type at its start
abbrev pub ValuesFit : Type 0
ValuesFit = (m : ℕ) (ty : PokeType) (order : Order) (levels : Levels) (s : ℕ) →
    Always (λ kept. Unit {0}) (ValueFits m ty levels s) (plan m ty order levels s)

-- Whatever is read, at any time at most `room` slots of each kind are filled above those that were filled before.
abbrev pub RoomIsEnough : Type 0
RoomIsEnough = (m : ℕ) (ty : PokeType) (order : Order) (levels : Levels) (s : ℕ) (kind : Slot) →
    Always (λ kept. slots kind kept ≤ slots kind levels + room ty m) (λ r. Unit {0}) (plan m ty order levels s)
