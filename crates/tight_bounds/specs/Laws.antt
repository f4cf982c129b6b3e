-- The laws of the tighter bounds.
use Rattle.std.specs.Prelude.{ℕ, ◌≤◌, length, List, [], Result}
use Rattle.bit_space.specs.declared.order.Order.{Order}
use Rattle.bit_space.specs.Bits.{bits_of}
use Rattle.pickle_types.specs.Types.{PokeType}
use Rattle.pickle_types.specs.Bounds.{cost}
use Rattle.pickle_meaning.specs.Answer.{Answer}
use Rattle.pickle_meaning.specs.Values.{Value, Levels, no_values}
use Rattle.pickle_meaning.specs.Clauses.{FaultAt}
use Rattle.pickle_meaning.specs.Means.{Means}
use Rattle.pickle_meaning.specs.Numbers.{number_at}
use Rattle.pickle_meaning.specs.Room.{Slot, slots}
use Rattle.value_store.specs.Moves.{Move}
use Rattle.mapping_plans.specs.Plan.{Plan, Ended, Tick, Made, Read}
use Rattle.mapping_plans.specs.Mapping.{plan}
use Rattle.tight_bounds.specs.Tight.{tight, tight_slots}

-- each outcome that a type means takes at most so many steps, those of dropped attempts included
abbrev pub OutcomesAreTight : Type 0
OutcomesAreTight =
    (bits : List ℕ) (ty : PokeType) (order : Order) (levels : Levels) (s : ℕ) (r : Result Value FaultAt) (k j : ℕ) →
    Means bits ty order levels s r k j → k ≤ tight ty (length bits)

-- under a limit that it is not above, the answer is the outcome
abbrev pub AnswersAreOutcomes : Type 0
AnswersAreOutcomes =
    (bits : List ℕ) (ty : PokeType) (order : Order) (s limit : ℕ) (r : Result Value FaultAt) (k j : ℕ) →
    tight ty (length bits) ≤ limit → Answer bits ty order s limit r k j → Means bits ty order no_values s r k j

-- it is never above the other bound
abbrev pub TightIsLess : Type 0
TightIsLess = (ty : PokeType) (m : ℕ) → tight ty m ≤ cost ty m

-- on a file's bits M holds of the frames that are stored, at each time
pub data KeptOn {A : Type 0} (bits : List ℕ) (M : Levels → Type 0) : Plan A → Type 0 where
  kept_end : {a : A} → KeptOn bits M (Ended a)
  kept_tick : {p : Plan A} → KeptOn bits M p → KeptOn bits M (Tick p)
  kept_made : {count : ℕ} {move : Move} {levels : Levels} {p : Plan A} → M levels → KeptOn bits M p →
      KeptOn bits M (Made count move levels p)
  kept_read : {place width : ℕ} {order : Order} {rest : ℕ → Plan A} →
      KeptOn bits M (rest (number_at bits order place width)) → KeptOn bits M (Read place width order rest)

-- on a file's bits a mapping has at no time filled more slots of a kind
abbrev pub SlotsAreTight : Type 0
SlotsAreTight = (bytes : List ℕ) (ty : PokeType) (order : Order) (s : ℕ) (kind : Slot) →
    KeptOn (bits_of bytes) (λ kept. slots kind kept ≤ tight_slots ty (length (bits_of bytes)))
    (plan (length (bits_of bytes)) ty order [] s)
