-- Runs along plans, and numbers that fail.
use Rattle.std.specs.Prelude.{◌≡◌, ℕ, zero, suc, ◌+◌, List, [], ◌∷◌, ◌++◌, Option, Some, None, Err}
use Rattle.bit_space.specs.declared.order.Order.{Order}
use Rattle.bit_space.specs.Reading.{MayRead}
use Rattle.pickle_types.specs.declared.integer.IntegerType.{IntegerType}
use Rattle.pickle_meaning.specs.declared.faults.MapFaultKind.TheVariants as fault
use Rattle.pickle_meaning.specs.Clauses.{constraint}
use Rattle.pickle_meaning.specs.Evaluation.{Evaluation, evaluation}
use Rattle.pickle_meaning.specs.Means.{ordered, integer_value, offset_value}
use Rattle.pickle_meaning.specs.Values.{Value, Levels}
use Rattle.mapping_plans.specs.Plan.{Plan, Ended, Tick, Made, Read}
use Rattle.value_store.specs.Moves.{Move}
use Rattle.first_numbers.specs.declared.number.Numeral.{Numeral}
use Rattle.first_numbers.specs.Layouts.{FirstNumber}

-- Over a file's bits, where they are known, a plan comes to a result in so many steps and with so many values made, on
-- numbers that may be read.
pub data Along (known : Option (List ℕ)) {A : Type 0} : Plan A → A → (steps made : ℕ) → Type 0 where
  along_ended : {a : A} → Along known (Ended a) a 0 0
  along_tick : {p : Plan A} {a : A} {k j : ℕ} → Along known p a k j → Along known (Tick p) a (1 + k) j
  along_made : {count : ℕ} {move : Move} {levels : Levels} {p : Plan A} {a : A} {k j : ℕ} → Along known p a k j →
      Along known (Made count move levels p) a k (count + j)
  along_read : {place width : ℕ} {order : Order} {rest : ℕ → Plan A} {a : A} {k j : ℕ} (n : ℕ) →
      MayRead known order place width n → Along known (rest n) a k j → Along known (Read place width order rest) a k j

-- a number may be read at each place
abbrev pub CanRead : Option (List ℕ) → Type 0
CanRead known = (order : Order) (place width : ℕ) → (n : ℕ) × MayRead known order place width n

-- ---- the constraint of a first number

abbrev pub value_in : IntegerType → (unit : Option ℕ) → (n start : ℕ) → Value
value_in type None n start = integer_value type n start
value_in type (Some unit) n start = offset_value type unit n start

-- the value of an unsigned number at a bit
abbrev pub number_value : Numeral → (n start : ℕ) → Value
number_value x n start = value_in x.number x.unit n start

-- so many absent values
abbrev pub absent : (count : ℕ) → List (Option Value)
absent zero = []
absent (suc count) = None ∷ absent count

-- frames that have this value at that place of the innermost, and nothing else
abbrev pub own_frames : (own : ℕ) → Value → Levels
own_frames own v = (absent own ++ Some v ∷ []) ∷ []

-- the evaluation of the constraint on an unsigned number
abbrev pub judged : FirstNumber → (n : ℕ) → Evaluation
judged x n = evaluation x.constraint (own_frames x.own (number_value x.numeral n 0))

-- the constraint is 0, and has no fault
pub record Fails (x : FirstNumber) (n : ℕ) : Type 0 where
  pub is_zero : constraint (Some x.constraint) (own_frames x.own (number_value x.numeral n 0)) 0
      ≡ Err (fault.Constraint, 0)

-- numbers that may be read at these places of a type that starts at s fail, and their constraints take so many steps
pub data AllFail (known : Option (List ℕ)) (order : Order) (s : ℕ) : List FirstNumber → (steps : ℕ) → Type 0 where
  none_fail : AllFail known order s [] 0
  one_fails : {x : FirstNumber} {xs : List FirstNumber} {k : ℕ} (n : ℕ) →
      MayRead known (ordered x.order order) (s + x.place) x.numeral.number.width n → Fails x n →
      AllFail known order s xs k → AllFail known order s (x ∷ xs) ((judged x n).steps + k)
