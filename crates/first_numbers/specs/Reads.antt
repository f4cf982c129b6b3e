-- What is read at a start to decide whether a type can have a value there.
use Rattle.std.specs.Prelude.{◌≡◌, ◌+◌, ◌*◌, ◌≤◌, ℕ}
use Rattle.bit_space.specs.Reading.{MayRead}
use Rattle.bit_space.specs.SpaceView.{SpaceView, known_bits}
use Rattle.bit_space.specs.declared.order.Order.{Order}
use Rattle.pickle_meaning.specs.Means.{ordered}
use Rattle.first_numbers.specs.declared.number.First.{First as HeldFirst}
use Rattle.first_numbers.specs.Held.{numbers_shown}
use Rattle.first_numbers.specs.Layouts.{FirstNumber}
use Rattle.first_numbers.specs.Runs.{AllFail, Fails, judged}

-- all first numbers are in the file and fail, and the steps of the fault are at most so many
pub record IsMissed (held : HeldFirst) (space : SpaceView) (order : Order) (start allowed steps : ℕ) : Type 0 where
  pub few : steps ≤ allowed
  pub within : start + held.need ≤ 8 * space.len
  pub tests : ℕ
  pub fail : AllFail (known_bits space) order start (numbers_shown held.numbers.items) tests
  pub counts : steps ≡ held.base + tests

-- a number fails, in so many steps
pub record FailsSo (x : FirstNumber) (number steps : ℕ) : Type 0 where
  pub fails : Fails x number
  pub counts : steps ≡ (judged x number).steps

-- a number that may be read fails, in so many steps
pub record FailsIn (space : SpaceView) (order : Order) (start : ℕ) (x : FirstNumber) (steps : ℕ) : Type 0 where
  pub number : ℕ
  pub may : MayRead (known_bits space) (ordered x.order order) (start + x.place) x.numeral.number.width number
  pub fails : Fails x number
  pub counts : steps ≡ (judged x number).steps
