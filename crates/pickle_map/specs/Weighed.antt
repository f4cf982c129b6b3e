-- What the values of a mapping weigh on a file's bits.
use Rattle.std.specs.Prelude.{ℕ, zero, suc, List, Bool}
use Rattle.pickle_meaning.specs.Numbers.{number_at}
use Rattle.mapping_plans.specs.Plan.{Plan, Ended, Tick, Made, Read}
use Rattle.pickle_map.specs.Follows.{AddsWeight}
use Rattle.value_store.specs.Moves.{State, moved}
use Rattle.value_store.specs.Weights.{weight}

-- on these bits, within `limit` steps: M holds of the weight, in bytes, of what each move leaves that adds to it, in a
-- store that packs arrays or in one that doesn't, which was in this state before
abbrev pub WeighsBy : {A : Type 0} → (M : (weight : ℕ) → Type 0) → (packs : Bool) → List ℕ → Plan A →
    (limit : ℕ) → State → Type 0
WeighsBy M packs bits (Ended a) n state = Unit {0}
WeighsBy M packs bits (Tick p) zero state = Unit {0}
WeighsBy M packs bits (Tick p) (suc n) state = WeighsBy M packs bits p n state
WeighsBy M packs bits (Made count move levels p) n state =
    (AddsWeight move state (moved packs move state) → M (weight (moved packs move state).now))
    × WeighsBy M packs bits p n (moved packs move state)
WeighsBy M packs bits (Read place width order rest) n state =
    WeighsBy M packs bits (rest (number_at bits order place width)) n state
