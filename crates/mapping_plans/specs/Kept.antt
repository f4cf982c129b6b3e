-- What a mapping stores on a file's bits.
use Rattle.std.specs.Prelude.{ℕ, zero, suc, List, Bool}
use Rattle.pickle_meaning.specs.Numbers.{number_at}
use Rattle.value_store.specs.Moves.{State, moved, needed}
use Rattle.mapping_plans.specs.Plan.{Plan, Ended, Tick, Made, Read}

-- on these bits, within `limit` steps: M holds of the most that each move needs on its way, in a store that packs
-- arrays or in one that doesn't, which was in this state before
abbrev pub KeepsBy : {A : Type 0} → (M : State → Type 0) → (packs : Bool) → List ℕ → Plan A →
    (limit : ℕ) → State → Type 0
KeepsBy M packs bits (Ended a) n state = Unit {0}
KeepsBy M packs bits (Tick p) zero state = Unit {0}
KeepsBy M packs bits (Tick p) (suc n) state = KeepsBy M packs bits p n state
KeepsBy M packs bits (Made count move levels p) n state =
    M (needed packs move state) × KeepsBy M packs bits p n (moved packs move state)
KeepsBy M packs bits (Read place width order rest) n state =
    KeepsBy M packs bits (rest (number_at bits order place width)) n state
