-- What a mapping stores within fewer steps, it also stores within more.
use Rattle.std.proofs.Common.{ℕ, zero, suc, ◌≤◌, List, Bool, arith}
use Rattle.pickle_meaning.specs.Numbers.{number_at}
use Rattle.value_store.specs.Moves.{State, moved, needed}
use Rattle.mapping_plans.specs.Plan.{Plan, Ended, Tick, Made, Read}
use Rattle.mapping_plans.specs.Kept.{KeepsBy}

pub keeps_less : {A : Type 0} (M N : State → Type 0) → ((state : State) → M state → N state)
    → (packs : Bool) (bits : List ℕ) (p : Plan A) (n k : ℕ) (state : State)
    → k ≤ n → KeepsBy M packs bits p n state → KeepsBy N packs bits p k state
keeps_less M N g packs bits (Ended a) n k state le h = tt
keeps_less M N g packs bits (Tick p) n zero state le h = tt
keeps_less M N g packs bits (Tick p) zero (suc k) state le h = absurd (omega arith)
keeps_less M N g packs bits (Tick p) (suc n) (suc k) state le h =
    keeps_less M N g packs bits p n k state (omega arith) h
keeps_less M N g packs bits (Made count move levels p) n k state le h =
    (g (needed packs move state) h.0, keeps_less M N g packs bits p n k (moved packs move state) le h.1)
keeps_less M N g packs bits (Read place width order rest) n k state le h =
    keeps_less M N g packs bits (rest (number_at bits order place width)) n k state le h
