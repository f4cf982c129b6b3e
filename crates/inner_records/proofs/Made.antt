-- What the store of a list was made with.
use Rattle.std.specs.Prelude.{ℕ, Option, Some, None}
use Rattle.inner_records.specs.Stored.{IsMadeUnder}
use Rattle.poke_batch.specs.RunsUnder.{IsStoreUnder}
use Rattle.value_store.specs.Slots.{Held}

-- a store under terms was made for these
pub made_under : (slots bytes : Option ℕ) (store : Held) → IsStoreUnder slots bytes store →
    IsMadeUnder slots bytes store
made_under slots None store is = is
made_under slots (Some most) store is = is.room
