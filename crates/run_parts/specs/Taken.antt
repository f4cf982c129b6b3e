-- What the read of a pickle consumes of a reader.
use Rattle.std.specs.Prelude.{◌≡◌, ◌≤◌, ℕ, List, take, drop, length, Option, None, Some}
use Rattle.std.specs.Io.KnownBytes.{Consumes}

-- known bytes lose some first bytes, at most so many
pub record ConsumesUpTo (count : ℕ) (old new : Option (List ℕ)) : Type 0 where
  pub taken : List ℕ
  pub consumes : Consumes old new taken
  pub few : length taken ≤ count

-- these are the first `count` of the known bytes, or all if there are fewer, and the reader has the remainder
abbrev pub GivesFirst : ℕ → Option (List ℕ) → Option (List ℕ) → List ℕ → Type 0
GivesFirst count None new given = length given ≤ count
GivesFirst count (Some bytes) new given = (given ≡ take count bytes) × (new ≡ Some (drop count bytes))
