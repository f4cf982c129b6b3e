-- How much a mapping writes to standard output.
use Rattle.std.specs.Prelude.{◌≤◌, ◌*◌, ◌⊎◌, ℕ, List, Option, length}
use Rattle.std.specs.Io.KnownBytes.{Appends, Keeps}
use Rattle.pickle_types.specs.Types.{PokeType}
use Rattle.command_line.specs.declared.ask.Ask.{Ask}
use Rattle.text_output.specs.declared.style.Style.{Style}
use Rattle.poke_batch.specs.Runs.{IsAsked}
use Rattle.text_bounds.specs.TextRoom.{most_text}

-- known bytes grow by at most so many
pub record GrowsWithin (old new : Option (List ℕ)) (most : ℕ) : Type 0 where
  pub taken : List ℕ
  pub appends : Appends old new taken
  pub few : length taken ≤ most

-- nothing is written, or at most as many bytes as a printed value of the requested type can have in a style over so
-- many bytes
abbrev pub OutputIsBounded : (pickle : List ℕ) → Ask → Style → (len : ℕ) → (out out' : Option (List ℕ)) → Type 0
OutputIsBounded pickle ask style len out out' =
    Keeps out out' ⊎ ((type : PokeType) × IsAsked pickle ask.name.now type
    × GrowsWithin out out' (most_text style ask.mode type (8 * len)))
