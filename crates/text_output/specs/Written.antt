-- What a writer accepted of a text.
use Rattle.std.specs.Prelude.{◌≡◌, ◌<◌, ℕ, List, ◌++◌, length, Option}
use Rattle.std.specs.Io.KnownBytes.{Appends}

-- known bytes grow by the first bytes of a text, but not by all of them
pub record AppendsPart (old new : Option (List ℕ)) (text : List ℕ) : Type 0 where
  pub taken : List ℕ
  pub rest : List ℕ
  pub appends : Appends old new taken
  pub whole : taken ++ rest ≡ text
  pub more : 0 < length rest
