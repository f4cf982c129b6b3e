-- What is printed about a pickle that is refused.
use Rattle.std.specs.Prelude.{◌≡◌, ℕ, List, ◌++◌, codes}

-- that an accepted pickle has no type of the requested name, and what it has instead
pub record TellsNoType (text : List ℕ) : Type 0 where
  pub rest : List ℕ
  pub whole : text ≡ codes "  no type " ++ rest
