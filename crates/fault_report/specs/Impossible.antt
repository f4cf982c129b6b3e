-- What is said of a requested part that no value of a type has.
use Rattle.std.specs.Prelude.{◌≡◌, ℕ, List, [], ◌++◌, codes}

-- the path of the steps to it, and what values have instead; or nothing
pub data TellsImpossible (text : List ℕ) : Type 0 where
  no_impossible : text ≡ [] → TellsImpossible text
  tells_impossible : (path instead : List ℕ)
      → text ≡ codes "  no value of the type has " ++ path ++ instead ++ codes "\n"
      → TellsImpossible text
