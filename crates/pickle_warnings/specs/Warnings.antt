-- What is printed about an accepted pickle.
use Rattle.std.specs.Prelude.{ℕ, List, [], ◌++◌}
use Rattle.pickle_tree.specs.Tree.{DeclarationTree}
use Rattle.pickle_types.specs.Names.{Names}
use Rattle.pickle_source.specs.Places.{TellsPlace, called_by}
use Rattle.run_parts.specs.Accepted.{IsAccepted}

-- a text is that of notes: each begins with a place inside the pickle
pub data AreNotes (pickle called : List ℕ) : List ℕ → Type 0 where
  none : AreNotes pickle called []
  more : {text note : List ℕ} → AreNotes pickle called text → TellsPlace pickle called note →
      AreNotes pickle called (text ++ note)

-- what is printed about what a pickle can't mean: notes about an accepted pickle, and nothing about another
pub data WarnsOf (pickle path : List ℕ) : List ℕ → Type 0 where
  silent : WarnsOf pickle path []
  warns : {declarations : List DeclarationTree} {types : Names} {text : List ℕ} → IsAccepted pickle declarations types
      → AreNotes pickle (called_by path) text → WarnsOf pickle path text
