-- The laws of the part in which a fault arises.
use Rattle.std.specs.Prelude.{◌≡◌, ℕ, List, Err}
use Rattle.bit_space.specs.declared.order.Order.{Order}
use Rattle.pickle_types.specs.Types.{PokeType}
use Rattle.pickle_meaning.specs.Values.{Levels}
use Rattle.pickle_meaning.specs.Clauses.{FaultAt}
use Rattle.pickle_meaning.specs.Means.{Means}
use Rattle.fault_parts.specs.Somehow.{Somehow}
use Rattle.fault_parts.specs.Arises.{Path, Arises}

-- the fault arises in a part
pub record ArisesSomewhere (bits : List ℕ) (ty : PokeType) (order : Order) (levels : Levels) (s : ℕ)
    (f : FaultAt) : Type 0 where
  pub path : Path
  pub arises : Arises bits ty order levels s f path

-- each fault that a type means arises in a part of it, or in itself
abbrev pub FaultsArise : Type 0
FaultsArise = (bits : List ℕ) (ty : PokeType) (order : Order) (levels : Levels) (s : ℕ) (f : FaultAt) (k j : ℕ) →
    Means bits ty order levels s (Err f) k j → ArisesSomewhere bits ty order levels s f

-- a fault that arises in a type, or in a part of it, is the one that the type means, in some steps and with some values
-- made
abbrev pub ArisingIsMeant : Type 0
ArisingIsMeant = (bits : List ℕ) (ty : PokeType) (order : Order) (levels : Levels) (s : ℕ) (f : FaultAt) (path : Path) →
    Arises bits ty order levels s f path → Somehow (Means bits ty order levels s (Err f))

-- it arises in only one part
abbrev pub ArisesOnce : Type 0
ArisesOnce =
    (bits : List ℕ) (ty : PokeType) (order : Order) (levels : Levels) (s : ℕ) (f f' : FaultAt) (path path' : Path) →
    Arises bits ty order levels s f path → Arises bits ty order levels s f' path' → (f ≡ f') × (path ≡ path')
