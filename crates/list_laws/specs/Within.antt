-- Lists within the outcomes of the types around them.
use Rattle.std.specs.Prelude.{◌≡◌, ℕ, ◌+◌, ◌-◌, ◌≤◌, max, length, true, List, [], ◌∷◌, Option, Some, None, Result, Ok, Err}
use Rattle.bit_space.specs.declared.order.Order.{Order}
use Rattle.pickle_types.specs.Types.{PokeType}
use Rattle.pickle_meaning.specs.Clauses.{FaultAt}
use Rattle.pickle_meaning.specs.Means.{Elements, Closing}
use Rattle.pickle_meaning.specs.Values.{Value, Levels, end_of, members_of, member_at, opened}
use Rattle.list_laws.specs.Meanings.{IsMeant}
use Rattle.list_laws.specs.Paths.{Path, is_last}
use Rattle.list_laws.specs.Reaches.{Listed, Reached, Found, Faulty, Lacking, Reaches}

abbrev pub member_of : Option Value → (place : ℕ) → Option Value
member_of None place = None
member_of (Some v) place = member_at (members_of v) place

-- the part at a path of a value, if both are there
abbrev pub along : Path → Option Value → Option Value
along [] found = found
along (place ∷ path) found = along path (member_of found place)

-- what the array of a list means from its first element on
pub record ListMeans (bits : List ℕ) (list : Listed) (r : Result Value FaultAt) (steps : ℕ) : Type 0 where
  pub inside : Levels
  pub count : ℕ
  pub last : ℕ
  pub taken : ℕ
  pub made : ℕ
  pub end_steps : ℕ
  pub end_made : ℕ
  pub elements : Elements bits list.element list.order list.start list.extent 0 (opened list.levels) list.start
      count inside last taken made
  pub closing : Closing bits list.element list.order list.start list.extent count inside last r end_steps end_made
  pub all : steps ≡ taken + end_steps

-- A list in the outcome of the type around it, of which its array takes at most so many steps. Its fault is that of the
-- type. In a value of the type it is the part at the path, and where it is the last field of each struct around it, the
-- value ends where the greatest end of it and of what is before it is.
pub record IsListOf (bits : List ℕ) (ty : PokeType) (path : Path) (top : ℕ) (list : Listed) (r : Result Value FaultAt)
    (most : ℕ) : Type 0 where
  pub own : Result Value FaultAt
  pub steps : ℕ
  pub means : ListMeans bits list own steps
  pub few : steps ≤ most
  pub fault : (f : FaultAt) → own ≡ Err f → r ≡ Err f
  pub value : (v : Value) → r ≡ Ok v →
      (w : Value) × (own ≡ Ok w) × (along path (Some v) ≡ Some w)
      × (is_last ty path ≡ true → max top (end_of v) ≡ max list.top (end_of w))

-- what is at a path, after so many steps, in the outcome of a type in all its steps
abbrev pub IsIn : (bits : List ℕ) → PokeType → Path → (top : ℕ) → Result Value FaultAt → (all : ℕ) → Reached →
    (steps : ℕ) → Type 0
IsIn bits ty path top r all (Found list) steps = (steps ≤ all) × IsListOf bits ty path top list r (all - steps)
IsIn bits ty path top r all (Faulty f) steps = (r ≡ Err f) × (steps ≡ all)
IsIn bits ty path top r all Lacking steps =
    (steps ≤ all) × ((v : Value) → r ≡ Ok v → along path (Some v) ≡ None)

-- a path leads there
pub record LeadsInto (bits : List ℕ) (ty : PokeType) (path : Path) (order : Order) (levels : Levels) (s top : ℕ)
    (r : Result Value FaultAt) (all : ℕ) : Type 0 where
  pub reached : Reached
  pub steps : ℕ
  pub reaches : Reaches (length bits) (IsMeant bits) ty path order levels s top reached steps
  pub is_in : IsIn bits ty path top r all reached steps
