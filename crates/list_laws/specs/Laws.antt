-- The laws of lists inside types.
use Rattle.std.specs.Prelude.{◌≡◌, ◌↔◌, ℕ, ◌+◌, true, List, ◌∷◌, Option, Some, Result}
use Rattle.bit_space.specs.declared.order.Order.{Order}
use Rattle.pickle_tree.specs.Tree.{DeclarationTree}
use Rattle.pickle_types.specs.Names.{Names, predeclared, find_type}
use Rattle.pickle_types.specs.Types.{PokeType}
use Rattle.pickle_types.specs.WellTyped.{Declares}
use Rattle.pickle_meaning.specs.Clauses.{FaultAt}
use Rattle.pickle_meaning.specs.Means.{Means, Elements, Closing, array_value}
use Rattle.pickle_meaning.specs.Values.{Value, Levels, opened}
use Rattle.list_laws.specs.Paths.{Path, is_list}
use Rattle.list_laws.specs.Apart.{AreApart, EndsApart}
use Rattle.list_laws.specs.Meanings.{IsMeant}
use Rattle.list_laws.specs.Reaches.{Found, Listed, Reaches}
use Rattle.list_laws.specs.Within.{LeadsInto}
use Rattle.scope_laws.specs.Records.{all_present, array_made, array_or_fault}

-- where a type has an outcome, a path to a list leads to a part of that outcome
abbrev pub ListsAreWithin : Type 0
ListsAreWithin = (bits : List ℕ) (ty : PokeType) (path : Path) (order : Order) (levels : Levels) (s top : ℕ)
    (r : Result Value FaultAt) (k j : ℕ) →
    is_list ty path ≡ true → Means bits ty order levels s r k j → LeadsInto bits ty path order levels s top r k

-- the elements of a list in its array are those that are mapped each beside an empty frame
abbrev pub MeansApart : (bits : List ℕ) → Listed → Type 0
MeansApart bits list =
    (inside : Levels) (n pn k j : ℕ) →
    (Elements bits list.element list.order list.start list.extent 0 (opened list.levels) list.start n inside pn k j
    ↔ ((values : List Value) × (inside ≡ all_present values ∷ list.levels)
    × AreApart bits list 0 list.start values n pn k j))

-- and the array ends as they do, whatever its frame has; only the array itself is one more value made
abbrev pub EndsAlike : (bits : List ℕ) → Listed → Type 0
EndsAlike bits list =
    (before : List (Option Value)) (n pn k j : ℕ) (r : Result Value FaultAt) →
    (Closing bits list.element list.order list.start list.extent n (before ∷ list.levels) pn r k j
    ↔ ((end : Option FaultAt) × (made : ℕ)
    × (r ≡ array_or_fault (array_value list.start pn (before ∷ list.levels)) end)
    × (j ≡ made + array_made end) × EndsApart bits list n pn end k made))

-- that holds of each list to which a path leads from a type that has a name in a pickle
abbrev pub ElementsAreApart : Type 0
ElementsAreApart = (declarations : List DeclarationTree) (names : Names) (word : List ℕ) (ty : PokeType)
    (m : ℕ) (known : List ℕ) (path : Path) (order : Order) (levels : Levels) (s top steps : ℕ) (list : Listed)
    (bits : List ℕ) →
    Declares predeclared declarations names → find_type word names ≡ Some ty →
    Reaches m (IsMeant known) ty path order levels s top (Found list) steps →
    MeansApart bits list × EndsAlike bits list
