-- The laws of what a type sees.
use Rattle.std.specs.Prelude.{◌≡◌, ◌↔◌, ℕ, ◌+◌, ◌≤◌, length, List, ◌∷◌, Option, Some, None, Result}
use Rattle.bit_space.specs.declared.order.Order.{Order}
use Rattle.pickle_tree.specs.Tree.{Tree, FormTree, DeclarationTree}
use Rattle.pickle_types.specs.Types.{Term, Unbounded, PokeType, ArrayOf}
use Rattle.pickle_types.specs.Scopes.{Visible}
use Rattle.pickle_types.specs.Names.{Names, predeclared, find_type}
use Rattle.pickle_types.specs.Expressions.{Sort}
use Rattle.pickle_types.specs.WellTyped.{HasSort, Declares}
use Rattle.pickle_types.specs.WellTyped as rules
use Rattle.pickle_meaning.specs.declared.extent.Extent.TheVariants.{Open}
use Rattle.pickle_meaning.specs.Values.{Value, Levels, opened}
use Rattle.pickle_meaning.specs.Clauses.{FaultAt}
use Rattle.pickle_meaning.specs.Evaluation.{evaluation}
use Rattle.pickle_meaning.specs.Means.{Means, Elements, Closing, array_value}
use Rattle.scope_laws.specs.Agreement.{LevelsAgree}
use Rattle.scope_laws.specs.Arrays.{MeansAlike, ArraysSeeNone}
use Rattle.scope_laws.specs.Records.{AreRecords, RecordsEnd, IsOfRecords, all_present, array_or_fault, array_made}

-- an expression has the same value or fault, in the same steps, where the frames agree on what it sees
abbrev pub ExpressionsAreLocal : Type 0
ExpressionsAreLocal =
    (names : Names) (seen : List Visible) (count : ℕ) (tree : Tree) (e : Term) (s : Sort) (levels levels' : Levels) →
    HasSort names seen count tree e s → LevelsAgree seen count levels levels' →
    evaluation e levels ≡ evaluation e levels'

-- a type that a form means among the names of a pickle means the same where the frames agree on what the form sees
abbrev pub TypesAreLocal : Type 0
TypesAreLocal = (declarations : List DeclarationTree) (names : Names) (seen : List Visible) (count : ℕ)
    (title : Option (List ℕ)) (form : FormTree) (ty : PokeType) (levels levels' : Levels) →
    Declares predeclared declarations names → rules.Means names seen count title form ty →
    LevelsAgree seen count levels levels' → MeansAlike ty levels levels'

-- a type that has a name in a pickle means the same beside all frames
abbrev pub DeclaredTypesAreClosed : Type 0
DeclaredTypesAreClosed = (declarations : List DeclarationTree) (names : Names) (word : List ℕ) (ty : PokeType)
    (levels levels' : Levels) →
    Declares predeclared declarations names → find_type word names ≡ Some ty → MeansAlike ty levels levels'

-- An element is one frame further inside than its array. That frame, which has the elements before it, may have
-- anything, where the frames around the array agree on what the array sees.
abbrev pub ElementsAreLocal : Type 0
ElementsAreLocal = (declarations : List DeclarationTree) (names : Names) (seen : List Visible) (count : ℕ)
    (form : FormTree) (ty : PokeType) (levels levels' : Levels) (before before' : List (Option Value)) →
    Declares predeclared declarations names → rules.Means names seen (count + 1) None form ty →
    LevelsAgree seen count levels levels' → MeansAlike ty (before ∷ levels) (before' ∷ levels')

-- in each array of a type that has a name in a pickle, no element sees the elements before it
abbrev pub ArraysAreUnseen : Type 0
ArraysAreUnseen = (declarations : List DeclarationTree) (names : Names) (word : List ℕ) (ty : PokeType) →
    Declares predeclared declarations names → find_type word names ≡ Some ty → ArraysSeeNone ty

-- The elements of an array without a bound are records, whatever is around the array: those that its frame then has.
-- And all records from a bit on are the elements of such an array there.
abbrev pub RecordsAreElements : Type 0
RecordsAreElements = (declarations : List DeclarationTree) (names : Names) (word : List ℕ) (ty : PokeType)
    (bits : List ℕ) (order : Order) (levels inside : Levels) (s n pn k j : ℕ) →
    Declares predeclared declarations names → find_type word names ≡ Some ty →
    (Elements bits ty order s Open 0 (opened levels) s n inside pn k j
    ↔ ((values : List Value) × (n ≡ length values) × (inside ≡ all_present values ∷ levels)
    × AreRecords bits ty order s values pn k j))

-- Such an array ends as the records do, whatever its frame has; only the array itself is one more value made.
abbrev pub RecordsEndAsArrays : Type 0
RecordsEndAsArrays = (declarations : List DeclarationTree) (names : Names) (word : List ℕ) (ty : PokeType)
    (bits : List ℕ) (order : Order) (inside : Levels) (s n pn k j : ℕ) (r : Result Value FaultAt) →
    Declares predeclared declarations names → find_type word names ≡ Some ty →
    (Closing bits ty order s Open n inside pn r k j
    ↔ ((end : Option FaultAt) × (made : ℕ) × (r ≡ array_or_fault (array_value s pn inside) end)
    × (j ≡ made + array_made end) × RecordsEnd bits ty order pn end k made))

-- such an array means all its records, and how they end, whatever is around it
abbrev pub RecordsAreAnArray : Type 0
RecordsAreAnArray = (declarations : List DeclarationTree) (names : Names) (word : List ℕ) (ty : PokeType)
    (bits : List ℕ) (order : Order) (levels : Levels) (s k j : ℕ) (r : Result Value FaultAt) →
    Declares predeclared declarations names → find_type word names ≡ Some ty → s ≤ length bits →
    (Means bits (ArrayOf ty Unbounded) order levels s r k j ↔ IsOfRecords bits ty order s r k j)
