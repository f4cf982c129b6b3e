-- The laws of the type rules and the meaning of a mapping.
use Rattle.std.specs.Prelude.{◌≡◌, ℕ, ◌-◌, List, [], Option, Some, Ok, Err, slice_get}
use Rattle.bit_space.specs.declared.order.Order.{Order}
use Rattle.pickle_tree.specs.Tree.{Tree, Called, FormTree, Plain, DeclarationTree}
use Rattle.pickle_types.specs.declared.integer.IntegerType.{IntegerType}
use Rattle.pickle_types.specs.declared.table.Table.{Table}
use Rattle.pickle_types.specs.declared.table.TypeId.{TypeId}
use Rattle.pickle_types.specs.Types.{PokeType, IntegerOf, OffsetOf}
use Rattle.pickle_types.specs.Scopes.{Visible, resolve}
use Rattle.pickle_types.specs.Names.{Names, predeclared, find_type}
use Rattle.pickle_types.specs.Expressions.{Sort, Typed}
use Rattle.pickle_types.specs.WellTyped.{HasSort, Declares}
use Rattle.pickle_types.specs.WellTyped as rules
use Rattle.pickle_types.specs.TypeTable.{types_of, type_named, IsTypeFound}
use Rattle.pickle_meaning.specs.declared.faults.MapFaultKind.{MapFaultKind}
use Rattle.pickle_meaning.specs.Values.{Value, Levels, level_at, no_values}
use Rattle.pickle_meaning.specs.Evaluation.{evaluation}
use Rattle.pickle_meaning.specs.Clauses.{FaultAt}
use Rattle.pickle_meaning.specs.Means.{Means}
use Rattle.pickle_meaning.specs.Fits.{Fits}
use Rattle.pickle_map.specs.Mapped.{FaultMeans}
use Rattle.type_soundness.specs.Sorts.{IsOfType, LevelsFit}
use Rattle.type_soundness.specs.Laws.{IsSafe}
use Rattle.type_soundness.specs.Evaluated.{Scope, field_named, Purpose, Truth, Start, Count, Size, Evaluated, Evaluates}
use Rattle.type_soundness.specs.Yielded.{IsYielded, IsToldFault}

-- a value that any type means is of the type
abbrev pub ValuesAreOfTheirTypes : Type 0
ValuesAreOfTheirTypes = (t : PokeType) (bits : List ℕ) (order : Order) (levels : Levels) (s : ℕ) (v : Value) (k j : ℕ) →
    Means bits t order levels s (Ok v) k j → IsOfType t v

-- a value that fits a type is of the type, whatever was read
abbrev pub FittingValuesAreOfTheirTypes : Type 0
FittingValuesAreOfTheirTypes =
    (t : PokeType) (m : ℕ) (levels : Levels) (s : ℕ) (v : Value) → Fits m t levels s v → IsOfType t v

-- a type that a form of a well typed pickle means, where these fields are visible and so many frames are open
pub record Stands (seen : List Visible) (count : ℕ) (t : PokeType) : Type 0 where
  pub declarations : List DeclarationTree
  pub names : Names
  pub declared : Declares predeclared declarations names
  pub title : Option (List ℕ)
  pub form : FormTree
  pub means : rules.Means names seen count title form t

-- The frames hold what is visible, and each name means the innermost field of that name: the member at the frame and
-- the place that the rules give the name is that field's.
pub record ScopeFits (scope : Scope) (seen : List Visible) (count : ℕ) (levels : Levels) : Type 0 where
  pub fit : LevelsFit seen count levels
  pub named : (word : List ℕ) (v : Visible) → resolve word seen ≡ Some v →
      slice_get (level_at levels (count - 1 - v.level)) v.place ≡ field_named word scope

-- the sorts that serve a purpose
pub data Serves : Purpose → Sort → Type 0 where
  truth : {w : IntegerType} → Serves Truth (Typed (IntegerOf w))
  start : {w : IntegerType} {unit : ℕ} → Serves Start (Typed (OffsetOf w unit))
  count : {w : IntegerType} → Serves Count (Typed (IntegerOf w))
  size : {w : IntegerType} {unit : ℕ} → Serves Size (Typed (OffsetOf w unit))

-- An expression that is written in the pickle, and has by the rules a sort that serves its purpose, over frames that
-- hold what it sees. Its evaluation is safe.
pub record IsSafelyEvaluated (a : Evaluated) : Type 0 where
  pub names : Names
  pub seen : List Visible
  pub count : ℕ
  pub tree : Tree
  pub written : a.written ≡ Some tree
  pub sort : Sort
  pub typed : HasSort names seen count tree a.expression sort
  pub serves : Serves a.purpose sort
  pub fits : ScopeFits a.scope seen count a.levels
  pub safe : IsSafe a.levels a.expression sort (evaluation a.expression a.levels)

-- each expression that a mapping of a type evaluates is safely evaluated
abbrev pub MappingsAreSafe : Type 0
MappingsAreSafe = (seen : List Visible) (count : ℕ) (t : PokeType) (bits : List ℕ) (order : Order) (scope : Scope)
    (levels : Levels) (s : ℕ) (a : Evaluated) →
    (h : Stands seen count t) → ScopeFits scope seen count levels →
    Evaluates h.declarations bits h.form t order scope levels s a → IsSafelyEvaluated a

-- the fault that a type means is given by no fallback
abbrev pub FaultsAreYielded : Type 0
FaultsAreYielded = (seen : List Visible) (count : ℕ) (t : PokeType) (bits : List ℕ) (order : Order) (scope : Scope)
    (levels : Levels) (s : ℕ) (f : FaultAt) (k j : ℕ) →
    (h : Stands seen count t) → ScopeFits scope seen count levels → Means bits t order levels s (Err f) k j →
    IsYielded (Evaluates h.declarations bits h.form t order scope levels s) f

-- a type that was found by its name in a table, which holds the types that the declarations of a pickle declare
pub record IsFound (table : Table) (id : TypeId) : Type 0 where
  pub declarations : List DeclarationTree
  pub declared : Declares predeclared declarations (types_of table)
  pub word : List ℕ
  pub found : IsTypeFound table (Some id) (find_type word (types_of table))

-- the fault that `map` returns is given by no fallback
abbrev pub FaultsOfMapAreYielded : Type 0
FaultsOfMapAreYielded =
    (table : Table) (id : TypeId) (bits : List ℕ) (order : Order) (s limit : ℕ) (kind : MapFaultKind) (at k j : ℕ) →
    (h : IsFound table id) → FaultMeans bits (type_named table id) order s limit kind at k j →
    IsToldFault (Evaluates h.declarations bits (Plain (Called h.word)) (type_named table id) order [] no_values s) kind
    at
