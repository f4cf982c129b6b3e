-- The types in a table.
use Rattle.std.specs.Prelude.{◌≡◌, ℕ, ◌<◌, length, List, Option, Some, None, slice_get, All}
use Rattle.pickle_tree.specs.Tree.{DeclarationTree}
use Rattle.pickle_types.specs.declared.names.Named.{Named}
use Rattle.pickle_types.specs.declared.node.Node.{Node}
use Rattle.pickle_types.specs.declared.table.Table.{Table}
use Rattle.pickle_types.specs.declared.table.TypeId.{TypeId}
use Rattle.pickle_types.specs.Types.{PokeType}
use Rattle.pickle_types.specs.Table.{type_of}
use Rattle.pickle_types.specs.Names.{Names, predeclared}
use Rattle.pickle_types.specs.WellTyped.{Declares}
use Rattle.pickle_types.specs.Built.{listed_of}
use Rattle.pickle_types.specs.DeclaredNodes.{IsDeclaredNode}

abbrev pub nodes_of : Table → List Node
nodes_of t = t.nodes.items

-- the nodes of the declared types; a declaration whose type has a node already adds none
abbrev pub roots_of : Table → List ℕ
roots_of t = t.roots.items

-- the predeclared and the declared types, each with its name
abbrev pub types_of : Table → Names
types_of t = listed_of t.nodes.items t.names

-- how many types are declared
abbrev pub count_of : Table → ℕ
count_of t = t.declared

-- the type that a table has under an id
abbrev pub type_named : Table → TypeId → PokeType
type_named t id = type_of t.nodes.items id.node

-- the id is one of this table
abbrev pub IsInTable : Table → TypeId → Type 0
IsInTable t id = id.node < length t.nodes.items

-- the result is the type of that name, if there is one
abbrev pub IsTypeFound : Table → Option TypeId → Option PokeType → Type 0
IsTypeFound t None found = found ≡ None
IsTypeFound t (Some id) found = found ≡ Some (type_named t id)

-- the declarations are well typed after the predeclared types
abbrev pub IsWellTyped : List DeclarationTree → Type 0
IsWellTyped ds = (types : Names) × Declares predeclared ds types

-- the 18 predeclared names, which come first, have the nodes of their places, and each declared name has the node of
-- its declaration; so the node of `char` is that of what is declared as `char`, and of nothing else
pub record HasDeclaredNodes (t : Table) (ds : List DeclarationTree) : Type 0 where
  pub predeclared : (k : ℕ) (named : Named) → k < 18 → slice_get t.names k ≡ Some named → named.declared.node ≡ k
  pub declared : All (IsDeclaredNode t.nodes.items t.names) ds
