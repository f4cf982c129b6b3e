-- A pickle without its place in memory.
use Rattle.std.specs.Prelude.{List, map}
use Rattle.pickle_tree.specs.declared.tree.Pickle.{Pickle}
use Rattle.pickle_tree.specs.Tree.{DeclarationTree, declaration_tree}

-- a pickle: its declarations in order
abbrev pub pickle_tree : Pickle → List DeclarationTree
pickle_tree p = map declaration_tree p.declarations.items
