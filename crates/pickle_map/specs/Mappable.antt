-- The fields of a table's types, as a mapping may use them.
use Rattle.std.specs.Prelude.{ℕ, ◌+◌, ◌<◌, ◌≤◌, length, List}
use Rattle.pickle_types.specs.declared.node.Field.{Field}
use Rattle.pickle_types.specs.declared.node.Part.{Part}
use Rattle.pickle_types.specs.declared.node.Node.{Node}
use Rattle.pickle_types.specs.Types.{depth}
use Rattle.pickle_types.specs.Table.{type_of, IsSoundField, IsSoundPart}

-- a field of a type in a table, where so many frames are open
pub record IsFieldOf (nodes : List Node) (levels : ℕ) (f : Field) : Type 0 where
  pub inside : f.node < length nodes
  pub deep : levels + depth (type_of nodes f.node) ≤ 65
  pub sound : IsSoundField f

pub record IsPartOf (nodes : List Node) (levels : ℕ) (p : Part) : Type 0 where
  pub inside : p.node < length nodes
  pub deep : levels + depth (type_of nodes p.node) ≤ 65
  pub sound : IsSoundPart p
