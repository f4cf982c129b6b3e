-- What mappings found of the types of a table.
use Rattle.std.specs.Prelude.{List, Option, Some, None}
use Rattle.pickle_types.specs.declared.node.Node.{Node}
use Rattle.pickle_types.specs.Bounds.{room, IsBound}
use Rattle.pickle_types.specs.Table.{type_of}
use Rattle.pickle_map.specs.declared.mapper.findings.Findings.{Findings}
use Rattle.pickle_map.specs.declared.mapper.findings.SlotBound.{SlotBound}
use Rattle.pickle_map.specs.Packings.{AreKept}

-- a bound that was computed is that of its type
abbrev pub IsComputed : List Node → Option SlotBound → Type 0
IsComputed nodes None = Unit {0}
IsComputed nodes (Some bound) = IsBound bound.slots (room (type_of nodes bound.at) bound.bits)

-- what was found is right
pub record AreFound (nodes : List Node) (findings : Findings) : Type 0 where
  pub packings : AreKept nodes findings.packings
  pub within : IsComputed nodes findings.within
  pub beyond : IsComputed nodes findings.beyond
