-- What is stored from one file to the next.
use Rattle.std.specs.Prelude.{ℕ, List, Option}
use Rattle.pickle_types.specs.declared.node.Node.{Node}
use Rattle.pickle_map.specs.Findings.{AreFound}
use Rattle.poke_batch.specs.RunsUnder.{IsStoreOf}
use Rattle.poke_batch.specs.declared.each.Kept.{Kept}

-- it serves mappings by the nodes of a table, with so many slots at most: its store is of these, and what was found of
-- the table's types is right
pub record IsReady (nodes : List Node) (most : Option ℕ) (kept : Kept) : Type 0 where
  pub store : IsStoreOf most kept.store
  pub found : AreFound nodes kept.findings
