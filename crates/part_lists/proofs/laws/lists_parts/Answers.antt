use Rattle.part_lists.proofs.ListsLaw.{lists_parts}
use Rattle.part_lists.proofs.laws.lists_parts.Goals as goal

-- src/laws.rt
pub returns : goal.returns
returns c = record { law = lists_parts }
