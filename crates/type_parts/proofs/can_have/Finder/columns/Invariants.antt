use Rattle.std.proofs.Common.{◌≤◌, length, drop}
use Rattle.type_parts.specs.CanHave.{can_have_columns, AreKnown}
use Rattle.type_parts.proofs.can_have.Finder.columns.Given as goal

abbrev pub invariant-loop-at : goal.invariant-loop-at
invariant-loop-at l = (l.at ≤ length l.columns)
    × AreKnown l.self.nodes.now l.all.items (can_have_columns l.row (drop l.at l.columns))

abbrev pub decreases-loop-at : goal.decreases-loop-at
decreases-loop-at l = l.at
