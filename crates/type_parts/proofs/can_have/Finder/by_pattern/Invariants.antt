use Rattle.std.proofs.Common.{◌≡◌, ◌≤◌, Bool, length, drop}
use Rattle.pickle_types.specs.Types.{PokeType}
use Rattle.type_parts.specs.CanHave.{by_pattern, AreKnown}
use Rattle.type_parts.proofs.can_have.Finder.by_pattern.Given as goal

abbrev pub invariant-loop-at : goal.invariant-loop-at
invariant-loop-at l = (l.at ≤ length l.steps)
    × (length l.known.items ≡ length l.self.nodes.now)
    × ((goal : PokeType → Bool) → AreKnown l.self.nodes.now l.fn.known.items goal →
    AreKnown l.self.nodes.now l.known.items (by_pattern (drop l.at l.steps) goal))

abbrev pub decreases-loop-at : goal.decreases-loop-at
decreases-loop-at l = l.at
