use Rattle.std.proofs.Common.{◌≡◌, Bool, length, map, take}
use Rattle.pickle_types.specs.Types.{PokeType}
use Rattle.type_parts.specs.CanHave.{of_hop, some_part, goal_at, AreKnown}
use Rattle.type_parts.proofs.can_have.Finder.one_before.Given as goal

abbrev pub invariant-loop-node : goal.invariant-loop-node
invariant-loop-node l =
    (length l.all.items ≡ l.node-index) × ((goal : PokeType → Bool) → AreKnown l.self.nodes.now l.fn.known.items goal →
    l.all.items ≡ map (goal_at l.self.nodes.now (some_part (of_hop l.hop) goal)) (take l.node-index l.self.nodes.now))
