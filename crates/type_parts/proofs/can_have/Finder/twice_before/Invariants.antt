use Rattle.std.proofs.Common.{◌≡◌, Bool, map, take}
use Rattle.pickle_types.specs.Types.{PokeType}
use Rattle.type_parts.specs.CanHave.{goal_at, AreKnown}
use Rattle.type_parts.specs.Twice.{two_parts}
use Rattle.type_parts.proofs.can_have.Finder.twice_before.Given as goal

abbrev pub invariant-loop-node : goal.invariant-loop-node
invariant-loop-node l = (goal two : PokeType → Bool) → AreKnown l.self.nodes.now l.fn.known goal →
    AreKnown l.self.nodes.now l.fn.twice two →
    l.all.items ≡ map (goal_at l.self.nodes.now (two_parts l.step goal two)) (take l.node-index l.self.nodes.now)
