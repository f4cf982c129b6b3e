use Rattle.std.proofs.Common.{◌≡◌, ◌&&◌, Bool, map, take}
use Rattle.pickle_types.specs.Types.{PokeType}
use Rattle.type_parts.specs.CanHave.{goal_at, AreKnown}
use Rattle.type_parts.proofs.can_have.Finder.both.Given as goal

abbrev pub invariant-loop-at : goal.invariant-loop-at
invariant-loop-at l = (one other : PokeType → Bool) → AreKnown l.self.nodes.now l.fn.first.items one →
    AreKnown l.self.nodes.now l.fn.second.items other →
    l.all.items ≡ map (goal_at l.self.nodes.now (λ type. one type && other type)) (take l.at l.self.nodes.now)
