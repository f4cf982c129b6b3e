use Rattle.std.proofs.Common.{◌≡◌, map, take}
use Rattle.type_parts.specs.CanHave.{goal_at}
use Rattle.type_parts.proofs.can_have.Finder.all.Given as goal

abbrev pub invariant-loop : goal.invariant-loop
invariant-loop l =
    l.known.items ≡ map (goal_at l.self.nodes.now (λ type. l.each)) (take l.index l.self.nodes.now)
