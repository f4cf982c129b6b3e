use Rattle.std.proofs.Common.{◌≡◌, ◌≤◌, length, drop}
use Rattle.type_parts.specs.CanHave.{can_have, AreKnown}
use Rattle.type_parts.specs.Twice.{can_match_twice}
use Rattle.type_parts.proofs.can_have.Finder.twice.Given as goal

abbrev pub invariant-loop-at : goal.invariant-loop-at
invariant-loop-at l = record {
  within : l.at ≤ length l.steps;
  count : length l.known.items ≡ length l.self.nodes.now;
  can : AreKnown l.self.nodes.now l.known.items (can_have (drop l.at l.steps));
  twice : AreKnown l.self.nodes.now l.twice.items (can_match_twice (drop l.at l.steps));
}

abbrev pub decreases-loop-at : goal.decreases-loop-at
decreases-loop-at l = l.at
