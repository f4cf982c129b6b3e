use Rattle.std.proofs.Common.{◌≡◌, length}
use Rattle.pickle_types.specs.Holds.{AreKnown}
use Rattle.pickle_types.proofs.known_bounds.known_bounds.Given as goal

abbrev pub invariant-loop-root : goal.invariant-loop-root
invariant-loop-root l = record {
  known : AreKnown l.nodes l.roots l.known.items l.bits;
  count : length l.known.items ≡ l.root-index;
}
