use Rattle.std.proofs.Common.{◌≡◌, length}
use Rattle.pickle_types.specs.TypeTable.{nodes_of, roots_of}
use Rattle.text_bounds.specs.TextHeld.{AreKnownSizes}
use Rattle.text_bounds.proofs.nodes.type_size.Given as goal

abbrev pub invariant-loop-root : goal.invariant-loop-root
invariant-loop-root l = record {
  known : AreKnownSizes (nodes_of l.table) (roots_of l.table) l.known.items l.form l.bits;
  count : length l.known.items ≡ l.root-index;
}
