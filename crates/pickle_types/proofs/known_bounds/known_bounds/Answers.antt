use Rattle.std.proofs.Common.{rules, ◌≡◌, length, get_or, Some, subst, arith}
use Rattle.std.specs.Prelude.{slice_get}
use Rattle.std.proofs.lemmas.Option.{slice_get-get_or}
use Rattle.pickle_types.specs.Holds.{AreKnown}
use Rattle.pickle_types.proofs.Bounded.{known_more}
use Rattle.pickle_types.proofs.known_bounds.known_bounds.Goals as goal

pub loop-root-preserved : goal.loop-root-preserved
loop-root-preserved c =
    let at : slice_get c.args.roots.now c.loop-root.root-index
    ≡ Some (get_or c.args.roots.now c.loop-root.root-index 0) =
    slice_get-get_or c.args.roots.now c.loop-root.root-index 0 (omega arith) in
    let here : slice_get c.args.roots.now (length c.loop-root.known.items)
    ≡ Some (get_or c.args.roots.now c.loop-root.root-index 0) = rw c.loop-root.invariant.count at in
    let more = known_more c.args.nodes.now c.args.roots.now c.loop-root.known.items c.args.bits _ _
    c.loop-root.invariant.known here c.shape_bounds-bounds.ensures in
    record {
      known = subst (λ ks. AreKnown c.args.nodes.now c.args.roots.now ks c.args.bits) (search rules) more;
      count = search rules;
    }
