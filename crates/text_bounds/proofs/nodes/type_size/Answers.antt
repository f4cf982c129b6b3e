use Rattle.std.proofs.Common.{rules, ◌≡◌, length, get_or, Some, subst, sym, arith}
use Rattle.std.specs.Prelude.{slice_get}
use Rattle.std.proofs.lemmas.Option.{slice_get-get_or}
use Rattle.pickle_types.specs.TypeTable.{nodes_of, roots_of}
use Rattle.text_bounds.specs.TextHeld.{AreKnownSizes}
use Rattle.text_bounds.proofs.TextNodes.{known_more}
use Rattle.text_bounds.proofs.nodes.type_size.Goals as goal

pub loop-root-preserved : goal.loop-root-preserved
loop-root-preserved c =
    let table = c.args.table.now in
    let index = c.loop-root.root-index in
    let roots = c.roots-roots.result.now in
    let at : slice_get roots index ≡ Some (get_or roots index 0) = slice_get-get_or roots index 0 (omega arith) in
    let here : slice_get (roots_of table) (length c.loop-root.known.items) ≡ Some (get_or roots index 0) =
    rw (c.loop-root.invariant.count, sym c.roots-roots.ensures) at in
    let more = known_more c.args.form (nodes_of table) (roots_of table) c.loop-root.known.items c.args.bits _ _
    c.loop-root.invariant.known here c.known_size-size.ensures in
    record {
      known =
          subst (λ ks. AreKnownSizes (nodes_of table) (roots_of table) ks c.args.form c.args.bits) (search rules) more;
      count = search rules;
    }
