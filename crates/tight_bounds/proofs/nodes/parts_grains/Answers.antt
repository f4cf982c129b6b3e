use Rattle.std.proofs.Common.{◌≡◌, ◌+◌, ◌-◌, drop, length, subst, sym, arith}
use Rattle.pickle_types.specs.Table.{type_of, open_parts}
use Rattle.tight_bounds.specs.Held.{ArePartGrains}
use Rattle.tight_bounds.proofs.Known.{known_at, part_known, no_parts_left, one_part_more}
use Rattle.tight_bounds.proofs.nodes.parts_grains.Goals as goal

pub loop-at-init : goal.loop-at-init
loop-at-init c = record {
  within = omega arith;
  so_far = λ nodes are.
      no_parts_left (type_of nodes) (λ xs. ArePartGrains c.no_parts-all.result xs c.args.bits) c.args.parts.now
      (c.no_parts-all.ensures c.args.bits);
}

pub loop-at-preserved : goal.loop-at-preserved
loop-at-preserved c =
    let m = c.args.bits in
    let known = c.args.known.now in
    let at : c.loop-at.at - 1 + 1 ≡ c.loop-at.at = omega arith in
    let found = c.index-parts-at.result in
    let known_there =
    part_known (length known) c.args.parts.now (c.loop-at.at - 1) found c.requires (omega arith) c.index-parts-at.is in
    record {
      within = omega arith;
      so_far = λ nodes are. one_part_more (type_of nodes) (λ xs. ArePartGrains c.part_and_rest-all.result xs m)
          c.args.parts.now (c.loop-at.at - 1) found (omega arith) c.index-parts-at.is
          (c.part_and_rest-all.ensures _ _ (known_at nodes known m found.node _ are known_there)
          (subst (λ i. ArePartGrains c.loop-at.all (open_parts (type_of nodes) (drop i c.args.parts.now)) m)
          (sym at) (c.loop-at.invariant.so_far nodes are)));
    }
