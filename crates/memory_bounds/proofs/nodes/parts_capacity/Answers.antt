use Rattle.std.proofs.Common.{◌≡◌, ◌+◌, ◌-◌, drop, length, subst, sym, arith}
use Rattle.pickle_types.specs.Table.{type_of, open_parts}
use Rattle.tight_bounds.proofs.Known.{holds_at, part_known, no_parts_left, one_part_more}
use Rattle.memory_bounds.specs.Held.{AreCapacities, ArePartCapacities}
use Rattle.memory_bounds.proofs.nodes.parts_capacity.Goals as goal

pub loop-at-init : goal.loop-at-init
loop-at-init c = record {
  within = omega arith;
  so_far = no_parts_left (type_of c.args.nodes.now)
      (λ xs. ArePartCapacities c.no_parts-all.result xs c.args.bits) c.args.parts.now
      (c.no_parts-all.ensures c.args.bits);
}

pub loop-at-preserved : goal.loop-at-preserved
loop-at-preserved c =
    let m = c.args.bits in
    let types = type_of c.args.nodes.now in
    let known = c.args.known.now in
    let at : c.loop-at.at - 1 + 1 ≡ c.loop-at.at = omega arith in
    let found = c.index-parts-at.result in
    let inside = part_known (length known) c.args.parts.now (c.loop-at.at - 1) found c.requires.below (omega arith)
    c.index-parts-at.is in
    let own = holds_at (λ a i. AreCapacities a (types i) m) known found.node _ c.requires.known.each inside in
    record {
      within = omega arith;
      so_far = one_part_more types (λ xs. ArePartCapacities c.part_and_rest-all.result xs m)
          c.args.parts.now (c.loop-at.at - 1)
          found (omega arith) c.index-parts-at.is
          (c.part_and_rest-all.ensures _ _ own
          (subst (λ i. ArePartCapacities c.loop-at.all (open_parts types (drop i c.args.parts.now)) m) (sym at)
          c.loop-at.invariant.so_far));
    }

pub returns : goal.returns
returns c =
    let none : c.loop-at.at ≡ 0 = omega (arith, c.loop-at-test.false) in
    subst (λ i.
    ArePartCapacities c.loop-at.all (open_parts (type_of c.args.nodes.now) (drop i c.args.parts.now)) c.args.bits) none
    c.loop-at.invariant.so_far
