use Rattle.std.proofs.Common.{◌≡◌, ◌+◌, ◌-◌, drop, length, subst, sym, arith}
use Rattle.pickle_types.specs.Table.{type_of, open_fields}
use Rattle.tight_bounds.specs.Held.{AreFieldGrains}
use Rattle.tight_bounds.proofs.Known.{known_at, field_known, no_fields_left, one_field_more}
use Rattle.tight_bounds.proofs.nodes.fields_grains.Goals as goal

pub loop-at-init : goal.loop-at-init
loop-at-init c = record {
  within = omega arith;
  so_far = λ nodes are.
      no_fields_left (type_of nodes) (λ xs. AreFieldGrains c.no_fields-all.result xs c.args.bits) c.args.fields.now
      (c.no_fields-all.ensures c.args.bits);
}

pub loop-at-preserved : goal.loop-at-preserved
loop-at-preserved c =
    let m = c.args.bits in
    let known = c.args.known.now in
    let at : c.loop-at.at - 1 + 1 ≡ c.loop-at.at = omega arith in
    let found = c.index-fields-at.result in
    let known_there =
    field_known (length known) c.args.fields.now (c.loop-at.at - 1) found c.requires (omega arith)
    c.index-fields-at.is in
    record {
      within = omega arith;
      so_far = λ nodes are. one_field_more (type_of nodes) (λ xs. AreFieldGrains c.field_and_rest-all.result xs m)
          c.args.fields.now (c.loop-at.at - 1) found (omega arith) c.index-fields-at.is
          (c.field_and_rest-all.ensures _ _ (known_at nodes known m found.node _ are known_there)
          (subst (λ i. AreFieldGrains c.loop-at.all (open_fields (type_of nodes) (drop i c.args.fields.now)) m)
          (sym at) (c.loop-at.invariant.so_far nodes are)));
    }
