use Rattle.std.proofs.Common.{◌-◌, sym, ◌∙◌, arith}
use Rattle.pickle_map.proofs.Strides.{no_column, columns_beyond, columns_more}
use Rattle.pickle_map.proofs.mapper.packed_fields.stride_of.Goals as goal

pub returns-in-None : goal.returns-in-None
returns-in-None c =
    no_column c.args.nodes.now c.args.fields.now (c.loop-at.at - 1) c.loop-at.at c.index-fields-at.result (omega arith)
    (omega arith) c.index-fields-at.is (sym c.column_width.ensures ∙ c.in-None.is)

pub returns-then-all-gt-MOST_BYTES : goal.returns-then-all-gt-MOST_BYTES
returns-then-all-gt-MOST_BYTES c =
    columns_beyond c.args.nodes.now c.args.fields.now (c.loop-at.at - 1) c.loop-at.at c.index-fields-at.result
    (omega arith) (omega arith) c.index-fields-at.is c.loop-at.all c.in-Some.width
    (sym c.column_width.ensures ∙ c.in-Some.is) c.loop-at.invariant.so_far
    (omega (arith, c.if-all-gt-MOST_BYTES.true, c.from.ensures))

pub loop-at-preserved : goal.loop-at-preserved
loop-at-preserved c =
    let few = c.if-all-gt-MOST_BYTES.false in
    let more =
    columns_more c.args.nodes.now c.args.fields.now (c.loop-at.at - 1) c.loop-at.at c.index-fields-at.result
    (omega arith) (omega arith) c.index-fields-at.is c.loop-at.all c.in-Some.width
    (sym c.column_width.ensures ∙ c.in-Some.is) c.loop-at.invariant.so_far (omega (arith, few, c.from.ensures)) in
    record {
      within = omega (arith, c.loop-at.invariant.within);
      few = omega (arith, few);
      so_far = rw c.from.ensures more;
    }
