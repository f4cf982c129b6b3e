use Rattle.std.proofs.Common.{arith, ◌≡◌, ◌∙◌, ap, ◌++◌, take}
use Rattle.std.specs.List.{flat_map, range_with_len}
use Rattle.run_parts.specs.DumpText.{column, columns}
use Rattle.run_parts.proofs.DumpLines.{flat_more}
use Rattle.run_parts.proofs.dump.line.push_columns.Goals as goal

pub loop-i-preserved : goal.loop-i-preserved
loop-i-preserved c = (
  c.push_column-at.ensures.text ∙ flat_more (column c.args.bytes.now) _ _ c.loop-i.i c.loop-i.invariant.0,
  omega arith,
)

pub returns-clause-text : goal.returns-clause-text
unfolding columns
returns-clause-text c =
    let last : c.loop-i.i ≡ 16 = omega arith in
    c.loop-i.invariant.0
    ∙ ap (λ n. take c.args.start c.args.line.now ++ flat_map (column c.args.bytes.now) (range_with_len 0 n)) last
