use Rattle.std.proofs.Common.{◌≤◌, Some, refl, sym, ap, ◌∙◌, arith}
use Rattle.pickle_types.specs.Table.{bound_of, type_of}
use Rattle.mapping_plans.proofs.TableWidths.{table_widths}
use Rattle.pickle_map.proofs.Sizes.{numbers_bits, numbers_few, numbers_many, numbers_none, numbers_wide}
use Rattle.pickle_map.proofs.mapper.layouts.numbers_size.Goals.{then-width-gt-MOST_BITS-via-then-width-gt-MOST_BITS, then-width-gt-MOST_BITS-via-else-width-gt-MOST_BITS+then-count-eq0, then-width-gt-MOST_BITS-via-else-width-gt-MOST_BITS+else-count-eq0+then-from-count}
use Rattle.pickle_map.proofs.mapper.layouts.numbers_size.Goals as goal

pub returns-then-width-gt-MOST_BITS-clause-size : goal.returns-then-width-gt-MOST_BITS-clause-size
returns-then-width-gt-MOST_BITS-clause-size c =
    let ty = type_of c.args.nodes.now c.args.element in
    let bound = bound_of c.args.bound.now in
    let scalar = sym c.in-Some-Some.ensures in
    let literal = sym c.in-Some-Some.ensures' in
    elim c.then-width-gt-MOST_BITS.branch [
      | then-width-gt-MOST_BITS-via-then-width-gt-MOST_BITS w ↦
          numbers_wide ty bound _ _ scalar literal (omega (arith, w.if-width-gt-MOST_BITS.true, c.from.ensures))
      | then-width-gt-MOST_BITS-via-else-width-gt-MOST_BITS+then-count-eq0 w ↦
          numbers_none ty bound _ _ scalar literal w.if-count-eq0.true
      | then-width-gt-MOST_BITS-via-else-width-gt-MOST_BITS+else-count-eq0+then-from-count w ↦
          numbers_many ty bound _ _ scalar literal
          (table_widths c.args.nodes.now c.requires.table.below c.args.element)
          (omega (arith, w.if-from-count.true, w.from-else-count-eq0.ensures))
    ]

pub returns-clause-size : goal.returns-clause-size
returns-clause-size c =
    let some : 1 ≤ c.in-Some-Some.count = omega (arith, c.if-count-eq0.false) in
    numbers_few (type_of c.args.nodes.now c.args.element) (bound_of c.args.bound.now) c.from.result c.in-Some-Some.count
    (sym c.in-Some-Some.ensures ∙ ap Some (sym c.from.ensures)) (sym c.in-Some-Some.ensures')
    (table_widths c.args.nodes.now c.requires.table.below c.args.element) _ c.if-width-gt-MOST_BITS.false some
    c.if-bytes-gt-MOST_BYTES.false refl refl

pub returns-clause-few : goal.returns-clause-few
returns-clause-few c = (numbers_bits c.from.result c.in-Some-Some.count, c.if-bytes-gt-MOST_BYTES.false)
