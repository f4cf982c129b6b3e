use Rattle.std.proofs.Common.{◌≡◌, ◌<◌, ◌+◌, ◌∙◌, sym, ap, arith, subst, length, drop}
use Rattle.std.proofs.lemmas.Option.{slice_get_past}
use Rattle.value_text.specs.ShowParts.{known_of}
use Rattle.value_text.specs.TypedValue.{nodes_in}
use Rattle.value_text.specs.Puts.{Puts}
use Rattle.value_text.proofs.Puts.{told_none, told_next, told_failed, puts_none, puts_next}
use Rattle.part_lists.specs.Steps.{steps_of}
use Rattle.part_lists.specs.Listed.{steps_from, next_of, parts_of}
use Rattle.part_lists.specs.PartLines.{next_lines}
use Rattle.part_lists.proofs.Lines.{first_line, more_lines, next_lines_more, next_from, no_next, node_there}
use Rattle.part_lists.proofs.list.+parts.Goals.{put_nexts-in-Some, put_nexts-in_default}
use Rattle.part_lists.proofs.list.+parts.Goals as goal

pub put_part-returns-then-levels-gt0 : goal.put_part-returns-then-levels-gt0
put_part-returns-then-levels-gt0 g t c =
    let types = c.args.listing.types.now in
    subst (Puts g.W.Write.contents c.args.printer.now c.put_parts.new.printer)
    (sym (more_lines c.args.listing.form (known_of types) (nodes_in types) (steps_of c.args.route.now) c.args.node
    c.args.levels c.if-levels-gt0.true))
    (puts_next c.put_line.ensures c.put_parts.ensures)

pub put_part-returns-else-levels-gt0 : goal.put_part-returns-else-levels-gt0
put_part-returns-else-levels-gt0 g t c =
    let types = c.args.listing.types.now in
    subst (Puts g.W.Write.contents c.args.printer.now c.put_line.new.printer)
    (sym (first_line c.args.listing.form (known_of types) (nodes_in types) (steps_of c.args.route.now) c.args.node
    c.args.levels (omega (arith, c.if-levels-gt0.false))))
    c.put_line.ensures

pub put_parts-returns-in-Some : goal.put_parts-returns-in-Some
put_parts-returns-in-Some g t c =
    let found = c.in-Some.ensures.lookup in
    let there = node_there c.nodes.result.now c.args.node c.in-Some.node.now found.3.0 found.1 in
    let there = rw c.nodes.ensures at there in
    rw there c.put_nexts.ensures

pub put_parts-returns-in-None : goal.put_parts-returns-in-None
put_parts-returns-in-None g t c =
    let past = slice_get_past c.nodes.result.now c.args.node c.in-None.ensures.lookup.3 in
    let past = rw c.nodes.ensures at past in
    rw past puts_none

pub put_nexts-loop-number-init : goal.put_nexts-loop-number-init
put_nexts-loop-number-init g t c = record { within = omega arith; told = told_none }

pub put_nexts-loop-number-preserved : goal.put_nexts-loop-number-preserved
put_nexts-loop-number-preserved g t c =
    let nexts = steps_from c.args.shape.now in
    let types = c.args.listing.types.now in
    let lt : c.loop-number.number < length nexts =
    omega (arith, c.next_count-number-end.ensures, c.loop-number-test.true) in
    elim c.match-next_at.branch [
      | put_nexts-in-Some w ↦
          (let next = next_of w.in-Some.next in
          let first = next_from nexts c.loop-number.number next w.in-Some.ensures in
          rw w.printer-is (record {
            within = omega (arith, lt);
            told = told_next (ap (next_lines c.args.listing c.args.levels c.args.route.now) first
                ∙ next_lines_more c.args.listing.form (known_of types) (parts_of (nodes_in types) c.args.levels)
                (steps_of c.args.route.now) next (drop (c.loop-number.number + 1) nexts))
                c.loop-number.invariant.told w.put_part.ensures;
          }))
      | put_nexts-in_default w ↦ no_next nexts c.loop-number.number w.in_default.ensures lt
    ]

pub put_nexts-returns-then-printer : goal.put_nexts-returns-then-printer
put_nexts-returns-then-printer g t c = told_failed c.if-printer.true c.loop-number.invariant.told
