use Rattle.std.proofs.Common.{rules, subst}
use Rattle.pickle_types.specs.TypeTable.{nodes_of}
use Rattle.value_text.specs.Puts.{Puts}
use Rattle.value_text.proofs.Puts.{printed_all, printed_part}
use Rattle.part_lists.specs.Listed.{parts_of}
use Rattle.part_lists.specs.ListText.{known_in, levels_of}
use Rattle.part_lists.proofs.Lines.{all_lines}
use Rattle.part_lists.proofs.list.print_parts.Goals as goal

pub returns-clause-ok : goal.returns-clause-ok
returns-clause-ok g c =
    let puts = rw (c.new-types.ensures.nodes, c.new-types.ensures.chars, c.levels_of.ensures, c.node.ensures)
    at c.put_part.ensures in
    let all = all_lines c.args.form (known_in c.args.table.now)
    (parts_of (nodes_of c.args.table.now) (levels_of c.args.most) c.args.id.node) in
    printed_all g.W.Write.contents _ _ _ c.finish.result _ _ (search rules) (search rules)
    (subst (Puts g.W.Write.contents _ c.put_part.new.printer) all puts) c.finish.ensures (search rules)

pub returns-clause-err : goal.returns-clause-err
returns-clause-err g c =
    let puts = rw (c.new-types.ensures.nodes, c.new-types.ensures.chars, c.levels_of.ensures, c.node.ensures)
    at c.put_part.ensures in
    let all = all_lines c.args.form (known_in c.args.table.now)
    (parts_of (nodes_of c.args.table.now) (levels_of c.args.most) c.args.id.node) in
    printed_part g.W.Write.contents _ _ _ c.finish.result _ _ (search rules) (search rules)
    (subst (Puts g.W.Write.contents _ c.put_part.new.printer) all puts) c.finish.ensures (search rules)
