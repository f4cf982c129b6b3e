use Rattle.std.proofs.Common.{rules}
use Rattle.value_text.proofs.Puts.{printed_all, printed_part}
use Rattle.poke_batch.proofs.selected.print_selected.Goals as goal

pub returns-clause-ok : goal.returns-clause-ok
returns-clause-ok g c = printed_all g.W.Write.contents _ _ _ c.finish.result _ _ (search rules) (search rules)
    c.put_selection.ensures c.finish.ensures (search rules)

pub returns-clause-err : goal.returns-clause-err
returns-clause-err g c = printed_part g.W.Write.contents _ _ _ c.finish.result _ _ (search rules) (search rules)
    c.put_selection.ensures c.finish.ensures (search rules)
