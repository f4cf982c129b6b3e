use Rattle.std.proofs.Common.{rules}
use Rattle.value_text.proofs.Puts.{printed_all, printed_part}
use Rattle.jobs.proofs.place_names.print_place_names.Goals as goal

pub returns-clause-ok : goal.returns-clause-ok
returns-clause-ok g c =
    printed_all g.O.Write.contents _ _ _ c.finish.result _ _ (search rules) (search rules) c.put_place_names.ensures
    c.finish.ensures (search rules)

pub returns-clause-err : goal.returns-clause-err
returns-clause-err g c =
    printed_part g.O.Write.contents _ _ _ c.finish.result _ _ (search rules) (search rules) c.put_place_names.ensures
    c.finish.ensures (search rules)
