use Rattle.identification.proofs.prepare.read_one.Goals.{in-Ok, in-Err}
use Rattle.identification.proofs.prepare.read_one.Goals as goal

pub returns-clause-ok : goal.returns-clause-ok
returns-clause-ok c =
    elim c.match-push.branch [
      | in-Ok w ↦ rw w.result-is (record {
        format = c.in_ok-format.format;
        is = c.in_ok-format.ensures.ok;
        added = w.in-Ok.ensures.items;
      })
      | in-Err w ↦ rw w.result-is tt
    ]
