use Rattle.std.proofs.Common.{◌+◌, ◌≤◌, length, arith}
use Rattle.std.proofs.lemmas.Grind.{common_steps}
use Rattle.std.proofs.lemmas.Result.{err_from_is_err_and}
use Rattle.run_parts.proofs.Bytes.{gives_full, gives_all, consumes_none, up_to_more}
use Rattle.run_parts.proofs.pickle.read_pickle.Goals.{else-loop-page-test, then-loop-page-test+in-Ok-eq0}
use Rattle.run_parts.proofs.pickle.read_pickle.Goals as goal

pub returns-in_err-map_err-in-Ok-clause-fault : goal.returns-in_err-map_err-in-Ok-clause-fault
returns-in_err-map_err-in-Ok-clause-fault g c =
    let p = err_from_is_err_and c.from_residual.result c.from_residual.ensures.1 in
    let le : length c.loop-page.bytes.items + c.in-Ok.count ≤ 1048577 = grind (arith, common_steps) in
    rw p.1 (up_to_more _ _ _ c.loop-page.bytes.items c.read.new.buf c.in-Ok.count 1048577 c.loop-page.invariant.taken
    c.in-Ok.ensures.bytes.0 le)

pub returns-clause-first : goal.returns-clause-first
returns-clause-first g c =
    elim c.loop-page-test.branch [
      | else-loop-page-test w ↦
          rw w.reader-is (gives_full _ _ c.loop-page.bytes.items 1048577 c.loop-page.invariant.taken (omega arith))
      | then-loop-page-test+in-Ok-eq0 w ↦
          rw w.reader-is (gives_all _ _ c.loop-page.bytes.items 1048577 (consumes_none _ _ _ c.loop-page.bytes.items
          w.read.new.buf _ w.in-Ok-eq0.field-0-test c.loop-page.invariant.taken w.in-Ok-eq0.ensures.bytes.0)
          (omega arith) (w.in-Ok-eq0.ensures.bytes.1 w.in-Ok-eq0.field-0-test (grind (arith, common_steps))))
    ]
