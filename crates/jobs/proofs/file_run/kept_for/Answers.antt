use Rattle.std.proofs.lemmas.Result.{IfOk-weaker}
use Rattle.pickle_types.specs.TypeTable.{nodes_of}
use Rattle.jobs.proofs.file_run.kept_for.Goals as goal

pub returns-in-Map : goal.returns-in-Map
returns-in-Map c = rw c.in-Map.is
    (IfOk-weaker c.new.result _ _ (λ kept ready. ready (nodes_of c.in-Map.typed.table.now)) c.new.ensures)

pub returns-in-Identify : goal.returns-in-Identify
returns-in-Identify c =
    rw c.in-Identify.is (IfOk-weaker c.new-in-Identify.result _ _ (λ kept ready. tt) c.new-in-Identify.ensures)
