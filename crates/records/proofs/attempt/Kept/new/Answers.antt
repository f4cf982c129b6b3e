use Rattle.pickle_types.specs.TypeTable.{nodes_of}
use Rattle.records.proofs.attempt.Kept.new.Goals as goal

pub returns : goal.returns
returns c =
    record { store = c.in_ok-store_under.ensures; found = c.new.ensures (nodes_of c.args.run.now.table.now) }
