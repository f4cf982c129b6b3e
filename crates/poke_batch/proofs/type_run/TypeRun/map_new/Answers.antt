use Rattle.pickle_types.specs.TypeTable.{nodes_of}
use Rattle.poke_batch.proofs.type_run.TypeRun.map_new.Goals as goal

pub map_apart-requires : goal.map_apart-requires
map_apart-requires g c = record { found = c.new.ensures (nodes_of c.args.self.now.table.now) }
