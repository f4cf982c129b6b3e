use Rattle.pickle_types.specs.TypeTable.{nodes_of}
use Rattle.pickle_map.proofs.mapper.map_watched.Goals as goal

pub map_with-requires-clause-found : goal.map_with-requires-clause-found
map_with-requires-clause-found g c = c.new-findings.ensures (nodes_of c.args.table.now)
