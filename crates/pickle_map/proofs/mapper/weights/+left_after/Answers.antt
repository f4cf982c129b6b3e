use Rattle.pickle_types.specs.Table.{term_of}
use Rattle.mapping_plans.specs.Rows.{term_weight}
use Rattle.std.proofs.Common.{sym}
use Rattle.pickle_map.proofs.Weights.{no_left, term_some}
use Rattle.pickle_map.proofs.mapper.weights.+left_after.Goals as goal

pub returns-then-left-eq0 : goal.returns-then-left-eq0
returns-then-left-eq0 t c =
    sym (no_left (term_weight (term_of c.args.e.now)) c.args.left c.if-left-eq0.true (term_some (term_of c.args.e.now)))
