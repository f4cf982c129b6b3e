use Rattle.std.proofs.Common.{arith}
use Rattle.std.proofs.lemmas.Result.{err_from_is_err_and}
use Rattle.pickle_map.proofs.Clauses.{checks_ok, checks_stop}
use Rattle.pickle_map.proofs.Keeping.{added_stays, same_stays, stopped_stays}
use Rattle.pickle_map.proofs.Walks.{follow_stop}
use Rattle.pickle_map.proofs.mapper.state.Mapper.map_column.Goals as goal

pub returns-in_err-end-clause-is : goal.returns-in_err-end-clause-is
returns-in_err-end-clause-is g c =
    let p = err_from_is_err_and c.from_residual.result c.from_residual.ensures.1 in
    rw (p.1, p.2) (follow_stop _ _ _ c.in_err-end.ensures.is)

pub returns-in_err-check-clause-is : goal.returns-in_err-check-clause-is
returns-in_err-check-clause-is g c =
    let p = err_from_is_err_and c.from_residual-in_err-check.result c.from_residual-in_err-check.ensures.1 in
    let h = c.in_ok-end.ensures.is in
    let checked = rw (h.kept, c.from.ensures) at c.in_err-check.ensures.is in
    rw (p.1, p.2) (checks_stop _ _ _ _ h.value h.follows c.in_ok-end.ensures.frame.left.limit
    c.in_err-check.ensures.meter.made _ (omega arith) checked)

pub returns-clause-is : goal.returns-clause-is
returns-clause-is g c =
    let h = c.in_ok-end.ensures.is in
    let checked = rw (h.kept, c.from.ensures) at c.in_ok-check.ensures.is in
    record {
      value = h.value;
      kept = h.kept;
      ends = h.ends;
      follows = checks_ok _ _ _ _ h.value h.follows c.in_ok-end.ensures.frame.left.limit
          c.in_ok-check.ensures.meter.made tt checked;
    }

pub returns-in_err-end-clause-level : goal.returns-in_err-end-clause-level
returns-in_err-end-clause-level g c =
    stopped_stays c.args.self.now.nodes.now _ _ _ _ (same_stays _ _) c.in_err-end.ensures.level

pub returns-in_err-check-clause-level : goal.returns-in_err-check-clause-level
returns-in_err-check-clause-level g c =
    added_stays c.args.self.now.nodes.now _ _ _ _ _ (same_stays _ _) c.in_ok-end.ensures.is.kept
    c.in_ok-end.ensures.level

pub returns-clause-level : goal.returns-clause-level
returns-clause-level g c =
    added_stays c.args.self.now.nodes.now _ _ _ _ _ (same_stays _ _) c.in_ok-end.ensures.is.kept
    c.in_ok-end.ensures.level
