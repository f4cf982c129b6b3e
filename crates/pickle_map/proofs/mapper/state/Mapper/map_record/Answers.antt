use Rattle.std.proofs.Common.{refl, ◌∙◌}
use Rattle.std.proofs.lemmas.Result.{err_from_is_err_and}
use Rattle.pickle_map.proofs.Keeping.{same_stays}
use Rattle.pickle_map.proofs.Mapping.{inside_no_tick, inside_ticks}
use Rattle.pickle_map.proofs.mapper.state.Mapper.map_record.Goals as goal

pub returns-in_err-tick-clause-is : goal.returns-in_err-tick-clause-is
returns-in_err-tick-clause-is g c =
    let p = err_from_is_err_and c.from_residual.result c.from_residual.ensures.1 in
    let e = c.in_err-tick.ensures in
    rw (p.1, p.2) (inside_no_tick _ _ _ c.requires.inside e.err (e.err ∙ e.refused.0 refl) e.made, λ other. refl)

pub returns-in_err-tick-clause-level : goal.returns-in_err-tick-clause-level
returns-in_err-tick-clause-level g c = same_stays c.args.self.now.nodes.now c.args.self.now.store.now

pub returns-in-Ok-clause-is : goal.returns-in-Ok-clause-is
returns-in-Ok-clause-is g c =
    let e = c.in_ok-tick.ensures in
    let h = c.in-Ok.ensures.is in
    rw c.in-Ok.is (record {
      digits = h.digits;
      adds = h.adds;
      ends = h.ends;
      runs = inside_ticks _ _ _ c.requires.inside e.limit e.ok e.made h.runs;
    })

pub returns-in-Err-clause-is : goal.returns-in-Err-clause-is
returns-in-Err-clause-is g c =
    let e = c.in_ok-tick.ensures in
    let h = c.in-Err.ensures.is in
    (inside_ticks _ _ _ c.requires.inside e.limit e.ok e.made h.0, h.1)
