use Rattle.std.proofs.Common.{refl, ap}
use Rattle.std.proofs.lemmas.Result.{err_from_is_err_and}
use Rattle.bit_space.specs.SpaceView.{known_bits}
use Rattle.mapping_plans.specs.Mapping.{read_plan}
use Rattle.pickle_meaning.specs.Means.{width_in}
use Rattle.pickle_map.proofs.Keeping.{same_adds, stopped_adds}
use Rattle.pickle_map.proofs.Placing.{read_stops, read_goes}
use Rattle.pickle_map.proofs.mapper.state.Mapper.map_digits.Goals as goal

pub returns-in_err-digits-clause-is : goal.returns-in_err-digits-clause-is
unfolding read_plan
returns-in_err-digits-clause-is g c =
    let p = err_from_is_err_and c.from_residual.result c.from_residual.ensures.1 in
    rw (p.1, p.2) (read_stops _ _ _ _ _ _ _ _ _ refl refl c.in_err-digits.ensures.err c.in_err-digits.ensures.made)

pub returns-in_err-place_scalar-clause-is : goal.returns-in_err-place_scalar-clause-is
unfolding read_plan
returns-in_err-place_scalar-clause-is g c =
    let p =
    err_from_is_err_and c.from_residual-in_err-place_scalar.result c.from_residual-in_err-place_scalar.ensures.1 in
    let r = c.in_ok-digits.ensures in
    rw (p.1, p.2) (read_goes _ _ _ _ _ _ _ r.limit r.steps r.made r.inside r.ok
    (c.in_err-place_scalar.ensures.is (known_bits (g.S.Space.view c.args.space.now))))

pub returns-clause-is : goal.returns-clause-is
unfolding read_plan
returns-clause-is g c =
    let r = c.in_ok-digits.ensures in
    let h = c.in_ok-place_scalar.ensures.is (known_bits (g.S.Space.view c.args.space.now)) in
    let wide = ap width_in c.requires.number in
    let ends = rw wide at h.ends in
    rw c.from.ensures (record {
      value = h.value;
      kept = h.kept;
      ends = ends;
      follows = read_goes _ _ _ _ _ _ _ r.limit r.steps r.made r.inside r.ok h.follows;
    })

pub returns-in_err-digits-clause-level : goal.returns-in_err-digits-clause-level
returns-in_err-digits-clause-level g c =
    let p = err_from_is_err_and c.from_residual.result c.from_residual.ensures.1 in
    rw p.1 (same_adds c.args.self.now.nodes.now c.args.self.now.store.now _)

pub returns-in_err-place_scalar-clause-level : goal.returns-in_err-place_scalar-clause-level
returns-in_err-place_scalar-clause-level g c =
    let p =
    err_from_is_err_and c.from_residual-in_err-place_scalar.result c.from_residual-in_err-place_scalar.ensures.1 in
    rw p.1 (stopped_adds c.args.self.now.nodes.now _ _ _ _ c.in_err-place_scalar.ensures.level)

pub returns-clause-level : goal.returns-clause-level
returns-clause-level g c =
    let level = c.in_ok-place_scalar.ensures.level in
    record {
      same = tt;
      depth = level.depth;
      frames = level.frames;
      extends = level.extends;
      back = tt;
      within = level.within;
    }
