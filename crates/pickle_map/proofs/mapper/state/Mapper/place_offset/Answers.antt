use Rattle.std.proofs.Common.{refl, ap}
use Rattle.std.proofs.lemmas.Result.{err_from_is_err_and}
use Rattle.pickle_meaning.specs.Means.{offset_value}
use Rattle.mapping_plans.specs.Mapping.{number_plan}
use Rattle.value_store.specs.Moves.{State}
use Rattle.pickle_map.proofs.Keeping.{regrown_adds}
use Rattle.pickle_map.proofs.Walks.{follow_made, follow_done, follow_no_room}
use Rattle.pickle_map.proofs.Worlds.{same_room, moves_to, lacks_these}
use Rattle.pickle_map.proofs.mapper.state.Mapper.place_offset.Goals as goal

pub returns-in_err-push_offset-clause-is : goal.returns-in_err-push_offset-clause-is
unfolding number_plan
returns-in_err-push_offset-clause-is g c =
    let p = err_from_is_err_and c.from_residual.result c.from_residual.ensures.1 in
    rw (p.1, p.2) (λ known. follow_no_room (lacks_these (same_room c.args.self.now.store.now) tt
    (c.in_err-push_offset.ensures.full c.args.self.now.nodes.now) c.in_err-push_offset.ensures.lacks))

pub returns-in_err-push_offset-clause-level : goal.returns-in_err-push_offset-clause-level
returns-in_err-push_offset-clause-level g c =
    let p = err_from_is_err_and c.from_residual.result c.from_residual.ensures.1 in
    let e = c.in_err-push_offset.ensures.err in
    rw p.1 (regrown_adds c.args.self.now.nodes.now _ _ _ e)

pub returns-clause-level : goal.returns-clause-level
returns-clause-level g c =
    let e = c.in_ok-push_offset.ensures in
    record {
      same = tt;
      depth = e.depth;
      frames = ap (λ (s : State). s.frames) e.moves;
      extends = e.extends;
      back = tt;
      within = e.within;
    }

pub returns-clause-is : goal.returns-clause-is
unfolding number_plan
returns-clause-is g c =
    let n = c.note_made.ensures in
    λ known. record {
      value = offset_value c.args.number c.args.unit c.args.digits c.args.start;
      kept = c.in_ok-push_offset.ensures.ok c.args.self.now.nodes.now;
      ends = refl;
      follows = follow_made
          (moves_to (same_room c.args.self.now.store.now) c.push_offset.ensures.room (same_room c.push_offset.new.self)
          c.in_ok-push_offset.ensures.within c.in_ok-push_offset.ensures.light c.in_ok-push_offset.ensures.moves tt)
          n.limit n.steps n.made follow_done;
    }
