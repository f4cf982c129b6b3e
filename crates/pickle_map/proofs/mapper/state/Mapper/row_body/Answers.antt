use Rattle.std.proofs.Common.{refl}
use Rattle.std.proofs.lemmas.Result.{err_from_is_err_and}
use Rattle.std.proofs.Common.{Some, ap, ◌∙◌}
use Rattle.pickle_types.specs.Table.{type_of}
use Rattle.pickle_meaning.specs.Values.{outer_of, pushed}
use Rattle.value_store.specs.Slots.{levels}
use Rattle.value_store.specs.Moves.{State}
use Rattle.pickle_map.proofs.Keeping.{closes_level, regrown_stays}
use Rattle.pickle_map.proofs.Mapping.{array_no_room, array_made}
use Rattle.pickle_map.proofs.Row.{row_move, row_closed}
use Rattle.pickle_map.proofs.Worlds.{same_room, in_later, moves_to, lacks_these}
use Rattle.pickle_map.proofs.Walks.{follow_stop}
use Rattle.pickle_map.proofs.mapper.state.Mapper.row_body.Goals as goal

pub returns-in_err-end-clause-is : goal.returns-in_err-end-clause-is
returns-in_err-end-clause-is g c =
    let p = err_from_is_err_and c.from_residual.result c.from_residual.ensures.1 in
    rw (p.1, p.2) (follow_stop _ _ _ c.in_err-end.ensures.is)

pub returns-in_err-close_row-clause-is : goal.returns-in_err-close_row-clause-is
returns-in_err-close_row-clause-is g c =
    let p = err_from_is_err_and c.from_residual-in_err-close_row.result c.from_residual-in_err-close_row.ensures.1 in
    let m = c.in_ok-end.ensures.is in
    let outer = outer_of (levels c.args.self.now.nodes.now c.args.self.now.store.now) in
    let closed = row_closed c.args.shape m.numbers c.args.start.bit c.in_ok-end.end outer m.ends in
    let full = rw closed at (c.in_err-close_row.ensures.full c.args.self.now.nodes.now m.numbers outer m.packing) in
    let lacks = lacks_these c.in_ok-end.ensures.frame.left.room tt full c.in_err-close_row.ensures.lacks in
    let move = row_move c.args.shape (type_of c.args.self.now.nodes.now c.args.element) c.requires.shape.is in
    rw (p.1, p.2)
    (array_no_room _ _ _ _ (in_later c.in_ok-end.ensures.frame.left.room c.in_err-close_row.ensures.room m.runs)
    (type_of c.args.self.now.nodes.now c.args.element) (rw move lacks))

pub returns-in_err-close_row-clause-level : goal.returns-in_err-close_row-clause-level
returns-in_err-close_row-clause-level g c =
    let p = err_from_is_err_and c.from_residual-in_err-close_row.result c.from_residual-in_err-close_row.ensures.1 in
    rw p.1 (regrown_stays c.args.self.now.nodes.now _ _ _ c.in_ok-end.ensures.level c.in_err-close_row.ensures.err)

pub returns-clause-level : goal.returns-clause-level
returns-clause-level g c =
    let e = c.in_ok-close_row.ensures in
    closes_level c.args.self.now.nodes.now _ _ _ c.requires.open c.in_ok-end.ensures.level e.depth
    (ap (λ (s : State). s.frames) e.moves) e.below e.within

pub returns-clause-is : goal.returns-clause-is
returns-clause-is g c =
    let n = c.note_made.ensures in
    let m = c.in_ok-end.ensures.is in
    let outer = outer_of (levels c.args.self.now.nodes.now c.args.self.now.store.now) in
    let kept = c.in_ok-close_row.ensures.ok c.args.self.now.nodes.now m.numbers outer m.packing
    ∙ ap (λ v. pushed outer (Some v))
    (row_closed c.args.shape m.numbers c.args.start.bit c.in_ok-end.end outer m.ends) in
    let room = c.in_ok-close_row.ensures.room in
    let moves = moves_to c.in_ok-end.ensures.frame.left.room c.close_row.ensures.room (same_room c.close_row.new.self)
    c.in_ok-close_row.ensures.within c.in_ok-close_row.ensures.light c.in_ok-close_row.ensures.moves tt in
    let move = row_move c.args.shape (type_of c.args.self.now.nodes.now c.args.element) c.requires.shape.is in
    record {
      value = _;
      kept = kept;
      ends = refl;
      follows = array_made _ _ _ _ (in_later c.in_ok-end.ensures.frame.left.room room m.runs)
          (type_of c.args.self.now.nodes.now c.args.element) (rw move moves) n.steps n.made;
    }
