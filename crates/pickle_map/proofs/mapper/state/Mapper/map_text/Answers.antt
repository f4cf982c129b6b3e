use Rattle.std.proofs.Common.{refl, ◌∙◌, arith}
use Rattle.std.proofs.lemmas.Result.{err_from_is_err_and}
use Rattle.pickle_map.proofs.Walks.{follow_tick, follow_no_tick}
use Rattle.pickle_map.proofs.Keeping.{same_adds}
use Rattle.pickle_map.proofs.Left.{left_open, left_keeps, left_adds}
use Rattle.pickle_map.proofs.mapper.state.Mapper.map_text.Goals as goal

pub returns-in_err-tick-clause-is : goal.returns-in_err-tick-clause-is
returns-in_err-tick-clause-is g c =
    let p = err_from_is_err_and c.from_residual.result c.from_residual.ensures.1 in
    let e = c.in_err-tick.ensures in
    rw (p.1, p.2) (follow_no_tick e.err (e.err ∙ e.refused.0 refl) e.made)

pub returns-in_err-tick-clause-level : goal.returns-in_err-tick-clause-level
returns-in_err-tick-clause-level g c =
    let p = err_from_is_err_and c.from_residual.result c.from_residual.ensures.1 in
    rw p.1 (same_adds c.args.self.now.nodes.now c.args.self.now.store.now _)

pub text_body-mapped-requires-clause-writing : goal.text_body-mapped-requires-clause-writing
text_body-mapped-requires-clause-writing g c = rw (c.open_text.ensures.levels c.args.self.now.nodes.now)
    (c.open_text.ensures.writes c.args.self.now.nodes.now c.args.start)

pub text_body-mapped-requires-clause-open : goal.text_body-mapped-requires-clause-open
text_body-mapped-requires-clause-open g c = omega (arith, c.open_text.ensures.depth)

pub leave_level-requires : goal.leave_level-requires
leave_level-requires g c = left_open c.args.self.now.nodes.now c.open_text.ensures.room
    c.text_body-mapped.ensures.frame.left.room c.open_text.ensures.depth _ c.text_body-mapped.ensures.level

pub returns-clause-is : goal.returns-clause-is
returns-clause-is g c =
    let e = c.in_ok-tick.ensures in
    let o = c.open_text.ensures in
    let left = c.leave_level.ensures in
    let h = rw (o.levels c.args.self.now.nodes.now) at c.text_body-mapped.ensures.is in
    left_keeps c.args.self.now.nodes.now o.room c.text_body-mapped.ensures.frame.left.room left.room _ o.moves o.within
    (λ _ h. follow_tick e.limit e.ok e.made h) (λ end. end) _ left.left h

pub returns-clause-level : goal.returns-clause-level
returns-clause-level g c =
    let o = c.open_text.ensures in
    left_adds c.args.self.now.nodes.now o.room c.text_body-mapped.ensures.frame.left.room c.leave_level.ensures.room
    o.depth (o.levels c.args.self.now.nodes.now) o.slots o.moves _ c.text_body-mapped.ensures.level
    c.leave_level.ensures.left
