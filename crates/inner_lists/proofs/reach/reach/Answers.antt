-- `reach`: the path leads on from each struct that was entered, and at its end is the array.
use Rattle.std.proofs.Common.{◌+◌, [], ◌∷◌, Ok, Err, get_or, drop, Some, None, sym, subst, arith}
use Rattle.std.proofs.lemmas.List.{drop_more, drop_all}
use Rattle.std.proofs.lemmas.Result.{err_from_is_err_and}
use Rattle.bit_space.proofs.Failures.{risen_later}
use Rattle.bit_space.specs.SpaceView.{HasRisen}
use Rattle.list_laws.specs.Meanings.{SpaceBytes, bytes_in}
use Rattle.list_laws.specs.Paths.{is_list}
use Rattle.list_laws.specs.Reaches.{Faulty}
use Rattle.pickle_types.specs.Table.{type_of}
use Rattle.inner_lists.proofs.Entering.{leads_path, reaching_later}
use Rattle.inner_lists.proofs.Leading.{comes_later, frame_both, leads_both, same_bytes, stops_later}
use Rattle.inner_lists.specs.Calls.{Enters, Reaching, frames_of, reaches_from}
use Rattle.inner_lists.proofs.reach.reach.Goals as goal

pub returns-in_err-next-clause-is : goal.returns-in_err-next-clause-is
returns-in_err-next-clause-is g c =
    let i = c.loop-place.invariant in
    let p = err_from_is_err_and c.from_residual.result c.from_residual.ensures.1 in
    let space = g.S.Space.view c.args.space.now in
    let later = g.S.Space.view c.loop-place.space in
    let last = g.S.Space.view c.enter.new.space in
    let mid = c.loop-place.mapper in
    let stage = c.loop-place.stage in
    let path = c.args.path.now in
    let index = c.loop-place.place-index in
    let place = get_or path index 0 in
    let next = drop_more path index 0 c.loop-place-test.true in
    let list = rw (next, ← i.frame.lent.nodes) at i.list in
    let stops = subst (λ (bytes : SpaceBytes). Enters bytes mid.meter.now.limit mid.meter.now.steps c.enter.new.mapper
    (HasRisen later.failures last.failures) (λ path. is_list (type_of mid.nodes.now stage.node) (place ∷ path))
    (λ path. reaches_from bytes mid stage (place ∷ path)) (Err c.in_err-next.field-0.0))
    (same_bytes space later i.frame.left.len i.frame.left.bytes) c.in_err-next.ensures.is in
    rw (p.1, p.2)
    (stops_later (HasRisen later.failures last.failures) (HasRisen space.failures last.failures) Faulty
    mid.meter.now.limit c.args.mapper.now.meter.now.limit c.enter.new.mapper.meter.now.steps c.in_err-next.field-0.0
    (risen_later space.failures later.failures last.failures i.frame.left.failures
    c.in_err-next.ensures.frame.left.failures)
    (sym i.frame.left.limit)
    (leads_path (bytes_in space) (reaches_from (bytes_in space) c.args.mapper.now c.args.whole path)
    (type_of mid.nodes.now stage.node) stage.order (frames_of mid) stage.start stage.top
    c.args.mapper.now.meter.now.steps mid.meter.now.steps (drop index path) (place ∷ drop (index + 1) path) next
    i.so_far)
    (stops (drop (index + 1) path) list))

pub returns-in-None-clause-is : goal.returns-in-None-clause-is
returns-in-None-clause-is g c =
    let i = c.loop-place.invariant in
    let space = g.S.Space.view c.args.space.now in
    let later = g.S.Space.view c.loop-place.space in
    let last = g.S.Space.view c.enter.new.space in
    let mid = c.loop-place.mapper in
    let stage = c.loop-place.stage in
    let path = c.args.path.now in
    let index = c.loop-place.place-index in
    let place = get_or path index 0 in
    let next = drop_more path index 0 c.loop-place-test.true in
    let lacks = subst (λ (bytes : SpaceBytes). Enters bytes mid.meter.now.limit mid.meter.now.steps c.enter.new.mapper
    (HasRisen later.failures last.failures) (λ path. is_list (type_of mid.nodes.now stage.node) (place ∷ path))
    (λ path. reaches_from bytes mid stage (place ∷ path)) (Ok None))
    (same_bytes space later i.frame.left.len i.frame.left.bytes) (rw c.in-None.is at c.in_ok-next.ensures.is) in
    comes_later
    (leads_path (bytes_in space) (reaches_from (bytes_in space) c.args.mapper.now c.args.whole path)
    (type_of mid.nodes.now stage.node) stage.order (frames_of mid) stage.start stage.top
    c.args.mapper.now.meter.now.steps mid.meter.now.steps (drop index path) (place ∷ drop (index + 1) path) next
    i.so_far)
    (lacks (drop (index + 1) path))

pub loop-place-preserved : goal.loop-place-preserved
loop-place-preserved g c =
    let i = c.loop-place.invariant in
    let space = g.S.Space.view c.args.space.now in
    let later = g.S.Space.view c.loop-place.space in
    let last = g.S.Space.view c.enter.new.space in
    let mid = c.loop-place.mapper in
    let stage = c.loop-place.stage in
    let path = c.args.path.now in
    let index = c.loop-place.place-index in
    let place = get_or path index 0 in
    let next = drop_more path index 0 c.loop-place-test.true in
    let list = rw (next, ← i.frame.lent.nodes) at i.list in
    let leads = subst (λ (bytes : SpaceBytes). Enters bytes mid.meter.now.limit mid.meter.now.steps c.enter.new.mapper
    (HasRisen later.failures last.failures) (λ path. is_list (type_of mid.nodes.now stage.node) (place ∷ path))
    (λ path. reaches_from bytes mid stage (place ∷ path)) (Ok (Some c.in-Some.next)))
    (same_bytes space later i.frame.left.len i.frame.left.bytes) (rw c.in-Some.is at c.in_ok-next.ensures.is) in
    let goes = rw c.in-Some.is at c.in_ok-next.ensures.goes_on in
    let frame = frame_both i.frame c.in_ok-next.ensures.frame in
    let inside = goes.inside in
    record {
      frame = frame;
      may = goes.may;
      inside = omega (arith, inside, i.frame.left.len);
      list = rw frame.lent.nodes at (goes.list (drop (index + 1) path) list);
      so_far =
          leads_both
          (leads_path (bytes_in space) (reaches_from (bytes_in space) c.args.mapper.now c.args.whole path)
          (type_of mid.nodes.now stage.node) stage.order (frames_of mid) stage.start stage.top
          c.args.mapper.now.meter.now.steps mid.meter.now.steps (drop index path) (place ∷ drop (index + 1) path) next
          i.so_far)
          (leads (drop (index + 1) path));
    }

pub returns-clause-is : goal.returns-clause-is
returns-clause-is g c =
    let i = c.loop-place.invariant in
    let space = g.S.Space.view c.args.space.now in
    let later = g.S.Space.view c.loop-place.space in
    let last = g.S.Space.view c.open_list.new.space in
    let mid = c.loop-place.mapper in
    let stage = c.loop-place.stage in
    let path = c.args.path.now in
    let index = c.loop-place.place-index in
    let is = subst (λ (bytes : SpaceBytes). Reaching bytes mid c.open_list.new.mapper
    (HasRisen later.failures last.failures) (reaches_from bytes mid stage []) c.open_list.result)
    (same_bytes space later i.frame.left.len i.frame.left.bytes) c.open_list.ensures.is in
    reaching_later (bytes_in space) (HasRisen later.failures last.failures) (HasRisen space.failures last.failures)
    c.args.mapper.now mid c.open_list.new.mapper (reaches_from (bytes_in space) mid stage [])
    (reaches_from (bytes_in space) c.args.mapper.now c.args.whole path) c.open_list.result
    (risen_later space.failures later.failures last.failures i.frame.left.failures
    c.open_list.ensures.frame.left.failures)
    (sym i.frame.left.limit) i.frame.lent.nodes
    (leads_path (bytes_in space) (reaches_from (bytes_in space) c.args.mapper.now c.args.whole path)
    (type_of mid.nodes.now stage.node) stage.order (frames_of mid) stage.start stage.top
    c.args.mapper.now.meter.now.steps mid.meter.now.steps (drop index path) [] (drop_all index path (omega arith))
    i.so_far)
    is
