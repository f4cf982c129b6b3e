-- `open_list`: the array at the end of a path.
use Rattle.std.proofs.Common.{◌∙◌, refl, arith}
use Rattle.std.proofs.lemmas.Result.{err_from_is_err_and}
use Rattle.fault_location.proofs.Nodes.{array_node}
use Rattle.inner_lists.specs.Calls.{frames_of}
use Rattle.inner_lists.proofs.Entering.{array_comes, array_tick, bound_stops, past_comes}
use Rattle.inner_lists.proofs.Shapes.{list_is_array}
use Rattle.value_store.specs.Slots.{level_count}
use Rattle.inner_lists.proofs.reach.open_list.Goals as goal

pub returns-then-from-stage-clause-is : goal.returns-then-from-stage-clause-is
returns-then-from-stage-clause-is g c =
    past_comes _ _ _ _ _ _ _ _ (omega (arith, c.if-from-stage.true, c.from.ensures, c.len.ensures))

pub returns-in_err-tick-in-Array-clause-is : goal.returns-in_err-tick-in-Array-clause-is
returns-in_err-tick-in-Array-clause-is g c =
    let n = array_node c.args.mapper.now.nodes.now c.args.mapper.now.table c.args.stage.node c.requires.stage.inside
    (level_count c.args.mapper.now.store.now) c.requires.stage.deep c.index-nodes-stage.result _ _ c.in-Array.is in
    let p = err_from_is_err_and c.from_residual.result c.from_residual.ensures.1 in
    let none = c.in_err-tick-in-Array.ensures.refused.0 refl in
    let still = c.in_err-tick-in-Array.ensures.err in
    rw (p.1, p.2)
    (array_tick _ ⊥ _ _ _ _ _ _ _ _ _ (omega (arith, c.if-from-stage.false, c.from.ensures, c.len.ensures)) n.type_is _
    (still ∙ none) none)

pub find_extent-requires : goal.find_extent-requires
find_extent-requires g c =
    let n = array_node c.args.mapper.now.nodes.now c.args.mapper.now.table c.args.stage.node c.requires.stage.inside
    (level_count c.args.mapper.now.store.now) c.requires.stage.deep c.index-nodes-stage.result _ _ c.in-Array.is in
    record { sound = n.sound }

pub returns-in_err-extent-in-Array-clause-is : goal.returns-in_err-extent-in-Array-clause-is
returns-in_err-extent-in-Array-clause-is g c =
    let n = array_node c.args.mapper.now.nodes.now c.args.mapper.now.table c.args.stage.node c.requires.stage.inside
    (level_count c.args.mapper.now.store.now) c.requires.stage.deep c.index-nodes-stage.result _ _ c.in-Array.is in
    let p = err_from_is_err_and c.from_residual-in_err-extent-in-Array.result
    c.from_residual-in_err-extent-in-Array.ensures.1 in
    let is = c.in_err-extent-in-Array.ensures.is c.args.mapper.now.nodes.now in
    rw (p.1, p.2)
    (bound_stops _ _ _ _ _ _ _ _ _ _ _ (omega (arith, c.if-from-stage.false, c.from.ensures, c.len.ensures)) n.type_is
    _ _ _ _
    c.in_ok-tick-in-Array.ensures.limit c.in_ok-tick-in-Array.ensures.ok is)

pub open_level-requires : goal.open_level-requires
open_level-requires g c =
    let n = array_node c.args.mapper.now.nodes.now c.args.mapper.now.table c.args.stage.node c.requires.stage.inside
    (level_count c.args.mapper.now.store.now) c.requires.stage.deep c.index-nodes-stage.result _ _ c.in-Array.is in
    let deep = n.deep in omega (arith, deep)

pub unreachable-requires : goal.unreachable-requires
unreachable-requires g c =
    list_is_array c.args.mapper.now.nodes.now c.args.mapper.now.table c.args.stage.node c.requires.stage.inside
    c.index-nodes-stage.result c.requires.list c.in_default.not-Array

pub returns-clause-is : goal.returns-clause-is
returns-clause-is g c =
    let n = array_node c.args.mapper.now.nodes.now c.args.mapper.now.table c.args.stage.node c.requires.stage.inside
    (level_count c.args.mapper.now.store.now) c.requires.stage.deep c.index-nodes-stage.result _ _ c.in-Array.is in
    let is = c.in_ok-extent-in-Array.ensures.is c.args.mapper.now.nodes.now in
    let taken = c.in_ok-tick-in-Array.ensures.ok in
    let more = is.1 in
    let deep = n.deep in
    let depth = c.open_level.ensures.depth in
    record {
      around = frames_of c.args.mapper.now;
      frames = c.open_level.ensures.levels c.args.mapper.now.nodes.now;
      comes = array_comes _ ⊥ _ _ _ _ _ _ _ 0 _
          (omega (arith, c.if-from-stage.false, c.from.ensures, c.len.ensures)) n.type_is _ _
          is.0 (omega (arith, taken, more));
      element = record { inside = n.inside; deep = omega (arith, deep, depth) };
      inside = omega (arith, c.if-from-stage.false, c.from.ensures, c.len.ensures);
      top = c.requires.inside;
    }
