use Rattle.std.proofs.Common.{◌≡◌, ◌*◌, ◌≤◌, true, drop}
use Rattle.pickle_types.specs.Table.{type_of}
use Rattle.list_laws.specs.Meanings.{bytes_in}
use Rattle.list_laws.specs.Paths.{is_list}
use Rattle.inner_lists.specs.Calls.{Frame, LeadsFrom, MayMap, reaches_from}
use Rattle.inner_lists.proofs.reach.reach.Given as goal

abbrev pub invariant-loop-place : goal.invariant-loop-place
invariant-loop-place g l = record {
  frame : Frame (g.S.Space.view l.initial.space) (g.S.Space.view l.space) l.initial.mapper l.mapper;
  may : MayMap l.mapper l.stage.node;
  inside : l.stage.top ≤ 8 * (g.S.Space.view l.initial.space).len;
  list : is_list (type_of l.initial.mapper.nodes.now l.stage.node) (drop l.place-index l.path) ≡ true;
  so_far : LeadsFrom (bytes_in (g.S.Space.view l.initial.space)) l.initial.mapper l.mapper
      (reaches_from (bytes_in (g.S.Space.view l.initial.space)) l.mapper l.stage (drop l.place-index l.path))
      (reaches_from (bytes_in (g.S.Space.view l.initial.space)) l.initial.mapper l.fn.whole l.path);
}
