use Rattle.std.proofs.Common.{◌≡◌, ◌-◌, ◌*◌, ◌≤◌, drop}
use Rattle.pickle_types.specs.Table.{type_of, open_fields}
use Rattle.value_store.specs.Slots.{level_count}
use Rattle.list_laws.specs.Meanings.{bytes_in}
use Rattle.list_laws.specs.Paths.{Path}
use Rattle.inner_lists.specs.Calls.{Frame, LeadsFrom, reaches_in}
use Rattle.inner_lists.proofs.reach.enter_fields.Given as goal

abbrev pub invariant-loop-index : goal.invariant-loop-index
invariant-loop-index g l = record {
  frame : Frame (g.S.Space.view l.initial.space) (g.S.Space.view l.space) l.initial.mapper l.mapper;
  depth : level_count l.mapper.store.now ≡ level_count l.initial.mapper.store.now;
  inside : l.greatest ≤ 8 * (g.S.Space.view l.initial.space).len;
  before : l.index ≤ l.place;
  so_far : (path : Path) → LeadsFrom (bytes_in (g.S.Space.view l.initial.space)) l.initial.mapper l.mapper
      (reaches_in (bytes_in (g.S.Space.view l.initial.space)) l.mapper l.whole
      (open_fields (type_of l.initial.mapper.nodes.now) (drop l.index l.fields)) (l.place - l.index) path
      l.behind l.greatest)
      (reaches_in (bytes_in (g.S.Space.view l.initial.space)) l.initial.mapper l.whole
      (open_fields (type_of l.initial.mapper.nodes.now) l.fields) l.place path l.whole.start l.top);
}
