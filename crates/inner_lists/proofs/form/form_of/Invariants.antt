use Rattle.std.proofs.Common.{◌≡◌, ◌<◌, ◌&&◌, true, drop, length}
use Rattle.pickle_types.specs.Table.{type_of}
use Rattle.list_laws.specs.Paths.{is_last, is_list, is_open}
use Rattle.inner_lists.proofs.form.form_of.Given as goal

abbrev pub invariant-loop-place : goal.invariant-loop-place
invariant-loop-place l = record {
  inside : l.at < length l.nodes;
  list : is_list (type_of l.nodes l.at) (drop l.place-index l.path) ≡ true;
  unbounded : is_open (type_of l.nodes l.node) l.path ≡ is_open (type_of l.nodes l.at) (drop l.place-index l.path);
  last : is_last (type_of l.nodes l.node) l.path
      ≡ (l.last && is_last (type_of l.nodes l.at) (drop l.place-index l.path));
}
