use Rattle.std.proofs.Common.{sym, ap, ◌∙◌}
use Rattle.identification.proofs.Lines.{is_there, form_some}
use Rattle.identification.specs.Prepared.{place_named}
use Rattle.identification.proofs.prepare.parent_of.Goals as goal

pub returns-in-None-clause-none : goal.returns-in-None-clause-none
returns-in-None-clause-none c = record {
  format = c.index-list-place.result;
  there = is_there c.args.list.now c.args.place c.index-list-place.result c.requires c.index-list-place.is;
  form = c.in-None.is;
}

pub returns-in-Some-place_named-clause-some : goal.returns-in-Some-place_named-clause-some
returns-in-Some-place_named-clause-some c = record {
  format = c.index-list-place.result;
  there = is_there c.args.list.now c.args.place c.index-list-place.result c.requires c.index-list-place.is;
  name = c.in-Some.name.items;
  form = form_some _ _ c.in-Some.is;
  found = ap (place_named c.args.list.now) (sym c.deref.ensures.value) ∙ sym c.in-Some-place_named.ensures.found;
}

pub returns-in-None-place_named-clause-err : goal.returns-in-None-place_named-clause-err
returns-in-None-place_named-clause-err c = record {
  format = c.index-list-place.result;
  there = is_there c.args.list.now c.args.place c.index-list-place.result c.requires c.index-list-place.is;
  name = c.in-Some.name.items;
  form = form_some _ _ c.in-Some.is;
  none = ap (place_named c.args.list.now) (sym c.deref.ensures.value) ∙ sym c.in-None-place_named.ensures.found;
}
