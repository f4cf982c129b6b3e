use Rattle.std.proofs.Common.{◌≡◌, ◌+◌, ◌*◌, ◌≤◌, drop}
use Rattle.pickle_types.specs.Table.{open_fields, type_of}
use Rattle.pickle_types.specs.Meaning.{total_width}
use Rattle.pickle_types.proofs.check.fields.total_width.Given as goal

abbrev pub invariant-loop-f : goal.invariant-loop-f
invariant-loop-f l = record {
  small : l.total ≤ 255 * l.f-index;
  sum : l.total + total_width (open_fields (type_of l.nodes) (drop l.f-index l.fields))
      ≡ total_width (open_fields (type_of l.nodes) l.fields);
}
