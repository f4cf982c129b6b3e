use Rattle.std.proofs.Common.{◌≡◌, ◌+◌, ◌*◌, ◌≤◌, [], length, drop, take}
use Rattle.std.specs.Prelude.{All}
use Rattle.pickle_tree.specs.Limits.{standard, fields_form_count, AreFieldsWithin}
use Rattle.pickle_tree.specs.Tree.{fields_tree}
use Rattle.pickle_types.specs.Table.{IsSoundField}
use Rattle.pickle_types.specs.Meaning.{fields_meaning}
use Rattle.pickle_types.specs.Built.{AreBelow, names_in, words_in}
use Rattle.pickle_types.specs.FieldLists.{IsFieldList}
use Rattle.pickle_types.specs.Building.{known_types, visible_in, FieldsSoFar}
use Rattle.pickle_types.proofs.BuiltNodes.{FormsSoFar}
use Rattle.pickle_types.proofs.check.builder.Builder.+types.Given as goal

abbrev pub decreases-type_at : goal.decreases-type_at
decreases-type_at l = 4 * l.room + 1

abbrev pub decreases-array_at : goal.decreases-array_at
decreases-array_at l = 4 * l.room

abbrev pub decreases-struct_at : goal.decreases-struct_at
decreases-struct_at l = 4 * l.room

abbrev pub decreases-integral_at : goal.decreases-integral_at
decreases-integral_at l = 4 * l.room

abbrev pub decreases-union_at : goal.decreases-union_at
decreases-union_at l = 4 * l.room

abbrev pub decreases-fields_at : goal.decreases-fields_at
decreases-fields_at l = 4 * l.room + 3

abbrev pub decreases-field_at : goal.decreases-field_at
decreases-field_at l = 4 * l.room + 2

abbrev pub invariant-fields_at-loop-f : goal.invariant-fields_at-loop-f
invariant-fields_at-loop-f l = record {
  low : l.deepest ≤ l.room;
  count : length l.fields.fields.items ≡ l.f-index;
  within : AreFieldsWithin standard (fields_tree (drop l.f-index l.written));
  few : length l.self.nodes + fields_form_count (fields_tree (drop l.f-index l.written))
      ≤ length l.initial.self.nodes + fields_form_count (fields_tree l.written);
  kept : take l.mark l.self.seen ≡ l.initial.self.seen;
  below : AreBelow (length l.self.nodes) (l.levels + 1) l.self.seen;
  sound : All IsSoundField l.fields.fields.items;
  list : IsFieldList (words_in l.self.names) l.fields;
  so_far : FieldsSoFar l.initial.self l.self l.fields.fields.items l.deepest
      (fields_meaning (known_types l.initial.self) l.place (visible_in l.initial.self) l.levels l.room []
      (fields_tree l.written))
      (fields_meaning (known_types l.initial.self) l.place (visible_in l.self) l.levels l.room
      (names_in l.fields.fields.items) (fields_tree (drop l.f-index l.written)));
  forms : FormsSoFar l.self (fields_tree l.written) (fields_tree (drop l.f-index l.written)) l.fields.fields.items;
}
