use Rattle.std.proofs.Common.{◌≡◌, ◌≤◌, ◌+◌, ◌-◌, ◌*◌, vec_len}
use Rattle.pickle_syntax.specs.Tokens.{tokens_of}
use Rattle.pickle_tree.specs.Tree.{fields_tree}
use Rattle.pickle_tree.specs.Limits.{standard, fields_depth}
use Rattle.pickle_syntax.specs.ReadForms.{fields_at, form_at}
use Rattle.pickle_syntax.proofs.FieldSteps.{with_front}
use Rattle.pickle_syntax.proofs.parser.+types.Given as goal

abbrev pub decreases-types::form_at : goal.decreases-types::form_at
decreases-types::form_at l = 6 * l.room

abbrev pub decreases-fields::field_at : goal.decreases-fields::field_at
decreases-fields::field_at l = 6 * l.room + 1

abbrev pub decreases-fields::fields_at : goal.decreases-fields::fields_at
decreases-fields::fields_at l = 6 * l.room + 2

abbrev pub decreases-fields::braced_at : goal.decreases-fields::braced_at
decreases-fields::braced_at l = 6 * l.room + 3

abbrev pub decreases-types::pinned_at : goal.decreases-types::pinned_at
decreases-types::pinned_at l = 6 * l.room + 4

abbrev pub decreases-types::struct_at : goal.decreases-types::struct_at
decreases-types::struct_at l = 6 * l.room + 4

abbrev pub decreases-types::base_at : goal.decreases-types::base_at
decreases-types::base_at l = 6 * l.room + 5

abbrev pub invariant-fields::fields_at-fields : goal.invariant-fields::fields_at-fields
invariant-fields::fields_at-fields l = record {
  same : with_front (fields_tree l.fields.items)
      (fields_at standard (form_at standard l.room) (1024 - vec_len l.fields) (tokens_of l.rest))
      ≡ fields_at standard (form_at standard l.room) 1024 (tokens_of l.tokens);
  few : vec_len l.fields ≤ 1024;
  measured : l.depth ≡ fields_depth (fields_tree l.fields.items);
  low : l.depth ≤ l.room;
}

abbrev pub decreases-fields::fields_at-fields : goal.decreases-fields::fields_at-fields
decreases-fields::fields_at-fields l = 1024 - vec_len l.fields
