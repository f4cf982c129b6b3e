use Rattle.std.proofs.Common.{◌≡◌, ◌∙◌, Ok, length, refl}
use Rattle.std.proofs.lemmas.Result.{err_from_is_err_and}
use Rattle.pickle_tree.specs.Tree.{field_tree}
use Rattle.pickle_types.specs.declared.scopes.Seen.{Seen}
use Rattle.pickle_types.specs.declared.node.Field.{Field}
use Rattle.pickle_types.specs.Table.{type_of, optional_term}
use Rattle.pickle_types.specs.Meaning.{bit_width, has_some, may_stand, if_here, fresh}
use Rattle.pickle_types.specs.Built.{names_in}
use Rattle.pickle_types.specs.Building.{known_types, visible_in}
use Rattle.pickle_types.proofs.Buildings.{itself_seen, field_built, field_meaning_is, field_meaning_fails, names_count}
use Rattle.pickle_types.proofs.check.builder.Builder.field_of.Goals as goal

pub returns-in_err-constraint-clause-gives : goal.returns-in_err-constraint-clause-gives
returns-in_err-constraint-clause-gives c =
    let b = c.args.self.now in
    let parts = (field_tree c.args.written.now).parts in
    let t = type_of b.nodes c.args.found.node in
    let p = err_from_is_err_and c.from_residual-in_err-constraint.result c.from_residual-in_err-constraint.ensures.1 in
    let stands : if_here (may_stand c.args.place (has_some (bit_width t)) parts) ≡ Ok tt =
    rw c.has_width-bits.ensures at c.in_default.ensures in
    let new : fresh parts.name (names_in c.args.before.now.fields.items) ≡ Ok tt =
    rw c.name_in-word.ensures at c.in_default-check_new_name.ensures in
    let label = rw c.label_in.ensures at c.in_ok-label.ensures.gives in
    let names = c.in_ok-condition.ensures.names ∙ c.in_ok-label.ensures.names in
    let nodes = c.in_ok-condition.ensures.nodes ∙ c.in_ok-label.ensures.nodes in
    let same = c.in_ok-condition.ensures.seen ∙ c.in_ok-label.ensures.seen in
    let condition = rw (
      c.in_ok-label.ensures.names,
      c.in_ok-label.ensures.nodes,
      c.in_ok-label.ensures.seen,
      c.condition_in.ensures,
    ) at c.in_ok-condition.ensures.gives in
    let s : Seen = record {
      name = c.name_in-word.result;
      level = c.args.levels;
      place = c.place_in.result;
      node = c.args.found.node;
    } in
    let placed = rw c.len.ensures at c.place_in.ensures in
    let seen = itself_seen b.nodes b.seen s c.args.place (length c.args.before.now.fields.items) parts
    c.name_in-word.ensures placed in
    let h = rw (names, nodes, same, seen, c.constraint_in.ensures) at c.in_err-constraint.ensures.gives in
    rw (p.1, p.2) (field_meaning_fails (known_types b) c.args.place (visible_in b) c.args.levels
    (names_in c.args.before.now.fields.items) parts t _ _ _ stands new label condition
    (rw (names_count c.args.before.now.fields.items) h))

pub returns-clause-gives : goal.returns-clause-gives
returns-clause-gives c =
    let b = c.args.self.now in
    let parts = (field_tree c.args.written.now).parts in
    let t = type_of b.nodes c.args.found.node in
    let stands : if_here (may_stand c.args.place (has_some (bit_width t)) parts) ≡ Ok tt =
    rw c.has_width-bits.ensures at c.in_default.ensures in
    let new : fresh parts.name (names_in c.args.before.now.fields.items) ≡ Ok tt =
    rw c.name_in-word.ensures at c.in_default-check_new_name.ensures in
    let label = rw c.label_in.ensures at c.in_ok-label.ensures.gives in
    let names = c.in_ok-condition.ensures.names ∙ c.in_ok-label.ensures.names in
    let nodes = c.in_ok-condition.ensures.nodes ∙ c.in_ok-label.ensures.nodes in
    let same = c.in_ok-condition.ensures.seen ∙ c.in_ok-label.ensures.seen in
    let condition = rw (
      c.in_ok-label.ensures.names,
      c.in_ok-label.ensures.nodes,
      c.in_ok-label.ensures.seen,
      c.condition_in.ensures,
    ) at c.in_ok-condition.ensures.gives in
    let s : Seen = record {
      name = c.name_in-word.result;
      level = c.args.levels;
      place = c.place_in.result;
      node = c.args.found.node;
    } in
    let placed = rw c.len.ensures at c.place_in.ensures in
    let seen = itself_seen b.nodes b.seen s c.args.place (length c.args.before.now.fields.items) parts
    c.name_in-word.ensures placed in
    let h = rw (names, nodes, same, seen, c.constraint_in.ensures) at c.in_ok-constraint.ensures.gives in
    let field : Field = record {
      name = c.in_ok-name.name;
      order = c.order_in.result;
      node = c.args.found.node;
      constraint = c.in_ok-constraint.constraint;
      label = c.in_ok-label.label;
      condition = c.in_ok-condition.condition;
    } in (
      record {
        type = t;
        constraint = optional_term field.constraint;
        label = optional_term field.label;
        condition = optional_term field.condition;
      },
      field_meaning_is (known_types b) c.args.place (visible_in b) c.args.levels
          (names_in c.args.before.now.fields.items) parts t _ _ _ stands new label condition
          (rw (names_count c.args.before.now.fields.items) h),
      field_built b c.constraint.new.self s c.args.place (length c.args.before.now.fields.items) parts field
          c.requires.seen c.requires.inside
          (c.in_ok-constraint.ensures.names ∙ names) (c.in_ok-constraint.ensures.nodes ∙ nodes)
          (rw same at c.in_ok-constraint.ensures.seen)
          c.name_in-word.ensures placed refl (c.in_ok-name.ensures.ok ∙ c.name_in-word.ensures) c.order_in.ensures,
    )
