use Rattle.std.proofs.Common.{rules, ◌≡◌, ◌+◌, ◌∷◌, drop, take, sym, ap, subst, ◌∙◌, arith}
use Rattle.std.proofs.lemmas.List.{drop_more, take_all}
use Rattle.pickle_types.specs.Table.{type_of}
use Rattle.mapping_plans.specs.Rows.{scalar_shape}
use Rattle.value_store.specs.Moves.{State}
use Rattle.value_store.specs.PackedStructs.{struct_bytes}
use Rattle.pickle_map.specs.Columns.{shapes_of}
use Rattle.pickle_map.specs.Records.{Drafts}
use Rattle.pickle_map.proofs.Columns.{first_column}
use Rattle.pickle_map.proofs.Keeping.{regrown_stays, pushed_stays}
use Rattle.pickle_map.proofs.RecordRows.{shapes_more, bits_few, drafts_more}
use Rattle.value_store.proofs.PackedStructs.{bits-push, bytes-push}
use Rattle.pickle_map.proofs.RecordTypes.{width_is_bits}
use Rattle.pickle_map.proofs.mapper.packed_structs.draft_columns.Goals as goal

pub returns-in_err-push_column-clause-stays : goal.returns-in_err-push_column-clause-stays
returns-in_err-push_column-clause-stays c =
    regrown_stays c.args.nodes.now _ _ _ c.loop-field.invariant.stays c.in_err-push_column.ensures.err

pub overflow_add-place : goal.overflow_add-place
overflow_add-place c =
    let i = c.loop-field.invariant in
    let few = bits_few (shapes_of (type_of c.args.nodes.now) (take c.loop-field.field-index c.args.fields.now)) in
    let wide = c.width_at-width.ensures.most in
    let short = c.requires.short in
    omega (arith, i.place, i.at, i.few, few, wide, c.from-place.ensures, short)

pub loop-field-preserved : goal.loop-field-preserved
loop-field-preserved c =
    let i = c.loop-field.invariant in
    let nodes = c.args.nodes.now in
    let next = drop_more c.args.fields.now c.loop-field.field-index c.field-item.result (omega arith) in
    let next = rw (← c.field-item.is) at next in
    let first = first_column (type_of nodes) _ c.field-item.result _ next i.columns in
    let cs = shapes_of (type_of nodes) (take c.loop-field.field-index c.args.fields.now) in
    let shape = scalar_shape (type_of nodes c.field-item.result.node) in
    let more = shapes_more (type_of nodes) c.args.fields.now c.loop-field.field-index c.field-item.result (omega arith)
    (sym c.field-item.is) in
    let width = c.width_at-width.ensures.is ∙ width_is_bits (type_of nodes c.field-item.result.node) first.0 in
    let rest : struct_bytes (shapes_of (type_of nodes) (drop c.loop-field.field-index c.args.fields.now)) ≡ struct_bytes
    (shapes_of (type_of nodes) (c.field-item.result ∷ drop (c.loop-field.field-index + 1) c.args.fields.now)) =
    ap (λ fs. struct_bytes (shapes_of (type_of nodes) fs)) next in
    let e = c.in_ok-push_column.ensures in
    let d = rw c.column_shape-shape.ensures.is at e.draft in
    record {
      columns = first.4;
      place = rw more (omega (arith, i.place, bits-push cs shape, width, c.from-place.ensures));
      at = rw more (omega (arith, i.at, bytes-push cs shape, width, c.from.ensures));
      few = omega (arith, i.few, rest, width, c.from.ensures);
      draft = rw more
          (drafts_more nodes _ _ _ cs shape c.args.start c.loop-field.place c.loop-field.at i.draft d i.place i.at);
      within = search rules;
      state = search rules;
      room = search rules;
      stays = pushed_stays nodes _ _ _ _ i.stays (e.ok nodes) e.depth (ap (λ (s : State). s.frames) e.moves)
          e.extends;
    }

pub returns-clause-draft : goal.returns-clause-draft
returns-clause-draft c =
    let all = take_all c.loop-field.field-index c.args.fields.now (omega arith) in
    subst (λ fs.
    Drafts c.args.nodes.now c.args.store.now c.loop-field.store (shapes_of (type_of c.args.nodes.now) fs) c.args.start)
    all c.loop-field.invariant.draft
