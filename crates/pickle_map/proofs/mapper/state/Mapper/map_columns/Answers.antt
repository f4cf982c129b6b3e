use Rattle.std.proofs.Common.{rules, ◌≡◌, ◌+◌, ◌∷◌, drop, length, refl, sym, ap, subst, ◌∙◌, arith}
use Rattle.std.proofs.lemmas.List.{drop_more, drop_all, take_all}
use Rattle.std.proofs.lemmas.Result.{err_from_is_err_and}
use Rattle.pickle_types.specs.Table.{type_of}
use Rattle.mapping_plans.specs.Rows.{scalar_shape}
use Rattle.value_store.specs.Packed.{bytes_for}
use Rattle.value_store.specs.PackedStructs.{struct_bytes}
use Rattle.pickle_map.specs.Columns.{AddsColumns, shapes_of}
use Rattle.pickle_map.specs.Mappable.{IsFieldOf}
use Rattle.value_store.specs.Slots.{level_count, number_bits}
use Rattle.pickle_map.proofs.Columns.{first_column, adds_none, adds_more, adds_length, places_none, places_more, column_stops, column_goes}
use Rattle.pickle_map.proofs.RecordRows.{shapes_more}
use Rattle.pickle_map.proofs.Keeping.{same_stays, stays_then}
use Rattle.pickle_map.proofs.Mapping.{fields_end, fields_no_tick}
use Rattle.pickle_map.proofs.Shapes.{of_one}
use Rattle.pickle_map.proofs.Walks.{follow_here, follow_on}
use Rattle.pickle_map.proofs.Worlds.{in_world, in_later}
use Rattle.pickle_map.proofs.mapper.state.Mapper.map_columns.Goals as goal

pub loop-field-init : goal.loop-field-init
loop-field-init g c = record {
  lent = search rules;
  frame = search rules;
  after = search rules;
  inside = search rules;
  level = same_stays c.args.self.now.nodes.now c.args.self.now.store.now;
  columns = c.requires.columns;
  more = places_none c.args.self.now.store.now c.args.self.now.store.now refl;
  adds = adds_none c.args.self.now.store.now c.args.start.bit c.args.row.now.items c.requires.holds;
  room = c.requires.room;
  so_far = follow_here;
}

pub returns-in_err-tick-clause-is : goal.returns-in_err-tick-clause-is
returns-in_err-tick-clause-is g c =
    let p = err_from_is_err_and c.from_residual.result c.from_residual.ensures.1 in
    let i = c.loop-field.invariant in
    let e = c.in_err-tick.ensures in
    let next = drop_more c.args.fields.now c.loop-field.field-index c.field-item.result (omega arith) in
    let next = rw (← c.field-item.is) at next in
    rw (p.1, p.2) (follow_on i.so_far
    (fields_no_tick _ _ _ _ _ _ _ _ _ _ _ next e.err (e.err ∙ e.refused.0 refl ∙ i.frame.limit) e.made))

pub map_column-requires : goal.map_column-requires
map_column-requires g c =
    let i = c.loop-field.invariant in
    let next = drop_more c.args.fields.now c.loop-field.field-index c.field-item.result (omega arith) in
    let next = rw (← c.field-item.is) at next in
    let first = first_column (type_of c.args.self.now.nodes.now) _ c.field-item.result _ next i.columns in
    let field = of_one (IsFieldOf c.args.self.now.nodes.now (level_count c.args.self.now.store.now)) c.args.fields.now
    c.loop-field.field-index c.field-item.result c.requires.fields (omega arith) c.field-item.is in
    let scalar = first.0 in
    search rules

pub returns-in_err-place-clause-is : goal.returns-in_err-place-clause-is
returns-in_err-place-clause-is g c =
    let p = err_from_is_err_and c.from_residual-in_err-place.result c.from_residual-in_err-place.ensures.1 in
    let i = c.loop-field.invariant in
    let e = c.in_ok-tick.ensures in
    let next = drop_more c.args.fields.now c.loop-field.field-index c.field-item.result (omega arith) in
    let next = rw (← c.field-item.is) at next in
    let first = first_column (type_of c.args.self.now.nodes.now) _ c.field-item.result _ next i.columns in
    let h = rw (i.lent.nodes, i.frame.len, c.byte_order.ensures) at c.in_err-place.ensures.is in
    let h = in_world (g.S.Space.view c.args.space.now) (g.S.Space.view c.loop-field.space) i.frame.bytes i.frame.room
    c.in_err-place.ensures.frame.left.room h in
    rw (p.1, p.2) (follow_on (in_later i.frame.room c.in_err-place.ensures.frame.left.room i.so_far)
    (column_stops _ _ _ _ _ _ _ _ _ next first.2 first.3 (e.limit ∙ i.frame.limit) e.ok e.made _ h))

pub returns-in_err-place-clause-level : goal.returns-in_err-place-clause-level
returns-in_err-place-clause-level g c =
    let i = c.loop-field.invariant in
    stays_then c.args.self.now.nodes.now _ _ _ i.level (rw i.lent.nodes at c.in_err-place.ensures.level)

pub loop-field-preserved : goal.loop-field-preserved
loop-field-preserved g c =
    let i = c.loop-field.invariant in
    let e = c.in_ok-tick.ensures in
    let next = drop_more c.args.fields.now c.loop-field.field-index c.field-item.result (omega arith) in
    let next = rw (← c.field-item.is) at next in
    let first = first_column (type_of c.args.self.now.nodes.now) _ c.field-item.result _ next i.columns in
    let m = rw i.lent.nodes at c.in_ok-place.ensures.is in
    let h = rw (i.frame.len, c.byte_order.ensures) at m.follows in
    let h = in_world (g.S.Space.view c.args.space.now) (g.S.Space.view c.loop-field.space) i.frame.bytes i.frame.room
    c.in_ok-place.ensures.frame.left.room h in
    let ends = c.in_ok-place.ensures.ends in
    let adds = rw i.lent.nodes at c.in_ok-place.ensures.adds in
    let nodes = c.args.self.now.nodes.now in
    let shape = scalar_shape (type_of nodes c.field-item.result.node) in
    let more = shapes_more (type_of nodes) c.args.fields.now c.loop-field.field-index c.field-item.result (omega arith)
    (sym c.field-item.is) in
    let longer : length c.map_column.new.row.items ≡ length c.loop-field.row.items + bytes_for (number_bits shape) =
    adds_length _ _ shape _ _ _ _ adds in
    let rest : struct_bytes (shapes_of (type_of nodes) (drop c.loop-field.field-index c.args.fields.now)) ≡ struct_bytes
    (shapes_of (type_of nodes) (c.field-item.result ∷ drop (c.loop-field.field-index + 1) c.args.fields.now)) =
    ap (λ fs. struct_bytes (shapes_of (type_of nodes) fs)) next in
    record {
      lent = search rules;
      frame = search rules;
      after = search rules;
      inside = search rules;
      level = stays_then c.args.self.now.nodes.now _ _ _ i.level (rw i.lent.nodes at c.in_ok-place.ensures.level);
      columns = first.4;
      more = places_more _ _ _ i.more c.in_ok-place.ensures.more;
      adds = rw more (adds_more _ _ _ _ shape c.args.start.bit _ _ _ _ _ i.adds adds);
      room = omega (arith, i.room, rest, longer);
      so_far =
          rw m.kept (follow_on (in_later i.frame.room c.in_ok-place.ensures.frame.left.room i.so_far) (column_goes _ _ _
          _ _ _ _ _ _ next first.2 first.3 (e.limit ∙ i.frame.limit) e.ok e.made m.value _ m.ends ends.0 h));
    }

pub returns-clause-is : goal.returns-clause-is
returns-clause-is g c =
    let i = c.loop-field.invariant in
    follow_on i.so_far
    (fields_end _ _ _ _ _ _ _ _ _ (drop_all c.loop-field.field-index c.args.fields.now (omega arith)))

pub returns-clause-adds : goal.returns-clause-adds
returns-clause-adds g c =
    let all = take_all c.loop-field.field-index c.args.fields.now (omega arith) in
    subst (λ fs.
    AddsColumns c.args.self.now.store.now c.loop-field.self.store.now (shapes_of (type_of c.args.self.now.nodes.now) fs)
    c.args.start.bit c.loop-field.place c.args.row.now.items c.loop-field.row.items) all c.loop-field.invariant.adds

pub returns-in_err-place-clause-more : goal.returns-in_err-place-clause-more
returns-in_err-place-clause-more g c = places_more _ _ _ c.loop-field.invariant.more c.in_err-place.ensures.more
