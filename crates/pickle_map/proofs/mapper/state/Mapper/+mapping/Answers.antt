use Rattle.pickle_map.proofs.mapper.state.Mapper.+mapping.Goals.{map_fields-then-branch+in_ok-place+in_ok-last_end, map_fields-else-branch+in_ok-push_absent, values_body-then-end-start+in_ok-close_array, values_body-else-end-start}
use Rattle.std.proofs.Common.{rules, ◌+◌, ◌*◌, ◌^◌, ◌<◌, ◌≤◌, max, [], ◌∷◌, ◌++◌, Some, refl, subst, sym, ap, ◌∙◌, arith}
use Rattle.std.specs.Prelude.{nat_eq}
use Rattle.std.proofs.lemmas.Bool.{eqb-true, eqb-false}
use Rattle.std.proofs.lemmas.List.{drop_more, drop_all}
use Rattle.std.proofs.lemmas.Result.{err_from_is_err_and}
use Rattle.pickle_types.specs.Types.{depth}
use Rattle.pickle_types.specs.Bounds.{least_width, count_of}
use Rattle.pickle_types.specs.Table.{type_of}
use Rattle.pickle_map.specs.Mappable.{IsFieldOf, IsPartOf}
use Rattle.mapping_plans.specs.Mapping.{plan, element_plan, array_move}
use Rattle.pickle_meaning.specs.Means.{number_type}
use Rattle.value_store.specs.Slots.{levels, level_count, packs}
use Rattle.pickle_meaning.specs.Values.{end_of, pushed, outer_of}
use Rattle.pickle_map.proofs.Clauses.{checks_ok, checks_stop, settles_ok, settles_stop}
use Rattle.value_store.specs.declared.store.slots.Marks.{Marks}
use Rattle.pickle_map.proofs.RecordRows.{opened_is}
use Rattle.pickle_map.proofs.Followed.{followed_fits, followed_wide}
use Rattle.value_store.specs.Moves.{State}
use Rattle.pickle_map.proofs.Keeping.{added_stays, cleared_keeps, closes_level, keeps_then, regrown_stays, pushed_stays, same_adds, same_stays, stays_then, stopped_stays}
use Rattle.pickle_map.proofs.Added.{value_added}
use Rattle.pickle_map.proofs.PackedValues.{added_more, first_taken, first_cannot, first_makes, first_holds, first_added, first_adds, first_moves, next_taken, next_cannot, next_makes, next_added, next_adds, next_moves, not_opened, value_packed, value_refused, value_frames, values_stay, packed_stays, stopped_regrown, array_pending}
use Rattle.pickle_map.proofs.RecordArrays.{none_moves, some_moves, none_lacks}
use Rattle.pickle_map.proofs.RecordElements.{ends_with_memory}
use Rattle.pickle_map.proofs.ValueElements.{among_values, none_there, some_there, value_goes, value_stops}
use Rattle.pickle_map.proofs.ValueArrays.{none_closed, some_closed, laid_nodes}
use Rattle.pickle_map.specs.Row.{PacksValues}
use Rattle.pickle_map.specs.LaidArrays.{IsAmong, IsLaidArray, no_values, some_values}
use Rattle.pickle_meaning.specs.Means.{array_value}
use Rattle.mapping_plans.proofs.Fitting.{fits_wide}
use Rattle.mapping_plans.proofs.LaidValues.{element_is}
use Rattle.mapping_plans.proofs.TableWidths.{table_widths}
use Rattle.value_store.specs.Exceeding.{Exceeds}
use Rattle.pickle_map.proofs.Left.{left_open, left_keeps, left_adds}
use Rattle.mapping_plans.specs.Rows.{row_of}
use Rattle.pickle_map.proofs.Elements.{element_done, element_stopped, array_moves, array_lacks}
use Rattle.pickle_map.proofs.Worlds.{has_room, same_room, room_then, in_world, in_later, moves_by, moves_to, lacks_these}
use Rattle.pickle_map.proofs.Mapping.{few_enough, inside_no_tick, inside_ticks, plan_past, number_is, text_is, struct_is, array_is, union_is, struct_no_room, struct_made, array_no_room, array_made, union_no_room, union_made, fields_end, fields_no_tick, condition_stops, absent_no_room, absent_goes, start_stops, field_stops, field_goes, elements_end, elements_beyond, elements_no_tick, elements_no_bits, elements_goes, elements_over, elements_stop, alternatives_end, alternatives_no_tick, alternatives_fit, alternatives_miss, alternatives_stop}
use Rattle.value_store.proofs.PackedRows.{row-opened}
use Rattle.pickle_map.proofs.Shapes.{opened_as, below_as, sound_as, names_as, fields_within, parts_within, fields_bounded, parts_bounded, field_bounded, part_bounded, of_one, name_of_one, struct_opened, union_opened, fields_named}
use Rattle.pickle_map.proofs.Walks.{follow_here, follow_on, follow_at, follow_stop, follow_then_ok}
use Rattle.pickle_map.proofs.mapper.state.Mapper.+mapping.Goals as goal

pub map_type-returns-then-from-start-clause-is : goal.map_type-returns-then-from-start-clause-is
map_type-returns-then-from-start-clause-is g t c =
    plan_past _ _ _ _ _ (omega arith)

pub map_type-returns-then-from-start-clause-level : goal.map_type-returns-then-from-start-clause-level
map_type-returns-then-from-start-clause-level g t c = same_adds c.args.self.now.nodes.now c.args.self.now.store.now _

pub map_inside-map_integer-requires : goal.map_inside-map_integer-requires
map_inside-map_integer-requires g t c =
    let width = below_as c.args.self.now.nodes.now c.args.self.now.table c.args.at c.requires.at c.index-nodes-at.result
    _ c.in-Integer.is in
    search rules

pub map_inside-returns-in-Integer-clause-is : goal.map_inside-returns-in-Integer-clause-is
map_inside-returns-in-Integer-clause-is g t c = rw (
  opened_as c.args.self.now.nodes.now c.args.self.now.table c.args.at c.requires.at
      c.index-nodes-at.result _ c.in-Integer.is,
  number_is _ _ _ _ _ _ refl c.requires.inside,
) (c.map_integer.ensures.is)

pub map_inside-returns-in-Integer-clause-level : goal.map_inside-returns-in-Integer-clause-level
map_inside-returns-in-Integer-clause-level g t c = c.map_integer.ensures.level

pub map_inside-map_text-requires-clause-open : goal.map_inside-map_text-requires-clause-open
unfolding depth
map_inside-map_text-requires-clause-open g t c =
    let deep =
    rw (opened_as c.args.self.now.nodes.now c.args.self.now.table c.args.at c.requires.at c.index-nodes-at.result
    _ c.in-String.is) at c.requires.open in
    omega (arith, deep)

pub map_inside-returns-in-String-clause-is : goal.map_inside-returns-in-String-clause-is
map_inside-returns-in-String-clause-is g t c = rw (
  opened_as c.args.self.now.nodes.now c.args.self.now.table c.args.at c.requires.at
      c.index-nodes-at.result _ c.in-String.is,
  text_is _ _ _ _ c.requires.inside,
) c.map_text.ensures.is

pub map_shape-map_number-requires-clause-number : goal.map_shape-map_number-requires-clause-number
map_shape-map_number-requires-clause-number g t c =
    ap number_type (opened_as c.args.self.now.nodes.now c.args.self.now.table
    c.args.at c.requires.at c.index-nodes-at.result _ c.in-Integer.is)

pub map_shape-map_number-requires-clause-width : goal.map_shape-map_number-requires-clause-width
map_shape-map_number-requires-clause-width g t c = (below_as c.args.self.now.nodes.now c.args.self.now.table c.args.at
    c.requires.at c.index-nodes-at.result _ c.in-Integer.is)

pub map_shape-returns-in-Integer-clause-is : goal.map_shape-returns-in-Integer-clause-is
map_shape-returns-in-Integer-clause-is g t c =
    rw (number_is _ _ _ _ _ _ (ap number_type (opened_as c.args.self.now.nodes.now c.args.self.now.table c.args.at
    c.requires.at c.index-nodes-at.result _ c.in-Integer.is)) c.requires.inside) c.map_number.ensures.is

pub map_shape-map_number-requires-in-Offset-clause-number : goal.map_shape-map_number-requires-in-Offset-clause-number
map_shape-map_number-requires-in-Offset-clause-number g t c = ap number_type (opened_as c.args.self.now.nodes.now
    c.args.self.now.table c.args.at c.requires.at c.index-nodes-at.result _ c.in-Offset.is)

pub map_shape-map_number-requires-in-Offset-clause-width : goal.map_shape-map_number-requires-in-Offset-clause-width
map_shape-map_number-requires-in-Offset-clause-width g t c = (below_as c.args.self.now.nodes.now c.args.self.now.table
    c.args.at c.requires.at c.index-nodes-at.result _ c.in-Offset.is).0

pub map_shape-returns-in-Offset-clause-is : goal.map_shape-returns-in-Offset-clause-is
map_shape-returns-in-Offset-clause-is g t c =
    rw (number_is _ _ _ _ _ _ (ap number_type (opened_as c.args.self.now.nodes.now c.args.self.now.table c.args.at
    c.requires.at c.index-nodes-at.result _ c.in-Offset.is)) c.requires.inside) c.map_number-in-Offset.ensures.is

pub map_shape-map_number-requires-in-Integral-clause-number :
    goal.map_shape-map_number-requires-in-Integral-clause-number
map_shape-map_number-requires-in-Integral-clause-number g t c = ap number_type (opened_as c.args.self.now.nodes.now
    c.args.self.now.table c.args.at c.requires.at c.index-nodes-at.result _ c.in-Integral.is)

pub map_shape-map_number-requires-in-Integral-clause-width : goal.map_shape-map_number-requires-in-Integral-clause-width
map_shape-map_number-requires-in-Integral-clause-width g t c = (below_as c.args.self.now.nodes.now c.args.self.now.table
    c.args.at c.requires.at c.index-nodes-at.result _ c.in-Integral.is).0

pub map_shape-returns-in-Integral-clause-is : goal.map_shape-returns-in-Integral-clause-is
map_shape-returns-in-Integral-clause-is g t c =
    rw (number_is _ _ _ _ _ _ (ap number_type (opened_as c.args.self.now.nodes.now c.args.self.now.table c.args.at
    c.requires.at c.index-nodes-at.result _ c.in-Integral.is)) c.requires.inside) c.map_number-in-Integral.ensures.is

pub map_shape-map_text-requires-clause-open : goal.map_shape-map_text-requires-clause-open
unfolding depth
map_shape-map_text-requires-clause-open g t c =
    let deep =
    rw (opened_as c.args.self.now.nodes.now c.args.self.now.table c.args.at c.requires.at c.index-nodes-at.result
    _ c.in-String.is) at c.requires.open in
    omega (arith, deep)

pub map_shape-map_array-requires : goal.map_shape-map_array-requires
unfolding depth
map_shape-map_array-requires g t c =
    let below = below_as c.args.self.now.nodes.now c.args.self.now.table c.args.at c.requires.at
    c.index-nodes-at.result _ c.in-Array.is in
    let sound = sound_as c.args.self.now.nodes.now c.args.self.now.table c.args.at c.requires.at
    c.index-nodes-at.result _ c.in-Array.is in
    let deep =
    rw (opened_as c.args.self.now.nodes.now c.args.self.now.table c.args.at c.requires.at c.index-nodes-at.result
    _ c.in-Array.is) at c.requires.open in
    search rules

pub map_shape-map_struct-requires : goal.map_shape-map_struct-requires
unfolding depth
map_shape-map_struct-requires g t c =
    let below = below_as c.args.self.now.nodes.now c.args.self.now.table c.args.at c.requires.at
    c.index-nodes-at.result _ c.in-Struct.is in
    let names = names_as c.args.self.now.nodes.now c.args.self.now.table c.args.at c.requires.at
    c.index-nodes-at.result _ c.in-Struct.is in
    let sound = sound_as c.args.self.now.nodes.now c.args.self.now.table c.args.at c.requires.at
    c.index-nodes-at.result _ c.in-Struct.is in
    let deep =
    rw (opened_as c.args.self.now.nodes.now c.args.self.now.table c.args.at c.requires.at c.index-nodes-at.result
    _ c.in-Struct.is) at c.requires.open in
    let fields = fields_within c.args.self.now.nodes.now c.args.at c.requires.at
    (level_count c.args.self.now.store.now + 1) c.in-Struct.fields.items below sound (omega (arith, deep)) in
    let bounded = fields_bounded c.args.at c.in-Struct.fields.items below in
    rw c.deref.ensures.value (search rules)

pub map_shape-map_union-requires : goal.map_shape-map_union-requires
unfolding depth
map_shape-map_union-requires g t c =
    let below = below_as c.args.self.now.nodes.now c.args.self.now.table c.args.at c.requires.at
    c.index-nodes-at.result _ c.in-Union.is in
    let names = names_as c.args.self.now.nodes.now c.args.self.now.table c.args.at c.requires.at
    c.index-nodes-at.result _ c.in-Union.is in
    let sound = sound_as c.args.self.now.nodes.now c.args.self.now.table c.args.at c.requires.at
    c.index-nodes-at.result _ c.in-Union.is in
    let deep =
    rw (opened_as c.args.self.now.nodes.now c.args.self.now.table c.args.at c.requires.at c.index-nodes-at.result
    _ c.in-Union.is) at c.requires.open in
    let alternatives = parts_within c.args.self.now.nodes.now c.args.at c.requires.at
    (level_count c.args.self.now.store.now + 1) c.in-Union.alternatives.items below sound.0 (omega (arith, deep)) in
    let bounded = parts_bounded c.args.at c.in-Union.alternatives.items below in
    let few = sound.1 in
    rw c.deref-in-Union.ensures.value (search rules)

pub map_shape-returns-in-String-clause-is : goal.map_shape-returns-in-String-clause-is
map_shape-returns-in-String-clause-is g t c = rw (
  opened_as c.args.self.now.nodes.now c.args.self.now.table c.args.at c.requires.at
      c.index-nodes-at.result _ c.in-String.is,
  text_is _ _ _ _ c.requires.inside,
) c.map_text.ensures.is

pub map_shape-returns-in-Array-clause-is : goal.map_shape-returns-in-Array-clause-is
map_shape-returns-in-Array-clause-is g t c = rw (opened_as c.args.self.now.nodes.now c.args.self.now.table c.args.at
    c.requires.at c.index-nodes-at.result _ c.in-Array.is) c.map_array.ensures.is

pub map_shape-returns-in-Struct-clause-is : goal.map_shape-returns-in-Struct-clause-is
map_shape-returns-in-Struct-clause-is g t c =
    rw (struct_opened c.args.self.now.nodes.now c.args.self.now.table c.args.at
    c.requires.at c.index-nodes-at.result _ _ _ _ c.in-Struct.is c.deref.ensures.value) c.map_struct.ensures.is

pub map_shape-returns-in-Union-clause-is : goal.map_shape-returns-in-Union-clause-is
map_shape-returns-in-Union-clause-is g t c = rw (union_opened c.args.self.now.nodes.now c.args.self.now.table c.args.at
    c.requires.at c.index-nodes-at.result _ _ _ c.in-Union.is c.deref-in-Union.ensures.value) c.map_union.ensures.is

pub map_checked-returns-in_err-end-clause-is : goal.map_checked-returns-in_err-end-clause-is
map_checked-returns-in_err-end-clause-is g t c =
    let p = err_from_is_err_and c.from_residual.result c.from_residual.ensures.1 in
    rw (p.1, p.2) (follow_stop _ _ _ c.in_err-end.ensures.is)

pub map_checked-returns-in_err-check-clause-is : goal.map_checked-returns-in_err-check-clause-is
map_checked-returns-in_err-check-clause-is g t c =
    let p = err_from_is_err_and c.from_residual-in_err-check.result c.from_residual-in_err-check.ensures.1 in
    let h = c.in_ok-end.ensures.is in
    let checked = rw h.kept at c.in_err-check.ensures.is in
    rw (p.1, p.2) (checks_stop _ _ _ _ h.value h.follows c.in_ok-end.ensures.frame.left.limit
    c.in_err-check.ensures.meter.made _ (omega arith) checked)

pub map_checked-returns-in_err-end-clause-level : goal.map_checked-returns-in_err-end-clause-level
map_checked-returns-in_err-end-clause-level g t c = stopped_stays c.args.self.now.nodes.now _ _ _ _
    (same_stays _ _) c.in_err-end.ensures.level

pub map_checked-returns-in_err-check-clause-level : goal.map_checked-returns-in_err-check-clause-level
map_checked-returns-in_err-check-clause-level g t c = added_stays c.args.self.now.nodes.now _ _ _ _ _ (same_stays _ _)
    c.in_ok-end.ensures.is.kept c.in_ok-end.ensures.level

pub map_checked-returns-clause-level : goal.map_checked-returns-clause-level
map_checked-returns-clause-level g t c = added_stays c.args.self.now.nodes.now _ _ _ _ _ (same_stays _ _)
    c.in_ok-end.ensures.is.kept c.in_ok-end.ensures.level

pub map_checked-returns-clause-is : goal.map_checked-returns-clause-is
map_checked-returns-clause-is g t c =
    let h = c.in_ok-end.ensures.is in
    let checked = rw h.kept at c.in_ok-check.ensures.is in
    record {
      value = h.value;
      kept = h.kept;
      ends = h.ends;
      follows = checks_ok _ _ _ _ h.value h.follows c.in_ok-end.ensures.frame.left.limit
          c.in_ok-check.ensures.meter.made tt checked;
    }

pub map_struct-returns-in_err-tick-clause-is : goal.map_struct-returns-in_err-tick-clause-is
map_struct-returns-in_err-tick-clause-is g t c =
    let p = err_from_is_err_and c.from_residual.result c.from_residual.ensures.1 in
    let e = c.in_err-tick.ensures in
    rw (p.1, p.2, struct_is) (inside_no_tick _ _ _ c.requires.inside e.err (e.err ∙ e.refused.0 refl) e.made)

pub map_struct-returns-in_err-tick-clause-level : goal.map_struct-returns-in_err-tick-clause-level
map_struct-returns-in_err-tick-clause-level g t c =
    let p = err_from_is_err_and c.from_residual.result c.from_residual.ensures.1 in
    rw p.1 (same_adds c.args.self.now.nodes.now c.args.self.now.store.now _)

pub map_struct-leave_level-requires : goal.map_struct-leave_level-requires
map_struct-leave_level-requires g t c = left_open c.args.self.now.nodes.now c.open_level.ensures.room
    c.struct_body-mapped.ensures.frame.left.room c.open_level.ensures.depth _ c.struct_body-mapped.ensures.level

pub map_struct-returns-clause-is : goal.map_struct-returns-clause-is
map_struct-returns-clause-is g t c =
    let e = c.in_ok-tick.ensures in
    let o = c.open_level.ensures in
    let left = c.leave_level.ensures in
    let h = rw (o.levels c.args.self.now.nodes.now) at c.struct_body-mapped.ensures.is in
    rw struct_is (left_keeps c.args.self.now.nodes.now o.room c.struct_body-mapped.ensures.frame.left.room left.room _
    o.moves o.within (λ _ h. inside_ticks _ _ _ c.requires.inside e.limit e.ok e.made h) (λ end. end) _ left.left h)

pub map_struct-returns-clause-level : goal.map_struct-returns-clause-level
map_struct-returns-clause-level g t c =
    let o = c.open_level.ensures in
    left_adds c.args.self.now.nodes.now o.room c.struct_body-mapped.ensures.frame.left.room c.leave_level.ensures.room
    o.depth (o.levels c.args.self.now.nodes.now) o.slots o.moves _ c.struct_body-mapped.ensures.level
    c.leave_level.ensures.left

pub map_union-returns-in_err-tick-clause-is : goal.map_union-returns-in_err-tick-clause-is
map_union-returns-in_err-tick-clause-is g t c =
    let p = err_from_is_err_and c.from_residual.result c.from_residual.ensures.1 in
    let e = c.in_err-tick.ensures in
    rw (p.1, p.2, union_is) (inside_no_tick _ _ _ c.requires.inside e.err (e.err ∙ e.refused.0 refl) e.made)

pub map_union-returns-in_err-tick-clause-level : goal.map_union-returns-in_err-tick-clause-level
map_union-returns-in_err-tick-clause-level g t c =
    let p = err_from_is_err_and c.from_residual.result c.from_residual.ensures.1 in
    rw p.1 (same_adds c.args.self.now.nodes.now c.args.self.now.store.now _)

pub map_union-leave_level-requires : goal.map_union-leave_level-requires
map_union-leave_level-requires g t c = left_open c.args.self.now.nodes.now c.open_level.ensures.room
    c.union_body-mapped.ensures.frame.left.room c.open_level.ensures.depth _ c.union_body-mapped.ensures.level

pub map_union-returns-clause-is : goal.map_union-returns-clause-is
map_union-returns-clause-is g t c =
    let e = c.in_ok-tick.ensures in
    let o = c.open_level.ensures in
    let left = c.leave_level.ensures in
    let h = rw (o.levels c.args.self.now.nodes.now) at c.union_body-mapped.ensures.is in
    rw union_is (left_keeps c.args.self.now.nodes.now o.room c.union_body-mapped.ensures.frame.left.room left.room _
    o.moves o.within (λ _ h. inside_ticks _ _ _ c.requires.inside e.limit e.ok e.made h) (λ end. end) _ left.left h)

pub map_union-returns-clause-level : goal.map_union-returns-clause-level
map_union-returns-clause-level g t c =
    let o = c.open_level.ensures in
    left_adds c.args.self.now.nodes.now o.room c.union_body-mapped.ensures.frame.left.room c.leave_level.ensures.room
    o.depth (o.levels c.args.self.now.nodes.now) o.slots o.moves _ c.union_body-mapped.ensures.level
    c.leave_level.ensures.left

pub map_array-returns-in_err-tick-clause-is : goal.map_array-returns-in_err-tick-clause-is
map_array-returns-in_err-tick-clause-is g t c =
    let p = err_from_is_err_and c.from_residual.result c.from_residual.ensures.1 in
    let e = c.in_err-tick.ensures in
    rw (p.1, p.2, array_is) (inside_no_tick _ _ _ c.requires.inside e.err (e.err ∙ e.refused.0 refl) e.made)

pub map_array-returns-in_err-tick-clause-level : goal.map_array-returns-in_err-tick-clause-level
map_array-returns-in_err-tick-clause-level g t c =
    let p = err_from_is_err_and c.from_residual.result c.from_residual.ensures.1 in
    rw p.1 (same_adds c.args.self.now.nodes.now c.args.self.now.store.now _)

pub map_array-returns-in_err-extent-clause-level : goal.map_array-returns-in_err-extent-clause-level
map_array-returns-in_err-extent-clause-level g t c =
    let p = err_from_is_err_and c.from_residual-in_err-extent.result c.from_residual-in_err-extent.ensures.1 in
    rw p.1 (same_adds c.args.self.now.nodes.now c.args.self.now.store.now _)

pub map_array-leave_level-requires : goal.map_array-leave_level-requires
map_array-leave_level-requires g t c = left_open c.args.self.now.nodes.now c.open_level.ensures.room
    c.array_body-mapped.ensures.frame.left.room c.open_level.ensures.depth _ c.array_body-mapped.ensures.level

pub map_array-returns-clause-is : goal.map_array-returns-clause-is
map_array-returns-clause-is g t c =
    let e = c.in_ok-tick.ensures in
    let found = c.in_ok-extent.ensures in
    let o = c.open_level.ensures in
    let left = c.leave_level.ensures in
    let h = rw (o.levels c.args.self.now.nodes.now) at c.array_body-mapped.ensures.is in
    let extent = settles_ok _ _ _ refl (rw c.from.ensures at found.is) found.meter.made in
    rw array_is (left_keeps c.args.self.now.nodes.now o.room c.array_body-mapped.ensures.frame.left.room left.room _
    o.moves o.within (λ _ h. inside_ticks _ _ _ c.requires.inside e.limit e.ok e.made
    (follow_then_ok _ _ extent (follow_at found.meter.limit refl refl h))) (λ end. end) _ left.left h)

pub map_array-returns-clause-level : goal.map_array-returns-clause-level
map_array-returns-clause-level g t c =
    let o = c.open_level.ensures in
    left_adds c.args.self.now.nodes.now o.room c.array_body-mapped.ensures.frame.left.room c.leave_level.ensures.room
    o.depth (o.levels c.args.self.now.nodes.now) o.slots o.moves _ c.array_body-mapped.ensures.level
    c.leave_level.ensures.left

pub map_array-returns-in_err-extent-clause-is : goal.map_array-returns-in_err-extent-clause-is
map_array-returns-in_err-extent-clause-is g t c =
    let p = err_from_is_err_and c.from_residual-in_err-extent.result c.from_residual-in_err-extent.ensures.1 in
    let e = c.in_ok-tick.ensures in
    rw (p.1, p.2, array_is) (inside_ticks _ _ _ c.requires.inside e.limit e.ok e.made (follow_stop _ _ _ (settles_stop _
    _ _ refl (omega arith) (rw c.from.ensures at c.in_err-extent.ensures.is) c.in_err-extent.ensures.meter.made)))

pub map_array-array_body-mapped-requires : goal.map_array-array_body-mapped-requires
map_array-array_body-mapped-requires g t c =
    let depth = c.open_level.ensures.depth in
    let opened = c.open_level.ensures.levels c.args.self.now.nodes.now in
    let fresh = opened ∙ ap (λ o. [] ∷ o) (sym (ap outer_of opened)) in
    let opened = opened_is c.args.self.now.store.now c.open_level.new.self c.open_level.ensures.moves in
    search rules

pub map_struct-struct_body-mapped-requires : goal.map_struct-struct_body-mapped-requires
map_struct-struct_body-mapped-requires g t c =
    let depth = c.open_level.ensures.depth in
    let fields = rw (← depth) at c.requires.fields in
    search rules

pub map_union-union_body-mapped-requires : goal.map_union-union_body-mapped-requires
map_union-union_body-mapped-requires g t c =
    let depth = c.open_level.ensures.depth in
    let alternatives = rw (← depth) at c.requires.alternatives in
    let opened = c.open_level.ensures.levels c.args.self.now.nodes.now in
    let fresh = opened ∙ ap (λ o. [] ∷ o) (sym (ap outer_of opened)) in
    search rules

pub struct_body-returns-in_err-end-clause-is : goal.struct_body-returns-in_err-end-clause-is
struct_body-returns-in_err-end-clause-is g t c =
    let p = err_from_is_err_and c.from_residual.result c.from_residual.ensures.1 in
    rw (p.1, p.2) (follow_stop _ _ _ c.in_err-end.ensures.is)

pub struct_body-returns-in_err-close_struct-clause-is : goal.struct_body-returns-in_err-close_struct-clause-is
struct_body-returns-in_err-close_struct-clause-is g t c =
    let p =
    err_from_is_err_and c.from_residual-in_err-close_struct.result c.from_residual-in_err-close_struct.ensures.1 in
    let named = c.requires.names ∙ sym (fields_named (type_of c.args.self.now.nodes.now) c.args.fields.now) in
    let full = rw named at (c.in_err-close_struct.ensures.full c.args.self.now.nodes.now) in
    rw (p.1, p.2) (struct_no_room _ _ _ _
    (in_later c.in_ok-end.ensures.frame.left.room c.in_err-close_struct.ensures.room c.in_ok-end.ensures.is) _ _
    (lacks_these c.in_ok-end.ensures.frame.left.room tt full c.in_err-close_struct.ensures.lacks))

pub struct_body-returns-in_err-close_struct-clause-level : goal.struct_body-returns-in_err-close_struct-clause-level
struct_body-returns-in_err-close_struct-clause-level g t c =
    let p =
    err_from_is_err_and c.from_residual-in_err-close_struct.result c.from_residual-in_err-close_struct.ensures.1 in
    rw p.1 (regrown_stays c.args.self.now.nodes.now _ _ _ c.in_ok-end.ensures.level c.in_err-close_struct.ensures.err)

pub struct_body-returns-clause-is : goal.struct_body-returns-clause-is
struct_body-returns-clause-is g t c =
    let n = c.note_made.ensures in
    let named = c.requires.names ∙ sym (fields_named (type_of c.args.self.now.nodes.now) c.args.fields.now) in
    let closed = rw named at (c.in_ok-close_struct.ensures.ok c.args.self.now.nodes.now) in
    let h = rw c.in_ok-end.ensures.level.outer at closed in
    let room = c.in_ok-close_struct.ensures.room in
    let moves =
    moves_to c.in_ok-end.ensures.frame.left.room c.close_struct.ensures.room (same_room c.close_struct.new.self)
    c.in_ok-close_struct.ensures.within c.in_ok-close_struct.ensures.light c.in_ok-close_struct.ensures.moves tt in
    record {
      value = _;
      kept = h;
      ends = refl;
      follows = struct_made _ _ _ _ (in_later c.in_ok-end.ensures.frame.left.room room c.in_ok-end.ensures.is) _ _
          moves n.steps n.made;
    }

pub struct_body-returns-clause-level : goal.struct_body-returns-clause-level
struct_body-returns-clause-level g t c =
    let e = c.in_ok-close_struct.ensures in
    closes_level c.args.self.now.nodes.now _ _ _ c.requires.open c.in_ok-end.ensures.level e.depth
    (ap (λ (s : State). s.frames) e.moves) e.below e.within

pub array_body-row_body-requires-clause-packing : goal.array_body-row_body-requires-clause-packing
array_body-row_body-requires-clause-packing g t c =
    let packs = c.in-Numbers.ensures.is in
    let short = g.met.S.Space.short c.args.space.now in
    row-opened c.args.self.now.nodes.now c.args.self.now.store.now c.in-Numbers.shape c.args.start.bit
    (outer_of (levels c.args.self.now.nodes.now c.args.self.now.store.now)) packs.packed packs.packs
    (omega (arith, c.requires.inside, short)) (sym (ap (λ (k : Marks). k.nodes) c.requires.opened))
    c.requires.sound c.requires.fresh

pub array_body-records_body-requires : goal.array_body-records_body-requires
unfolding depth
array_body-records_body-requires g t c =
    let p = c.in-Records.ensures.is in
    let deep = rw p.0.is at c.requires.open.1 in
    let fields = fields_within c.args.self.now.nodes.now c.args.element c.requires.element
    (level_count c.args.self.now.store.now + 1) c.in-Records.fields.now p.0.below p.0.sound (omega (arith, deep)) in
    let few : level_count c.args.self.now.store.now ≤ 64 = omega (arith, deep) in
    search rules

pub elements_body-returns-in_err-end-clause-is : goal.elements_body-returns-in_err-end-clause-is
elements_body-returns-in_err-end-clause-is g t c =
    let p = err_from_is_err_and c.from_residual.result c.from_residual.ensures.1 in
    rw (p.1, p.2) (follow_stop _ _ _ c.in_err-end.ensures.is)

pub elements_body-returns-in_err-close_array-clause-is : goal.elements_body-returns-in_err-close_array-clause-is
elements_body-returns-in_err-close_array-clause-is g t c =
    let p =
    err_from_is_err_and c.from_residual-in_err-close_array.result c.from_residual-in_err-close_array.ensures.1 in
    let apart = c.requires.apart in
    let lacks = lacks_these c.in_ok-end.ensures.frame.left.room tt
    (c.in_err-close_array.ensures.full c.args.self.now.nodes.now) c.in_err-close_array.ensures.lacks in
    rw (p.1, p.2) (array_no_room _ _ _ _
    (in_later c.in_ok-end.ensures.frame.left.room c.in_err-close_array.ensures.room c.in_ok-end.ensures.is)
    (type_of c.args.self.now.nodes.now c.args.element)
    (array_lacks (row_of (type_of c.args.self.now.nodes.now c.args.element)) apart lacks))

pub elements_body-returns-in_err-close_array-clause-level : goal.elements_body-returns-in_err-close_array-clause-level
elements_body-returns-in_err-close_array-clause-level g t c =
    let p =
    err_from_is_err_and c.from_residual-in_err-close_array.result c.from_residual-in_err-close_array.ensures.1 in
    rw p.1 (regrown_stays c.args.self.now.nodes.now _ _ _ c.in_ok-end.ensures.level c.in_err-close_array.ensures.err)

pub elements_body-returns-clause-is : goal.elements_body-returns-clause-is
elements_body-returns-clause-is g t c =
    let n = c.note_made.ensures in
    let closed = c.in_ok-close_array.ensures.ok c.args.self.now.nodes.now in
    let h = rw c.in_ok-end.ensures.level.outer at closed in
    let room = c.in_ok-close_array.ensures.room in
    let moves =
    moves_to c.in_ok-end.ensures.frame.left.room c.close_array.ensures.room (same_room c.close_array.new.self)
    c.in_ok-close_array.ensures.within c.in_ok-close_array.ensures.light c.in_ok-close_array.ensures.moves tt in
    let apart = c.requires.apart in
    record {
      value = _;
      kept = h;
      ends = refl;
      follows = array_made _ _ _ _ (in_later c.in_ok-end.ensures.frame.left.room room c.in_ok-end.ensures.is)
          (type_of c.args.self.now.nodes.now c.args.element)
          (array_moves (row_of (type_of c.args.self.now.nodes.now c.args.element)) apart moves) n.steps n.made;
    }

pub elements_body-returns-clause-level : goal.elements_body-returns-clause-level
elements_body-returns-clause-level g t c =
    let e = c.in_ok-close_array.ensures in
    closes_level c.args.self.now.nodes.now _ _ _ c.requires.open.0 c.in_ok-end.ensures.level e.depth
    (ap (λ (s : State). s.frames) e.moves) e.below e.within

pub union_body-returns-in_err-index-clause-is : goal.union_body-returns-in_err-index-clause-is
union_body-returns-in_err-index-clause-is g t c =
    let p = err_from_is_err_and c.from_residual.result c.from_residual.ensures.1 in
    rw (p.1, p.2) (follow_stop _ _ _ c.in_err-index.ensures.is)

pub union_body-returns-in_err-close_union-clause-is : goal.union_body-returns-in_err-close_union-clause-is
union_body-returns-in_err-close_union-clause-is g t c =
    let p =
    err_from_is_err_and c.from_residual-in_err-close_union.result c.from_residual-in_err-close_union.ensures.1 in
    let h = c.in_ok-index.ensures.is in
    let fresh = c.requires.fresh in
    let inside = h.keeps ∙ ap (λ ls. pushed ls (Some h.value)) fresh in
    let full =
    rw (inside, c.requires.names, ← h.ends) at (c.in_err-close_union.ensures.full c.args.self.now.nodes.now) in
    rw (p.1, p.2) (union_no_room _ _ _ _ _
    (in_later c.in_ok-index.ensures.frame.left.room c.in_err-close_union.ensures.room h.follows)
    (lacks_these c.in_ok-index.ensures.frame.left.room tt full c.in_err-close_union.ensures.lacks))

pub union_body-returns-in_err-close_union-clause-level : goal.union_body-returns-in_err-close_union-clause-level
union_body-returns-in_err-close_union-clause-level g t c =
    let p =
    err_from_is_err_and c.from_residual-in_err-close_union.result c.from_residual-in_err-close_union.ensures.1 in
    rw p.1 (regrown_stays c.args.self.now.nodes.now _ _ _ c.in_ok-index.ensures.level c.in_err-close_union.ensures.err)

pub union_body-returns-clause-is : goal.union_body-returns-clause-is
union_body-returns-clause-is g t c =
    let h = c.in_ok-index.ensures.is in
    let fresh = c.requires.fresh in
    let inside = h.keeps ∙ ap (λ ls. pushed ls (Some h.value)) fresh in
    let n = c.note_made.ensures in
    let closed =
    rw (inside, c.requires.names, ← h.ends) at (c.in_ok-close_union.ensures.ok c.args.self.now.nodes.now) in
    let room = c.in_ok-close_union.ensures.room in
    let moves =
    moves_to c.in_ok-index.ensures.frame.left.room c.close_union.ensures.room (same_room c.close_union.new.self)
    c.in_ok-close_union.ensures.within c.in_ok-close_union.ensures.light c.in_ok-close_union.ensures.moves tt in
    record {
      value = _;
      kept = closed;
      ends = h.ends;
      follows =
          union_made _ _ _ _ _ (in_later c.in_ok-index.ensures.frame.left.room room h.follows) moves n.steps n.made;
    }

pub union_body-returns-clause-level : goal.union_body-returns-clause-level
union_body-returns-clause-level g t c =
    let e = c.in_ok-close_union.ensures in
    closes_level c.args.self.now.nodes.now _ _ _ c.requires.open c.in_ok-index.ensures.level e.depth
    (ap (λ (s : State). s.frames) e.moves) e.below e.within

pub map_fields-loop-field-init : goal.map_fields-loop-field-init
map_fields-loop-field-init g t c = record {
  lent = search rules;
  frame = search rules;
  after = search rules;
  inside = search rules;
  level = same_stays c.args.self.now.nodes.now c.args.self.now.store.now;
  so_far = follow_here;
}

pub map_fields-returns-in_err-tick-clause-is : goal.map_fields-returns-in_err-tick-clause-is
map_fields-returns-in_err-tick-clause-is g t c =
    let p = err_from_is_err_and c.from_residual.result c.from_residual.ensures.1 in
    let i = c.loop-field.invariant in
    let e = c.in_err-tick.ensures in
    let next = drop_more c.args.fields.now c.loop-field.field-index c.field-item.result (omega arith) in
    let next = rw (← c.field-item.is) at next in
    rw (p.1, p.2) (follow_on i.so_far
    (fields_no_tick _ _ _ _ _ _ _ _ _ _ _ next e.err (e.err ∙ e.refused.0 refl ∙ i.frame.limit) e.made))

pub map_fields-returns-in_err-is_there-clause-is : goal.map_fields-returns-in_err-is_there-clause-is
map_fields-returns-in_err-is_there-clause-is g t c =
    let p = err_from_is_err_and c.from_residual-in_err-is_there.result c.from_residual-in_err-is_there.ensures.1 in
    let i = c.loop-field.invariant in
    let e = c.in_ok-tick.ensures in
    let next = drop_more c.args.fields.now c.loop-field.field-index c.field-item.result (omega arith) in
    let next = rw (← c.field-item.is) at next in
    let there = c.in_err-is_there.ensures in
    rw (p.1, p.2) (follow_on i.so_far (condition_stops _ _ _ _ _ _ _ _ _ _ _ next (e.limit ∙ i.frame.limit) e.ok e.made
    there.meter.made _ (omega arith) (rw c.from-origin.ensures at there.is)))

pub map_fields-returns-in_err-place-clause-is : goal.map_fields-returns-in_err-place-clause-is
map_fields-returns-in_err-place-clause-is g t c =
    let p = err_from_is_err_and c.from_residual-in_err-place.result c.from_residual-in_err-place.ensures.1 in
    let i = c.loop-field.invariant in
    let e = c.in_ok-tick.ensures in
    let next = drop_more c.args.fields.now c.loop-field.field-index c.field-item.result (omega arith) in
    let next = rw (← c.field-item.is) at next in
    let there = c.in_ok-is_there.ensures in
    let there_is = rw (c.if-branch.true, c.from-origin.ensures) at there.is in
    let start = c.in_err-place.ensures in
    rw (p.1, p.2) (follow_on i.so_far (start_stops _ _ _ _ _ _ _ _ _ _ _ next (e.limit ∙ i.frame.limit) e.ok e.made
    there.meter.made there_is there.meter.limit start.meter.made _ (omega arith) start.is))

pub map_fields-map_checked-requires : goal.map_fields-map_checked-requires
map_fields-map_checked-requires g t c =
    let bounded =
    field_bounded c.args.fields.now c.loop-field.field-index c.field-item.result (omega arith) c.field-item.is in
    let field = of_one (IsFieldOf c.args.self.now.nodes.now (level_count c.args.self.now.store.now)) c.args.fields.now
    c.loop-field.field-index c.field-item.result c.requires.fields (omega arith) c.field-item.is in
    let field = rw (← c.loop-field.invariant.level.depth) at field in
    search rules

pub map_fields-returns-in_err-last_end-clause-is : goal.map_fields-returns-in_err-last_end-clause-is
map_fields-returns-in_err-last_end-clause-is g t c =
    let p = err_from_is_err_and c.from_residual-in_err-last_end.result c.from_residual-in_err-last_end.ensures.1 in
    let i = c.loop-field.invariant in
    let e = c.in_ok-tick.ensures in
    let next = drop_more c.args.fields.now c.loop-field.field-index c.field-item.result (omega arith) in
    let next = rw (← c.field-item.is) at next in
    let there = c.in_ok-is_there.ensures in
    let there_is = rw (c.if-branch.true, c.from-origin.ensures) at there.is in
    let start = c.in_ok-place.ensures in
    let h = rw (i.lent.nodes, i.frame.len, c.byte_order.ensures) at c.in_err-last_end.ensures.is in
    let h = in_world (g.S.Space.view c.args.space.now) (g.S.Space.view c.loop-field.space) i.frame.bytes i.frame.room
    c.in_err-last_end.ensures.frame.left.room h in
    rw (p.1, p.2)
    (follow_on (in_later i.frame.room c.in_err-last_end.ensures.frame.left.room i.so_far)
    (field_stops _ _ _ _ _ _ _ _ _ _
    _ next (e.limit ∙ i.frame.limit) e.ok e.made there.meter.made there_is there.meter.limit start.meter.made _ start.is
    start.meter.limit _ h))

pub map_fields-returns-in_err-last_end-clause-level : goal.map_fields-returns-in_err-last_end-clause-level
map_fields-returns-in_err-last_end-clause-level g t c =
    let i = c.loop-field.invariant in
    stays_then c.args.self.now.nodes.now _ _ _ i.level (rw i.lent.nodes at c.in_err-last_end.ensures.level)

pub map_fields-returns-in_err-push_absent-clause-is : goal.map_fields-returns-in_err-push_absent-clause-is
map_fields-returns-in_err-push_absent-clause-is g t c =
    let p =
    err_from_is_err_and c.from_residual-in_err-push_absent.result c.from_residual-in_err-push_absent.ensures.1 in
    let i = c.loop-field.invariant in
    let e = c.in_ok-tick.ensures in
    let next = drop_more c.args.fields.now c.loop-field.field-index c.field-item.result (omega arith) in
    let next = rw (← c.field-item.is) at next in
    let there = c.in_ok-is_there.ensures in
    let there_is = rw (c.if-branch.false, c.from-origin.ensures) at there.is in
    rw (p.1, p.2) (follow_on (in_later i.frame.room c.in_err-push_absent.ensures.room i.so_far)
    (absent_no_room _ _ _ _ _ _ _ _ _ _ _ next (e.limit ∙ i.frame.limit) e.ok e.made there.meter.made there_is
    (lacks_these i.frame.room tt (c.in_err-push_absent.ensures.full c.args.self.now.nodes.now)
    c.in_err-push_absent.ensures.lacks)))

pub map_fields-returns-in_err-push_absent-clause-level : goal.map_fields-returns-in_err-push_absent-clause-level
map_fields-returns-in_err-push_absent-clause-level g t c =
    regrown_stays c.args.self.now.nodes.now _ _ _ c.loop-field.invariant.level c.in_err-push_absent.ensures.err

pub map_fields-loop-field-preserved : goal.map_fields-loop-field-preserved
map_fields-loop-field-preserved g t c =
    let i = c.loop-field.invariant in
    let e = c.in_ok-tick.ensures in
    let next = drop_more c.args.fields.now c.loop-field.field-index c.field-item.result (omega arith) in
    let next = rw (← c.field-item.is) at next in
    let there = c.in_ok-is_there.ensures in
    elim c.if-branch.branch [
      | map_fields-then-branch+in_ok-place+in_ok-last_end w ↦
          let there_is = rw (w.if-branch.true, c.from-origin.ensures) at there.is in
          let start = w.in_ok-place.ensures in
          let m = rw i.lent.nodes at w.in_ok-last_end.ensures.is in
          let h = rw (i.frame.len, w.byte_order.ensures) at m.follows in
          let h = in_world (g.S.Space.view c.args.space.now) (g.S.Space.view c.loop-field.space) i.frame.bytes
          i.frame.room w.in_ok-last_end.ensures.frame.left.room h in
          rw (w.space-is, w.self-is, w.last_end-is, w.top-is) (record {
            lent = search rules;
            frame = search rules;
            after = search rules;
            inside = search rules;
            level = stays_then c.args.self.now.nodes.now _ _ _ i.level
                (rw i.lent.nodes at w.in_ok-last_end.ensures.level);
            so_far = rw m.kept (follow_on (in_later i.frame.room w.in_ok-last_end.ensures.frame.left.room i.so_far)
                (field_goes _ _ _ _ _ _ _ _ _ _ _ next (e.limit ∙ i.frame.limit) e.ok e.made there.meter.made there_is
                there.meter.limit start.meter.made _ start.is start.meter.limit m.value _ _ m.ends w.max-top.ensures
                h));
          })
      | map_fields-else-branch+in_ok-push_absent w ↦
          let there_is = rw (w.if-branch.false, c.from-origin.ensures) at there.is in
          let keeps = (w.in_ok-push_absent.ensures.ok c.args.self.now.nodes.now) in
          let room = w.in_ok-push_absent.ensures.room in
          let moves = moves_to i.frame.room w.push_absent.ensures.room (same_room w.push_absent.new.self)
          w.in_ok-push_absent.ensures.within w.in_ok-push_absent.ensures.light w.in_ok-push_absent.ensures.moves tt in
          rw (w.space-is, w.self-is, w.last_end-is, w.top-is) (record {
            lent = search rules;
            frame = search rules;
            after = search rules;
            inside = search rules;
            level = pushed_stays c.args.self.now.nodes.now _ _ _ _ i.level keeps w.in_ok-push_absent.ensures.depth
                (ap (λ (s : State). s.frames) w.in_ok-push_absent.ensures.moves) w.in_ok-push_absent.ensures.extends;
            so_far = rw keeps (follow_on (in_later i.frame.room room i.so_far) (absent_goes _ _ _ _ _ _ _ _ _ _ _ next
                (e.limit ∙ i.frame.limit) e.ok e.made there.meter.made there_is moves));
          })
    ]

pub map_fields-returns-clause-is : goal.map_fields-returns-clause-is
map_fields-returns-clause-is g t c =
    let i = c.loop-field.invariant in
    follow_on i.so_far
    (fields_end _ _ _ _ _ _ _ _ _ (drop_all c.loop-field.field-index c.args.fields.now (omega arith)))

pub map_elements-loop-self-init : goal.map_elements-loop-self-init
map_elements-loop-self-init g t c =
    let few = few_enough (8 * (g.S.Space.view c.args.space.now).len)
    (least_width (type_of c.args.self.now.nodes.now c.args.element)) in
    record {
      lent = search rules;
      frame = search rules;
      after = search rules;
      inside = search rules;
      level = same_stays c.args.self.now.nodes.now c.args.self.now.store.now;
      counted = search rules;
      so_far = (_, omega (arith, few), follow_here);
    }

pub map_elements-returns-in_err-tick-clause-is : goal.map_elements-returns-in_err-tick-clause-is
map_elements-returns-in_err-tick-clause-is g t c =
    let p = err_from_is_err_and c.from_residual.result c.from_residual.ensures.1 in
    let i = c.loop-self.invariant in
    let e = c.in_err-tick.ensures in
    let due = sym c.is_due.ensures ∙ c.loop-self-test.true in
    let due = rw c.len-bits.ensures at due in
    rw (p.1, p.2) (follow_on i.so_far.2
    (elements_no_tick _ _ _ _ _ _ _ (max 1 (least_width (type_of c.args.self.now.nodes.now c.args.element))) _
    i.so_far.1 i.inside due e.err (e.err ∙ e.refused.0 refl ∙ i.frame.limit) e.made))

pub map_elements-returns-then-end-place-clause-is : goal.map_elements-returns-then-end-place-clause-is
map_elements-returns-then-end-place-clause-is g t c =
    let i = c.loop-self.invariant in
    let e = c.in_ok-tick.ensures in
    let due = sym c.is_due.ensures ∙ c.loop-self-test.true in
    let due = rw c.len-bits.ensures at due in
    let m = rw i.lent.nodes at c.in-Ok.ensures.is in
    let h = rw i.frame.len at m.follows in
    let h = in_world (g.S.Space.view c.args.space.now) (g.S.Space.view c.loop-self.space) i.frame.bytes i.frame.room
    c.in-Ok.ensures.frame.left.room h in
    let level = rw i.lent.nodes at c.in-Ok.ensures.level in
    let h = element_done (row_of (type_of c.args.self.now.nodes.now c.args.element)) c.requires.apart
    (levels c.args.self.now.nodes.now c.loop-self.self.store.now)
    h (has_room level.within (same_room c.map_inside.new.self.store.now)) in
    rw c.from.ensures (follow_on (in_later i.frame.room c.in-Ok.ensures.frame.left.room i.so_far.2)
    (elements_no_bits _ _ _ _ _ _ _ (max 1 (least_width (type_of c.args.self.now.nodes.now c.args.element))) _
    i.so_far.1 i.inside due (e.limit ∙ i.frame.limit) e.ok e.made _ (m.ends ∙ c.if-end-place.true) h))

pub map_elements-returns-then-end-place-clause-level : goal.map_elements-returns-then-end-place-clause-level
map_elements-returns-then-end-place-clause-level g t c =
    let i = c.loop-self.invariant in
    let m = rw i.lent.nodes at c.in-Ok.ensures.is in
    added_stays c.args.self.now.nodes.now _ _ _ _ _ i.level m.kept (rw i.lent.nodes at c.in-Ok.ensures.level)

pub map_elements-returns-then-ends-clause-level : goal.map_elements-returns-then-ends-clause-level
map_elements-returns-then-ends-clause-level g t c =
    let i = c.loop-self.invariant in
    stopped_stays c.args.self.now.nodes.now _ _ _ _ i.level (rw i.lent.nodes at c.in-Err.ensures.level)

pub map_elements-returns-in-Err-clause-level : goal.map_elements-returns-in-Err-clause-level
map_elements-returns-in-Err-clause-level g t c =
    let i = c.loop-self.invariant in
    stopped_stays c.args.self.now.nodes.now _ _ _ _ i.level (rw i.lent.nodes at c.in-Err.ensures.level)

pub map_elements-loop-self-preserved : goal.map_elements-loop-self-preserved
map_elements-loop-self-preserved g t c =
    let i = c.loop-self.invariant in
    let e = c.in_ok-tick.ensures in
    let due = sym c.is_due.ensures ∙ c.loop-self-test.true in
    let due = rw c.len-bits.ensures at due in
    let m = rw i.lent.nodes at c.in-Ok.ensures.is in
    let h = rw i.frame.len at m.follows in
    let h = in_world (g.S.Space.view c.args.space.now) (g.S.Space.view c.loop-self.space) i.frame.bytes i.frame.room
    c.in-Ok.ensures.frame.left.room h in
    let wide = followed_wide _ _ _ _ _ h in
    let ends = m.ends in
    let far : c.loop-self.place + max 1 (least_width (type_of c.args.self.now.nodes.now c.args.element))
    ≤ c.in-Ok.end =
    omega (arith, wide, ends, c.in-Ok.ensures.ends.0, c.if-end-place.false) in
    let fit = followed_fits _ _ _ _ _ h in
    let level = rw i.lent.nodes at c.in-Ok.ensures.level in
    let h = element_done (row_of (type_of c.args.self.now.nodes.now c.args.element)) c.requires.apart
    (levels c.args.self.now.nodes.now c.loop-self.self.store.now)
    h (has_room level.within (same_room c.map_inside.new.self.store.now)) in
    let next = elements_goes (element_plan (type_of c.args.self.now.nodes.now c.args.element)
    (plan (8 * (g.S.Space.view c.args.space.now).len) (type_of c.args.self.now.nodes.now c.args.element)
    c.args.start.order))
    (8 * (g.S.Space.view c.args.space.now).len) c.args.start.bit c.args.extent c.loop-self.count
    (levels c.args.self.now.nodes.now c.loop-self.self.store.now) c.loop-self.place
    (max 1 (least_width (type_of c.args.self.now.nodes.now c.args.element))) _ i.so_far.1 i.inside due (e.limit
    ∙ i.frame.limit) e.ok e.made m.value c.in-Ok.end (c.loop-self.count + 1) refl ends c.if-end-place.false far h in
    record {
      lent = search rules;
      frame = search rules;
      after = search rules;
      inside = search rules;
      level = added_stays c.args.self.now.nodes.now _ _ _ _ _ i.level m.kept level;
      counted = omega (arith, i.counted, far);
      so_far = (
        next.0,
        next.1,
        rw m.kept (follow_on (in_later i.frame.room c.in-Ok.ensures.frame.left.room i.so_far.2) next.2),
      );
    }

pub map_elements-returns-then-ends-clause-is : goal.map_elements-returns-then-ends-clause-is
map_elements-returns-then-ends-clause-is g t c =
    let i = c.loop-self.invariant in
    let e = c.in_ok-tick.ensures in
    let due = sym c.is_due.ensures ∙ c.loop-self-test.true in
    let due = rw c.len-bits.ensures at due in
    let h = rw (i.lent.nodes, i.frame.len) at c.in-Err.ensures.is in
    let h = in_world (g.S.Space.view c.args.space.now) (g.S.Space.view c.loop-self.space) i.frame.bytes i.frame.room
    c.in-Err.ensures.frame.left.room h in
    let ends = sym c.ends.ensures ∙ c.if-ends.true in
    let h = element_stopped (row_of (type_of c.args.self.now.nodes.now c.args.element)) c.requires.apart
    (levels c.args.self.now.nodes.now c.loop-self.self.store.now) _ h in
    let stays = rw i.lent.nodes at c.in-Err.ensures.level in
    rw stays.same (follow_on (in_later i.frame.room c.in-Err.ensures.frame.left.room i.so_far.2)
    (elements_over _ _ _ _ _ _ _ (max 1 (least_width (type_of c.args.self.now.nodes.now c.args.element))) _ i.so_far.1
    i.inside due (e.limit ∙ i.frame.limit) e.ok e.made _ ends h))

pub map_elements-returns-in-Err-clause-is : goal.map_elements-returns-in-Err-clause-is
map_elements-returns-in-Err-clause-is g t c =
    let i = c.loop-self.invariant in
    let e = c.in_ok-tick.ensures in
    let due = sym c.is_due.ensures ∙ c.loop-self-test.true in
    let due = rw c.len-bits.ensures at due in
    let h = rw (i.lent.nodes, i.frame.len) at c.in-Err.ensures.is in
    let h = in_world (g.S.Space.view c.args.space.now) (g.S.Space.view c.loop-self.space) i.frame.bytes i.frame.room
    c.in-Err.ensures.frame.left.room h in
    let ends = sym c.ends.ensures ∙ c.if-ends.false in
    let h = element_stopped (row_of (type_of c.args.self.now.nodes.now c.args.element)) c.requires.apart
    (levels c.args.self.now.nodes.now c.loop-self.self.store.now) _ h in
    follow_on (in_later i.frame.room c.in-Err.ensures.frame.left.room i.so_far.2)
    (elements_stop _ _ _ _ _ _ _ (max 1 (least_width (type_of c.args.self.now.nodes.now c.args.element))) _ i.so_far.1
    i.inside due (e.limit ∙ i.frame.limit) e.ok e.made _ ends h)

pub map_elements-returns-then-is_met-clause-is : goal.map_elements-returns-then-is_met-clause-is
map_elements-returns-then-is_met-clause-is g t c =
    let i = c.loop-self.invariant in
    let over = sym c.is_due.ensures ∙ c.loop-self-test.false in
    let over = rw c.len-bits.ensures at over in
    follow_on i.so_far.2
    (elements_end _ _ _ _ _ _ _ (max 1 (least_width (type_of c.args.self.now.nodes.now c.args.element))) _ i.so_far.1
    i.inside over (sym c.is_met.ensures ∙ c.if-is_met.true))

pub map_elements-returns-else-is_met-clause-is : goal.map_elements-returns-else-is_met-clause-is
map_elements-returns-else-is_met-clause-is g t c =
    let i = c.loop-self.invariant in
    let over = sym c.is_due.ensures ∙ c.loop-self-test.false in
    let over = rw c.len-bits.ensures at over in
    rw c.from-else-is_met.ensures (follow_on i.so_far.2
    (elements_beyond _ _ _ _ _ _ _ (max 1 (least_width (type_of c.args.self.now.nodes.now c.args.element))) _ i.so_far.1
    i.inside over (sym c.is_met.ensures ∙ c.if-is_met.false)))

pub map_alternatives-loop-index-init : goal.map_alternatives-loop-index-init
map_alternatives-loop-index-init g t c = record {
  lent = search rules;
  frame = search rules;
  same = search rules;
  level = same_stays c.args.self.now.nodes.now c.args.self.now.store.now;
  so_far = follow_here;
}

pub map_alternatives-returns-in_err-tick-clause-is : goal.map_alternatives-returns-in_err-tick-clause-is
map_alternatives-returns-in_err-tick-clause-is g t c =
    let p = err_from_is_err_and c.from_residual.result c.from_residual.ensures.1 in
    let i = c.loop-index.invariant in
    let e = c.in_err-tick.ensures in
    let next = drop_more c.args.alternatives.now c.loop-index.index c.index-alternatives-index.result (omega arith) in
    let next = rw (← c.index-alternatives-index.is) at next in
    rw (p.1, p.2) (follow_on i.so_far
    (alternatives_no_tick _ _ _ _ _ _ _ _ _ next e.err (e.err ∙ e.refused.0 refl ∙ i.frame.limit) e.made))

pub map_alternatives-map_checked-requires : goal.map_alternatives-map_checked-requires
map_alternatives-map_checked-requires g t c =
    let bounded = part_bounded c.args.alternatives.now c.loop-index.index c.index-alternatives-index.result
    (omega arith) c.index-alternatives-index.is in
    let part = of_one (IsPartOf c.args.self.now.nodes.now (level_count c.args.self.now.store.now))
    c.args.alternatives.now c.loop-index.index c.index-alternatives-index.result c.requires.alternatives (omega arith)
    c.index-alternatives-index.is in
    let part = rw (← c.loop-index.invariant.level.depth) at part in
    search rules

pub map_alternatives-returns-in-Ok-clause-is : goal.map_alternatives-returns-in-Ok-clause-is
map_alternatives-returns-in-Ok-clause-is g t c =
    let i = c.loop-index.invariant in
    let e = c.in_ok-tick.ensures in
    let next = drop_more c.args.alternatives.now c.loop-index.index c.index-alternatives-index.result (omega arith) in
    let next = rw (← c.index-alternatives-index.is) at next in
    let m = rw i.lent.nodes at c.in-Ok.ensures.is in
    let h = rw (i.frame.len, i.same, c.byte_order-prefixed.ensures, c.from-origin.ensures) at m.follows in
    let h = in_world (g.S.Space.view c.args.space.now) (g.S.Space.view c.loop-index.space) i.frame.bytes i.frame.room
    c.in-Ok.ensures.frame.left.room h in
    let keeps = m.kept ∙ ap (λ ls. pushed ls (Some m.value)) i.same in
    let named = name_of_one c.args.alternatives.now c.loop-index.index c.index-alternatives-index.result (omega arith)
    c.index-alternatives-index.is in
    record {
      value = m.value;
      keeps = keeps;
      ends = m.ends;
      follows = rw named (follow_on (in_later i.frame.room c.in-Ok.ensures.frame.left.room i.so_far)
          (alternatives_fit _ _ _ _ _ _ _ _ _ next (e.limit ∙ i.frame.limit) e.ok e.made m.value h));
    }

pub map_alternatives-returns-then-not-misses-clause-is : goal.map_alternatives-returns-then-not-misses-clause-is
map_alternatives-returns-then-not-misses-clause-is g t c =
    let i = c.loop-index.invariant in
    let e = c.in_ok-tick.ensures in
    let next = drop_more c.args.alternatives.now c.loop-index.index c.index-alternatives-index.result (omega arith) in
    let next = rw (← c.index-alternatives-index.is) at next in
    let h =
    rw (i.lent.nodes, i.frame.len, i.same, c.byte_order-prefixed.ensures, c.from-origin.ensures)
    at c.in-Err.ensures.is in
    let h = in_world (g.S.Space.view c.args.space.now) (g.S.Space.view c.loop-index.space) i.frame.bytes i.frame.room
    c.in-Err.ensures.frame.left.room h in
    follow_on (in_later i.frame.room c.in-Err.ensures.frame.left.room i.so_far) (alternatives_stop _ _ _ _ _ _ _ _ _
    next (e.limit ∙ i.frame.limit) e.ok e.made _ (sym c.misses.ensures ∙ c.if-not-misses.true) h)

pub map_alternatives-returns-in-Ok-clause-level : goal.map_alternatives-returns-in-Ok-clause-level
map_alternatives-returns-in-Ok-clause-level g t c =
    let i = c.loop-index.invariant in
    stays_then c.args.self.now.nodes.now _ _ _ i.level (rw i.lent.nodes at c.in-Ok.ensures.level)

pub map_alternatives-returns-then-not-misses-clause-level : goal.map_alternatives-returns-then-not-misses-clause-level
map_alternatives-returns-then-not-misses-clause-level g t c =
    let i = c.loop-index.invariant in
    stays_then c.args.self.now.nodes.now _ _ _ i.level (rw i.lent.nodes at c.in-Err.ensures.level)

pub map_alternatives-loop-index-preserved : goal.map_alternatives-loop-index-preserved
map_alternatives-loop-index-preserved g t c =
    let i = c.loop-index.invariant in
    let e = c.in_ok-tick.ensures in
    let next = drop_more c.args.alternatives.now c.loop-index.index c.index-alternatives-index.result (omega arith) in
    let next = rw (← c.index-alternatives-index.is) at next in
    let h =
    rw (i.lent.nodes, i.frame.len, i.same, c.byte_order-prefixed.ensures, c.from-origin.ensures)
    at c.in-Err.ensures.is in
    let h = in_world (g.S.Space.view c.args.space.now) (g.S.Space.view c.loop-index.space) i.frame.bytes i.frame.room
    c.in-Err.ensures.frame.left.room h in
    let h = in_later (room_then i.frame.room c.in-Err.ensures.frame.left.room) c.clear_level.ensures.room h in
    let clears = moves_by (room_then i.frame.room c.in-Err.ensures.frame.left.room) (same_room c.clear_level.new.self)
    c.clear_level.ensures.within c.clear_level.ensures.moves tt (λ adds. absurd adds.0) in
    let cleared = c.clear_level.ensures.levels c.args.self.now.nodes.now in
    let stays = rw i.lent.nodes at c.in-Err.ensures.level in
    record {
      lent = search rules;
      frame = search rules;
      same = cleared ∙ ap (λ o. [] ∷ o) (stays.outer ∙ ap outer_of i.same) ∙ sym c.requires.fresh;
      level = stays_then c.args.self.now.nodes.now _ _ _ i.level (record {
        outer = ap outer_of cleared ∙ stays.outer;
        depth = c.clear_level.ensures.depth ∙ stays.depth;
        frames = ap (λ (s : State). s.frames) c.clear_level.ensures.moves ∙ stays.frames;
        opened = keeps_then c.loop-index.self.store.now c.map_checked.new.self.store.now c.clear_level.new.self
            stays.frames stays.opened
            (cleared_keeps c.map_checked.new.self.store.now c.clear_level.new.self c.clear_level.ensures.slots);
      });
      so_far = follow_on
          (in_later i.frame.room (room_then c.in-Err.ensures.frame.left.room c.clear_level.ensures.room) i.so_far)
          (alternatives_miss _ _ _ _ _ _ _ _ _ next (e.limit ∙ i.frame.limit) e.ok e.made clears _
          (sym c.misses.ensures ∙ c.if-not-misses.false) h);
    }

pub map_alternatives-returns-clause-is : goal.map_alternatives-returns-clause-is
map_alternatives-returns-clause-is g t c =
    let i = c.loop-index.invariant in
    rw c.from.ensures (follow_on i.so_far
    (alternatives_end _ _ _ _ _ _ _ (drop_all c.loop-index.index c.args.alternatives.now (omega arith))))

-- ---- arrays of packed values

pub map_value-returns-in_err-end-clause-is : goal.map_value-returns-in_err-end-clause-is
map_value-returns-in_err-end-clause-is g t c =
    let p = err_from_is_err_and c.from_residual.result c.from_residual.ensures.1 in
    let e = c.in_err-end.ensures in
    rw (p.1, p.2) (
      follow_stop _ _ _ e.is,
      λ other. stopped_regrown c.args.self.now.nodes.now _ _ _ e.level e.frame.left.room.room,
    )

pub map_value-returns-in_err-end-clause-level : goal.map_value-returns-in_err-end-clause-level
map_value-returns-in_err-end-clause-level g t c =
    stopped_stays c.args.self.now.nodes.now _ _ _ _ (same_stays _ _) c.in_err-end.ensures.level

pub map_value-pack_first-requires : goal.map_value-pack_first-requires
map_value-pack_first-requires g t c =
    let nodes = c.args.self.now.nodes.now in
    let e = c.in_ok-end.ensures in
    let k = c.requires.packs in
    let among = rw c.if-first.true at c.requires.among in
    let widths = table_widths nodes c.args.self.now.table.below c.args.at in
    let short = g.met.S.Space.short c.args.space.now in
    first_taken nodes c.map_inside.new.self.store.now (8 * (g.S.Space.view c.args.space.now).len)
    (type_of nodes c.args.at) k.stride k.row widths (levels nodes c.args.self.now.store.now) c.args.start.bit e.is.value
    among.0 (followed_fits _ _ _ _ _ e.is.follows) (e.is.kept ∙ ap (λ ls. pushed ls (Some e.is.value)) among.1)
    (omega (arith, e.is.ends, e.ends.1, short)) (ap packs e.frame.left.room.room ∙ k.packs)

pub map_value-pack_next-requires : goal.map_value-pack_next-requires
map_value-pack_next-requires g t c =
    let nodes = c.args.self.now.nodes.now in
    let e = c.in_ok-end.ensures in
    let k = c.requires.packs in
    let among = rw c.if-first.false at c.requires.among in
    let widths = table_widths nodes c.args.self.now.table.below c.args.at in
    let short = g.met.S.Space.short c.args.space.now in
    next_taken nodes c.args.self.now.store.now c.map_inside.new.self.store.now
    (8 * (g.S.Space.view c.args.space.now).len) (type_of nodes c.args.at) k.stride k.row widths
    (levels nodes c.args.self.now.store.now) among.start c.args.start.bit e.is.value among.outer among.values
    (followed_fits _ _ _ _ _ e.is.follows) among.array e.level.frames e.frame.left.room.room e.level.extends e.is.kept
    (omega (arith, e.is.ends, e.ends.1, short))

pub map_value-returns-in_err-pack_first-clause-is : goal.map_value-returns-in_err-pack_first-clause-is
map_value-returns-in_err-pack_first-clause-is g t c =
    let p = err_from_is_err_and c.from_residual-in_err-pack_first.result c.from_residual-in_err-pack_first.ensures.1 in
    let nodes = c.args.self.now.nodes.now in
    let before = c.args.self.now.store.now in
    let mid = c.map_inside.new.self.store.now in
    let m = c.in_ok-end.ensures in
    let e = c.in_err-pack_first.ensures in
    let k = c.requires.packs in
    let among = rw c.if-first.true at c.requires.among in
    let widths = table_widths nodes c.args.self.now.table.below c.args.at in
    let cannot = first_cannot nodes mid (8 * (g.S.Space.view c.args.space.now).len) (type_of nodes c.args.at) k.stride
    k.row widths (levels nodes before) c.args.start.bit m.is.value among.0 (followed_fits _ _ _ _ _ m.is.follows)
    (m.is.kept ∙ ap (λ ls. pushed ls (Some m.is.value)) among.1) e.lacks in
    rw (p.1, p.2) (
      value_refused m.frame.left.room e.room _ (levels nodes before) m.is.follows k.packs cannot,
      λ other. absurd (other refl),
    )

pub map_value-returns-in_err-pack_first-clause-level : goal.map_value-returns-in_err-pack_first-clause-level
map_value-returns-in_err-pack_first-clause-level g t c =
    let nodes = c.args.self.now.nodes.now in
    let m = c.in_ok-end.ensures in
    regrown_stays nodes _ _ _ (added_stays nodes _ _ _ _ _ (same_stays nodes _) m.is.kept m.level)
    c.in_err-pack_first.ensures.err

pub map_value-returns-in_err-pack_next-clause-is : goal.map_value-returns-in_err-pack_next-clause-is
map_value-returns-in_err-pack_next-clause-is g t c =
    let p = err_from_is_err_and c.from_residual-in_err-pack_next.result c.from_residual-in_err-pack_next.ensures.1 in
    let nodes = c.args.self.now.nodes.now in
    let before = c.args.self.now.store.now in
    let m = c.in_ok-end.ensures in
    let e = c.in_err-pack_next.ensures in
    let k = c.requires.packs in
    let among = rw c.if-first.false at c.requires.among in
    let widths = table_widths nodes c.args.self.now.table.below c.args.at in
    let short = g.met.S.Space.short c.args.space.now in
    let cannot = next_cannot nodes before c.map_inside.new.self.store.now (8 * (g.S.Space.view c.args.space.now).len)
    (type_of nodes c.args.at) k.stride k.row widths (levels nodes before) among.start c.args.start.bit m.is.value
    among.outer among.values (followed_fits _ _ _ _ _ m.is.follows) among.array m.level.frames m.frame.left.room.room
    m.level.extends m.is.kept (value_added _ _ k.stride k.row _ _ _ m.is.follows k.packs)
    (omega (arith, m.is.ends, m.ends.1, short)) e.lacks in
    rw (p.1, p.2) (
      value_refused m.frame.left.room e.room _ (levels nodes before) m.is.follows k.packs cannot,
      λ other. absurd (other refl),
    )

pub map_value-returns-in_err-pack_next-clause-level : goal.map_value-returns-in_err-pack_next-clause-level
map_value-returns-in_err-pack_next-clause-level g t c =
    let nodes = c.args.self.now.nodes.now in
    let m = c.in_ok-end.ensures in
    regrown_stays nodes _ _ _ (added_stays nodes _ _ _ _ _ (same_stays nodes _) m.is.kept m.level)
    c.in_err-pack_next.ensures.err

pub map_value-returns-in_ok-pack_first-clause-is : goal.map_value-returns-in_ok-pack_first-clause-is
map_value-returns-in_ok-pack_first-clause-is g t c =
    let nodes = c.args.self.now.nodes.now in
    let before = c.args.self.now.store.now in
    let mid = c.map_inside.new.self.store.now in
    let m = c.in_ok-end.ensures in
    let k = c.requires.packs in
    let ty = type_of nodes c.args.at in
    let bits = 8 * (g.S.Space.view c.args.space.now).len in
    let widths = table_widths nodes c.args.self.now.table.below c.args.at in
    let fits = followed_fits _ _ _ _ _ m.is.follows in
    let e = c.in_ok-pack_first.ensures in
    let after = c.pack_first.new.self in
    let among = rw c.if-first.true at c.requires.among in
    let is = m.is.kept ∙ ap (λ ls. pushed ls (Some m.is.value)) among.1 in
    let makes = first_makes nodes mid bits ty k.stride k.row widths (levels nodes before) c.args.start.bit m.is.value
    among.0 fits is after e.moves in
    let holds = first_holds nodes mid bits ty k.stride k.row widths (levels nodes before) c.args.start.bit m.is.value
    among.0 fits is after e.holds in
    record {
      value = m.is.value;
      m = bits;
      inner = levels nodes before;
      fits = fits;
      adds = first_adds nodes before mid after bits ty k.stride k.row widths (levels nodes before) c.args.start.bit
          m.is.value fits m.is.kept among.2 e.ok;
      ends = m.is.ends;
      runs = value_packed m.frame.left.room e.room _ (levels nodes before) m.is.follows
          (first_moves m.frame.left.room e.room m.is.value makes holds e.light);
    }

pub map_value-returns-in_ok-pack_first-clause-level : goal.map_value-returns-in_ok-pack_first-clause-level
map_value-returns-in_ok-pack_first-clause-level g t c =
    let nodes = c.args.self.now.nodes.now in
    let before = c.args.self.now.store.now in
    let mid = c.map_inside.new.self.store.now in
    let m = c.in_ok-end.ensures in
    let k = c.requires.packs in
    let ty = type_of nodes c.args.at in
    let bits = 8 * (g.S.Space.view c.args.space.now).len in
    let widths = table_widths nodes c.args.self.now.table.below c.args.at in
    let fits = followed_fits _ _ _ _ _ m.is.follows in
    let e = c.in_ok-pack_first.ensures in
    let after = c.pack_first.new.self in
    let among = rw c.if-first.true at c.requires.among in
    let is = m.is.kept ∙ ap (λ ls. pushed ls (Some m.is.value)) among.1 in
    let makes = first_makes nodes mid bits ty k.stride k.row widths (levels nodes before) c.args.start.bit m.is.value
    among.0 fits is after e.moves in
    let adds = first_added nodes mid bits ty k.stride k.row widths (levels nodes before) c.args.start.bit m.is.value
    among.0 fits after is e.ok in
    packed_stays nodes before mid after c.in_ok-end.end m.level e.below
    (value_frames mid after m.is.value (ap packs m.frame.left.room.room ∙ k.packs) makes) e.depth
    (ap outer_of adds.array.is ∙ sym (ap outer_of among.1))

pub map_value-returns-in_ok-pack_next-clause-is : goal.map_value-returns-in_ok-pack_next-clause-is
map_value-returns-in_ok-pack_next-clause-is g t c =
    let nodes = c.args.self.now.nodes.now in
    let before = c.args.self.now.store.now in
    let mid = c.map_inside.new.self.store.now in
    let m = c.in_ok-end.ensures in
    let k = c.requires.packs in
    let ty = type_of nodes c.args.at in
    let bits = 8 * (g.S.Space.view c.args.space.now).len in
    let widths = table_widths nodes c.args.self.now.table.below c.args.at in
    let fits = followed_fits _ _ _ _ _ m.is.follows in
    let added = value_added _ _ k.stride k.row _ _ _ m.is.follows k.packs in
    let short = g.met.S.Space.short c.args.space.now in
    let small : end_of m.is.value < 2 ^ 64 = omega (arith, m.is.ends, m.ends.1, short) in
    let e = c.in_ok-pack_next.ensures in
    let after = c.pack_next.new.self in
    let among = rw c.if-first.false at c.requires.among in
    let makes = next_makes nodes before mid bits ty k.stride k.row widths (levels nodes before) among.start
    c.args.start.bit m.is.value among.outer among.values fits among.array m.level.frames m.frame.left.room.room
    m.level.extends m.is.kept after added small e.moves in
    let more = added_more before mid k.stride m.is.value (array_pending nodes before ty among.start among.outer
    c.args.start.bit among.values among.array) m.level.frames added in
    record {
      value = m.is.value;
      m = bits;
      inner = levels nodes before;
      fits = fits;
      adds = next_adds nodes before mid after bits ty k.stride k.row widths (levels nodes before) c.args.start.bit
          m.is.value fits m.is.kept (not_opened nodes before ty among.start among.outer c.args.start.bit among.values
          among.array) m.level.frames m.frame.left.room.room m.level.extends small e.ok;
      ends = m.is.ends;
      runs = value_packed m.frame.left.room e.room _ (levels nodes before) m.is.follows
          (next_moves m.frame.left.room e.room k.packs m.is.value more makes m.level.within e.within
          e.light);
    }

pub map_value-returns-in_ok-pack_next-clause-level : goal.map_value-returns-in_ok-pack_next-clause-level
map_value-returns-in_ok-pack_next-clause-level g t c =
    let nodes = c.args.self.now.nodes.now in
    let before = c.args.self.now.store.now in
    let mid = c.map_inside.new.self.store.now in
    let m = c.in_ok-end.ensures in
    let k = c.requires.packs in
    let ty = type_of nodes c.args.at in
    let bits = 8 * (g.S.Space.view c.args.space.now).len in
    let widths = table_widths nodes c.args.self.now.table.below c.args.at in
    let fits = followed_fits _ _ _ _ _ m.is.follows in
    let added = value_added _ _ k.stride k.row _ _ _ m.is.follows k.packs in
    let short = g.met.S.Space.short c.args.space.now in
    let small : end_of m.is.value < 2 ^ 64 = omega (arith, m.is.ends, m.ends.1, short) in
    let e = c.in_ok-pack_next.ensures in
    let after = c.pack_next.new.self in
    let among = rw c.if-first.false at c.requires.among in
    let makes = next_makes nodes before mid bits ty k.stride k.row widths (levels nodes before) among.start
    c.args.start.bit m.is.value among.outer among.values fits among.array m.level.frames m.frame.left.room.room
    m.level.extends m.is.kept after added small e.moves in
    let adds = next_added nodes before mid bits ty k.stride k.row widths (levels nodes before) among.start
    c.args.start.bit m.is.value among.outer among.values fits among.array m.level.frames m.frame.left.room.room
    m.level.extends m.is.kept after small e.ok in
    packed_stays nodes before mid after c.in_ok-end.end m.level e.below
    (value_frames mid after m.is.value (ap packs m.frame.left.room.room ∙ k.packs) makes) e.depth
    (ap outer_of adds.array.is ∙ sym (ap outer_of among.array.array.is))

pub map_values-loop-self-init : goal.map_values-loop-self-init
map_values-loop-self-init g t c =
    let few = few_enough (8 * (g.S.Space.view c.args.space.now).len)
    (least_width (type_of c.args.self.now.nodes.now c.args.element)) in
    record {
      lent = search rules;
      frame = search rules;
      after = search rules;
      inside = search rules;
      level = same_stays c.args.self.now.nodes.now c.args.self.now.store.now;
      counted = search rules;
      first = (λ none. refl, λ same. refl);
      so_far = (
        [],
        count_of (8 * (g.S.Space.view c.args.space.now).len)
            (least_width (type_of c.args.self.now.nodes.now c.args.element)),
        omega (arith, few),
        no_values c.requires.fresh c.requires.opened,
        rw c.requires.fresh follow_here,
      );
    }

pub map_values-map_value-requires : goal.map_values-map_value-requires
map_values-map_value-requires g t c =
    let i = c.loop-self.invariant in
    let nodes = c.args.self.now.nodes.now in
    let ty = type_of nodes c.args.element in
    let r = c.requires.packs in
    let widths = table_widths nodes c.args.self.now.table.below c.args.element in
    let among = among_values nodes c.loop-self.self.store.now ty r.stride r.row widths c.args.start.bit
    (outer_of (levels nodes c.args.self.now.store.now)) (nat_eq c.loop-self.count 0) c.loop-self.place i.so_far.0
    (λ none. i.first.0 (eqb-true c.loop-self.count 0 none))
    (λ some same. eqb-false c.loop-self.count 0 some (i.first.1 same)) i.so_far.3 in
    let among : IsAmong c.loop-self.self.nodes.now c.loop-self.self.store.now
    (type_of c.loop-self.self.nodes.now c.args.element) (nat_eq c.loop-self.count 0) c.loop-self.place =
    rw i.lent.nodes among in
    let packs : PacksValues (type_of c.loop-self.self.nodes.now c.args.element) c.loop-self.self.store.now.room =
    rw (i.lent.nodes, i.frame.room.room) r in
    search rules

pub map_values-loop-self-smaller : goal.map_values-loop-self-smaller
map_values-loop-self-smaller g t c =
    let i = c.loop-self.invariant in
    let k = c.in-Ok.ensures in
    let nodes = c.args.self.now.nodes.now in
    let ty = type_of nodes c.args.element in
    let r = c.requires.packs in
    let widths = table_widths nodes c.args.self.now.table.below c.args.element in
    let one = rw i.lent.nodes at k.is in
    let own = element_is one.m ty r.stride r.row widths one.inner c.loop-self.place one.value one.fits in
    let some = own.wide in
    let last = own.is.ends in
    omega (arith, one.ends, some, last, k.ends.1, i.frame.len)

pub map_values-returns-in_err-tick-clause-is : goal.map_values-returns-in_err-tick-clause-is
map_values-returns-in_err-tick-clause-is g t c =
    let p = err_from_is_err_and c.from_residual.result c.from_residual.ensures.1 in
    let i = c.loop-self.invariant in
    let e = c.in_err-tick.ensures in
    let due = sym c.is_due.ensures ∙ c.loop-self-test.true in
    let due = rw c.len-bits.ensures at due in
    rw (p.1, p.2) (follow_on i.so_far.4
    (elements_no_tick _ _ _ _ _ _ _ (max 1 (least_width (type_of c.args.self.now.nodes.now c.args.element))) _
    i.so_far.2 i.inside due e.err (e.err ∙ e.refused.0 refl ∙ i.frame.limit) e.made))

pub map_values-loop-self-preserved : goal.map_values-loop-self-preserved
map_values-loop-self-preserved g t c =
    let i = c.loop-self.invariant in
    let e = c.in_ok-tick.ensures in
    let k = c.in-Ok.ensures in
    let nodes = c.args.self.now.nodes.now in
    let ty = type_of nodes c.args.element in
    let outer = outer_of (levels nodes c.args.self.now.store.now) in
    let m = 8 * (g.S.Space.view c.args.space.now).len in
    let r = c.requires.packs in
    let widths = table_widths nodes c.args.self.now.table.below c.args.element in
    let due = sym c.is_due.ensures ∙ c.loop-self-test.true in
    let due = rw c.len-bits.ensures at due in
    let one = rw (i.lent.nodes, i.frame.len) at k.is in
    let h = in_world (g.S.Space.view c.args.space.now) (g.S.Space.view c.loop-self.space) i.frame.bytes i.frame.room
    k.frame.left.room one.runs in
    let h = value_goes nodes c.loop-self.self.store.now ty r.stride r.row c.args.start.bit outer c.loop-self.place
    i.so_far.0 i.so_far.3 _ r.packs m c.args.start.order h in
    let wide = fits_wide one.m ty one.inner c.loop-self.place one.value one.fits in
    let own = element_is one.m ty r.stride r.row widths one.inner c.loop-self.place one.value one.fits in
    let some = own.wide in
    let last = own.is.ends in
    let far : c.loop-self.place + max 1 (least_width ty) ≤ c.in-Ok.end = omega (arith, wide, one.ends, some, last) in
    let next = elements_goes (element_plan ty (plan m ty c.args.start.order)) m c.args.start.bit c.args.extent
    c.loop-self.count (i.so_far.0 ∷ outer) c.loop-self.place (max 1 (least_width ty)) _ i.so_far.2 i.inside due
    (e.limit ∙ i.frame.limit) e.ok e.made one.value c.in-Ok.end (c.loop-self.count + 1) refl one.ends
    (λ same. omega (arith, same, far)) far h in
    record {
      lent = search rules;
      frame = search rules;
      after = search rules;
      inside = search rules;
      level = stays_then nodes _ _ _ i.level (rw i.lent.nodes at k.level);
      counted = omega (arith, i.counted, far);
      first = (λ none. absurd (omega (arith, none)), λ same. absurd (omega (arith, same, i.after, far)));
      so_far = (
        i.so_far.0 ++ Some one.value ∷ [],
        next.0,
        next.1,
        some_values (subst (λ end. IsLaidArray nodes c.map_value.new.self.store.now ty c.args.start.bit outer end
            (i.so_far.0 ++ Some one.value ∷ [])) one.ends
            (one.adds c.args.start.bit outer i.so_far.0 i.so_far.3)),
        follow_on (in_later i.frame.room k.frame.left.room i.so_far.4) next.2,
      );
    }

pub map_values-returns-then-ends-clause-level : goal.map_values-returns-then-ends-clause-level
map_values-returns-then-ends-clause-level g t c =
    let i = c.loop-self.invariant in
    stays_then c.args.self.now.nodes.now _ _ _ i.level (rw i.lent.nodes at c.in-Err.ensures.level)

pub map_values-returns-in-Err-clause-level : goal.map_values-returns-in-Err-clause-level
map_values-returns-in-Err-clause-level g t c =
    let i = c.loop-self.invariant in
    stays_then c.args.self.now.nodes.now _ _ _ i.level (rw i.lent.nodes at c.in-Err.ensures.level)

pub map_values-returns-then-ends-clause-is : goal.map_values-returns-then-ends-clause-is
map_values-returns-then-ends-clause-is g t c =
    let i = c.loop-self.invariant in
    let e = c.in_ok-tick.ensures in
    let k = c.in-Err.ensures in
    let nodes = c.args.self.now.nodes.now in
    let ty = type_of nodes c.args.element in
    let outer = outer_of (levels nodes c.args.self.now.store.now) in
    let r = c.requires.packs in
    let due = sym c.is_due.ensures ∙ c.loop-self-test.true in
    let due = rw c.len-bits.ensures at due in
    let one = rw (i.lent.nodes, i.frame.len) at k.is in
    let ends = sym c.ends.ensures ∙ c.if-ends.true in
    let h = in_world (g.S.Space.view c.args.space.now) (g.S.Space.view c.loop-self.space) i.frame.bytes i.frame.room
    k.frame.left.room one.0 in
    let h = value_stops nodes c.loop-self.self.store.now ty r.stride r.row c.args.start.bit outer c.loop-self.place
    i.so_far.0 i.so_far.3 _ r.packs (8 * (g.S.Space.view c.args.space.now).len) c.args.start.order _ h in
    let stays = one.1 (ends_with_memory _ _ ends) in
    record {
      values = i.so_far.0;
      has = values_stay nodes c.loop-self.self.store.now c.map_value.new.self.store.now ty c.args.start.bit outer
          c.loop-self.place i.so_far.0 stays i.so_far.3;
      runs = follow_on (in_later i.frame.room k.frame.left.room i.so_far.4)
          (elements_over _ _ _ _ _ _ _ (max 1 (least_width ty)) _ i.so_far.2 i.inside due (e.limit ∙ i.frame.limit)
          e.ok e.made _ ends h);
    }

pub map_values-returns-in-Err-clause-is : goal.map_values-returns-in-Err-clause-is
map_values-returns-in-Err-clause-is g t c =
    let i = c.loop-self.invariant in
    let e = c.in_ok-tick.ensures in
    let k = c.in-Err.ensures in
    let nodes = c.args.self.now.nodes.now in
    let ty = type_of nodes c.args.element in
    let outer = outer_of (levels nodes c.args.self.now.store.now) in
    let r = c.requires.packs in
    let due = sym c.is_due.ensures ∙ c.loop-self-test.true in
    let due = rw c.len-bits.ensures at due in
    let one = rw (i.lent.nodes, i.frame.len) at k.is in
    let ends = sym c.ends.ensures ∙ c.if-ends.false in
    let h = in_world (g.S.Space.view c.args.space.now) (g.S.Space.view c.loop-self.space) i.frame.bytes i.frame.room
    k.frame.left.room one.0 in
    let h = value_stops nodes c.loop-self.self.store.now ty r.stride r.row c.args.start.bit outer c.loop-self.place
    i.so_far.0 i.so_far.3 _ r.packs (8 * (g.S.Space.view c.args.space.now).len) c.args.start.order _ h in
    follow_on (in_later i.frame.room k.frame.left.room i.so_far.4)
    (elements_stop _ _ _ _ _ _ _ (max 1 (least_width ty)) _ i.so_far.2 i.inside due (e.limit ∙ i.frame.limit) e.ok
    e.made _ ends h)

pub map_values-returns-then-is_met-clause-is : goal.map_values-returns-then-is_met-clause-is
map_values-returns-then-is_met-clause-is g t c =
    let i = c.loop-self.invariant in
    let over = sym c.is_due.ensures ∙ c.loop-self-test.false in
    let over = rw c.len-bits.ensures at over in
    record {
      values = i.so_far.0;
      has = i.so_far.3;
      runs = follow_on i.so_far.4
          (elements_end _ _ _ _ _ _ _ (max 1 (least_width (type_of c.args.self.now.nodes.now c.args.element))) _
          i.so_far.2 i.inside over (sym c.is_met.ensures ∙ c.if-is_met.true));
    }

pub map_values-returns-else-is_met-clause-is : goal.map_values-returns-else-is_met-clause-is
map_values-returns-else-is_met-clause-is g t c =
    let i = c.loop-self.invariant in
    let over = sym c.is_due.ensures ∙ c.loop-self-test.false in
    let over = rw c.len-bits.ensures at over in
    rw c.from.ensures (follow_on i.so_far.4
    (elements_beyond _ _ _ _ _ _ _ (max 1 (least_width (type_of c.args.self.now.nodes.now c.args.element))) _ i.so_far.2
    i.inside over (sym c.is_met.ensures ∙ c.if-is_met.false)))

pub values_body-returns-in_err-end-clause-is : goal.values_body-returns-in_err-end-clause-is
values_body-returns-in_err-end-clause-is g t c =
    let p = err_from_is_err_and c.from_residual.result c.from_residual.ensures.1 in
    rw (p.1, p.2) (follow_stop _ _ _ c.in_err-end.ensures.is)

pub values_body-returns-in_err-close_array-clause-level : goal.values_body-returns-in_err-close_array-clause-level
values_body-returns-in_err-close_array-clause-level g t c =
    let p =
    err_from_is_err_and c.from_residual-in_err-close_array.result c.from_residual-in_err-close_array.ensures.1 in
    rw p.1 (regrown_stays c.args.self.now.nodes.now _ _ _ c.in_ok-end.ensures.level c.in_err-close_array.ensures.err)

pub values_body-returns-in_err-close_array-clause-is : goal.values_body-returns-in_err-close_array-clause-is
values_body-returns-in_err-close_array-clause-is g t c =
    let p =
    err_from_is_err_and c.from_residual-in_err-close_array.result c.from_residual-in_err-close_array.ensures.1 in
    let nodes = c.args.self.now.nodes.now in
    let ty = type_of nodes c.args.element in
    let outer = outer_of (levels nodes c.args.self.now.store.now) in
    let r = c.requires.packs in
    let widths = table_widths nodes c.args.self.now.table.below c.args.element in
    let m = c.in_ok-end.ensures in
    let e = c.in_err-close_array.ensures in
    let h = c.map_values.new.self.store.now in
    let none = none_there nodes h ty r.stride r.row widths c.args.start.bit outer c.in_ok-end.end m.is.values m.is.has
    c.if-end-start.true in
    let full = rw none.levels at (e.full nodes) in
    let full = subst (λ vs. Exceeds h.room
    (pushed outer (Some (array_value c.args.start.bit c.in_ok-end.end (vs ∷ outer))))) (sym none.none) full in
    let lacks = none_lacks m.frame.left.room r.packs c.close_array.new.self none.opened full e.lacks in
    rw (p.1, p.2) (array_no_room _ _ _ _ (in_later m.frame.left.room e.room m.is.runs) ty
    (rw (ap array_move r.row) lacks))

pub values_body-returns-clause-is : goal.values_body-returns-clause-is
values_body-returns-clause-is g t c =
    let nodes = c.args.self.now.nodes.now in
    let ty = type_of nodes c.args.element in
    let outer = outer_of (levels nodes c.args.self.now.store.now) in
    let r = c.requires.packs in
    let widths = table_widths nodes c.args.self.now.table.below c.args.element in
    let m = c.in_ok-end.ensures in
    let n = c.note_made.ensures in
    let h = c.map_values.new.self.store.now in
    elim c.if-end-start.branch [
      | values_body-then-end-start+in_ok-close_array w ↦
          let e = w.in_ok-close_array.ensures in
          let none = none_there nodes h ty r.stride r.row widths c.args.start.bit outer c.in_ok-end.end m.is.values
          m.is.has w.if-end-start.true in
          let moves = none_moves m.frame.left.room r.packs e.room none.opened e.within e.light e.moves in
          rw w.self-is (record {
            value = array_value c.args.start.bit c.in_ok-end.end (m.is.values ∷ outer);
            kept = none_closed nodes h c.args.start.bit outer c.in_ok-end.end m.is.values w.close_array.new.self
                none.levels none.none e.ok;
            ends = refl;
            follows = array_made _ _ _ _ (in_later m.frame.left.room e.room m.is.runs) ty
                (rw (ap array_move r.row) moves) n.steps n.made;
          })
      | values_body-else-end-start w ↦
          let e = w.close_records.ensures in
          let some = some_there nodes h ty r.stride r.row widths c.args.start.bit outer c.in_ok-end.end m.is.values
          m.is.has w.if-end-start.false in
          let moves = some_moves m.frame.left.room r.packs
          (laid_nodes nodes h ty c.args.start.bit outer c.in_ok-end.end m.is.values some) e.within e.moves in
          rw w.self-is (record {
            value = array_value c.args.start.bit c.in_ok-end.end (m.is.values ∷ outer);
            kept = some_closed nodes h c.args.start.bit outer c.in_ok-end.end m.is.values w.close_records.new.self
                some e.packing;
            ends = refl;
            follows = array_made _ _ _ _ (in_later m.frame.left.room e.room m.is.runs) ty
                (rw (ap array_move r.row) moves) n.steps n.made;
          })
    ]

pub values_body-returns-clause-level : goal.values_body-returns-clause-level
values_body-returns-clause-level g t c =
    elim c.if-end-start.branch [
      | values_body-then-end-start+in_ok-close_array w ↦
          let e = w.in_ok-close_array.ensures in
          rw w.self-is (closes_level c.args.self.now.nodes.now _ _ _ c.requires.open.0 c.in_ok-end.ensures.level e.depth
          (ap (λ (s : State). s.frames) e.moves) e.below e.within)
      | values_body-else-end-start w ↦
          let e = w.close_records.ensures in
          rw w.self-is (closes_level c.args.self.now.nodes.now _ _ _ c.requires.open.0 c.in_ok-end.ensures.level e.depth
          (ap (λ (s : State). s.frames) e.moves) e.below e.within)
    ]
