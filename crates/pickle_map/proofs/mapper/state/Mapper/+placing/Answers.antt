use Rattle.std.proofs.Common.{rules, ◌+◌, ◌^◌, ◌<◌, None, refl, sym, ap, subst, ◌∙◌, arith}
use Rattle.std.proofs.lemmas.List.{drop_more, drop_all}
use Rattle.std.proofs.lemmas.Result.{err_from_is_err_and}
use Rattle.pickle_types.specs.Table.{type_of}
use Rattle.pickle_types.specs.Types.{parts_depth}
use Rattle.mapping_plans.specs.Mapping.{number_plan}
use Rattle.pickle_meaning.specs.Means.{number_type, width_in}
use Rattle.value_store.specs.Moves.{State}
use Rattle.value_store.specs.Slots.{level_count}
use Rattle.pickle_map.proofs.Shapes.{opened_as, below_as, sound_as, names_as, parts_within, parts_bounded, part_bounded, of_one, integral_opened, parts_named}
use Rattle.pickle_map.specs.Mappable.{IsPartOf}
use Rattle.pickle_map.proofs.Keeping.{added_stays, closes_level, regrown_stays, same_adds, same_stays, stays_then, stopped_stays}
use Rattle.pickle_map.proofs.Left.{left_open, left_keeps, left_adds}
use Rattle.pickle_map.proofs.Clauses.{checks_ok, checks_stop}
use Rattle.pickle_map.proofs.Placing.{digits_end, digits_no_tick, digits_stop, digits_goes}
use Rattle.pickle_map.proofs.Walks.{follow_done, follow_here, follow_on, follow_tick, follow_stop, closes_no_room, closes_made, first_no_tick}
use Rattle.pickle_map.proofs.Worlds.{same_room, in_call, in_later, moves_to, lacks_these}
use Rattle.pickle_map.proofs.mapper.state.Mapper.+placing.Goals as goal

pub integral_body-returns-in_err-place_fields-clause-is : goal.integral_body-returns-in_err-place_fields-clause-is
integral_body-returns-in_err-place_fields-clause-is g t c =
    let p = err_from_is_err_and c.from_residual.result c.from_residual.ensures.1 in
    rw (p.1, p.2) (λ known. follow_stop _ _ _ (c.in_err-place_fields.ensures.is known))

pub integral_body-returns-in_err-close_struct-clause-is : goal.integral_body-returns-in_err-close_struct-clause-is
integral_body-returns-in_err-close_struct-clause-is g t c =
    let p =
    err_from_is_err_and c.from_residual-in_err-close_struct.result c.from_residual-in_err-close_struct.ensures.1 in
    let named = c.requires.names ∙ sym (parts_named (type_of c.args.self.now.nodes.now) c.args.fields.now) in
    let full = rw (named, c.from.ensures) at (c.in_err-close_struct.ensures.full c.args.self.now.nodes.now) in
    let keeps = c.in_ok-place_fields.ensures.frame.left.room in
    rw (p.1, p.2) (λ known.
    closes_no_room _ _ _ (in_later keeps c.in_err-close_struct.ensures.room (c.in_ok-place_fields.ensures.is known))
    (lacks_these keeps tt full c.in_err-close_struct.ensures.lacks))

pub integral_body-returns-in_err-close_struct-clause-level : goal.integral_body-returns-in_err-close_struct-clause-level
integral_body-returns-in_err-close_struct-clause-level g t c =
    let p =
    err_from_is_err_and c.from_residual-in_err-close_struct.result c.from_residual-in_err-close_struct.ensures.1 in
    rw p.1
    (regrown_stays c.args.self.now.nodes.now _ _ _ c.in_ok-place_fields.ensures.level c.in_err-close_struct.ensures.err)

pub integral_body-returns-clause-is : goal.integral_body-returns-clause-is
integral_body-returns-clause-is g t c =
    let n = c.note_made.ensures in
    let named = c.requires.names ∙ sym (parts_named (type_of c.args.self.now.nodes.now) c.args.fields.now) in
    let closed = rw (named, c.from.ensures) at (c.in_ok-close_struct.ensures.ok c.args.self.now.nodes.now) in
    let h = rw c.in_ok-place_fields.ensures.level.outer at closed in
    let room = c.in_ok-close_struct.ensures.room in
    λ known. record {
      value = _;
      kept = h;
      ends = refl;
      follows = closes_made _ _ _
          (in_later c.in_ok-place_fields.ensures.frame.left.room room (c.in_ok-place_fields.ensures.is known))
          (moves_to c.in_ok-place_fields.ensures.frame.left.room c.close_struct.ensures.room
          (same_room c.close_struct.new.self)
          c.in_ok-close_struct.ensures.within c.in_ok-close_struct.ensures.light c.in_ok-close_struct.ensures.moves tt)
          n.steps n.made;
    }

pub integral_body-returns-clause-level : goal.integral_body-returns-clause-level
integral_body-returns-clause-level g t c =
    let e = c.in_ok-close_struct.ensures in
    closes_level c.args.self.now.nodes.now _ _ _ c.requires.open c.in_ok-place_fields.ensures.level e.depth
    (ap (λ (s : State). s.frames) e.moves) e.below e.within

pub place_fields-loop-part-init : goal.place_fields-loop-part-init
place_fields-loop-part-init g t c = record {
  lent = search rules;
  frame = search rules;
  left = search rules;
  level = same_stays c.args.self.now.nodes.now c.args.self.now.store.now;
  so_far = λ known. follow_here;
}

pub place_fields-returns-in_err-tick-clause-is : goal.place_fields-returns-in_err-tick-clause-is
place_fields-returns-in_err-tick-clause-is g t c =
    let p = err_from_is_err_and c.from_residual.result c.from_residual.ensures.1 in
    let e = c.in_err-tick.ensures in
    let i = c.loop-part.invariant in
    let next = drop_more c.args.fields.now c.loop-part.part-index c.part-item.result (omega arith) in
    let next = rw (← c.part-item.is) at next in
    rw (p.1, p.2) (λ known. follow_on (i.so_far known)
    (digits_no_tick _ _ _ _ _ _ _ _ next e.err (e.err ∙ e.refused.0 refl ∙ i.frame.limit) e.made))

pub place_fields-place_part-requires : goal.place_fields-place_part-requires
place_fields-place_part-requires g t c =
    let bounded =
    part_bounded c.args.fields.now c.loop-part.part-index c.part-item.result (omega arith) c.part-item.is in
    let part = of_one (IsPartOf c.args.self.now.nodes.now (level_count c.args.self.now.store.now)) c.args.fields.now
    c.loop-part.part-index c.part-item.result c.requires.fields (omega arith) c.part-item.is in
    let part = rw (← c.loop-part.invariant.level.depth) at part in
    let below = rw c.width_at-width.ensures.is at c.first_digits-digits.ensures.below in
    search rules

pub place_fields-returns-in_err-place_part-clause-is : goal.place_fields-returns-in_err-place_part-clause-is
place_fields-returns-in_err-place_part-clause-is g t c =
    let p = err_from_is_err_and c.from_residual-in_err-place_part.result c.from_residual-in_err-place_part.ensures.1 in
    let e = c.in_ok-tick.ensures in
    let i = c.loop-part.invariant in
    let next = drop_more c.args.fields.now c.loop-part.part-index c.part-item.result (omega arith) in
    let next = rw (← c.part-item.is) at next in
    let cut = rw c.width_at-width.ensures.is at c.first_digits-digits.ensures.is in
    let room = c.in_err-place_part.ensures.frame.left.room in
    rw (p.1, p.2) (λ known. follow_on (in_later i.frame.room room (i.so_far known))
    (digits_stop _ _ _ _ _ _ _ _ next _ cut (e.limit ∙ i.frame.limit) e.ok e.made _
    (in_call i.frame.room room (rw i.lent.nodes at (c.in_err-place_part.ensures.is known)))))

pub place_fields-returns-in_err-place_part-clause-level : goal.place_fields-returns-in_err-place_part-clause-level
place_fields-returns-in_err-place_part-clause-level g t c =
    let i = c.loop-part.invariant in
    stays_then c.args.self.now.nodes.now _ _ _ i.level (rw i.lent.nodes at c.in_err-place_part.ensures.level)

pub place_fields-loop-part-preserved : goal.place_fields-loop-part-preserved
place_fields-loop-part-preserved g t c =
    let e = c.in_ok-tick.ensures in
    let i = c.loop-part.invariant in
    let next = drop_more c.args.fields.now c.loop-part.part-index c.part-item.result (omega arith) in
    let next = rw (← c.part-item.is) at next in
    let cut = rw c.width_at-width.ensures.is at c.first_digits-digits.ensures.is in
    let less = rw c.width_at-width.ensures.is at c.saturating_sub-left.ensures in
    let stays = rw i.lent.nodes at c.in_ok-place_part.ensures.level in
    record {
      lent = search rules;
      frame = search rules;
      left = search rules;
      level = stays_then c.args.self.now.nodes.now _ _ _ i.level stays;
      so_far = λ known.
          let h = rw i.lent.nodes at (c.in_ok-place_part.ensures.is known) in
          rw h.kept (follow_on (in_later i.frame.room c.in_ok-place_part.ensures.frame.left.room (i.so_far known))
          (digits_goes _ _ _ _ _ _ _ _ next _ cut (e.limit ∙ i.frame.limit) e.ok e.made h.value _ less
          (in_call i.frame.room c.in_ok-place_part.ensures.frame.left.room h.follows)));
    }

pub place_fields-returns-clause-is : goal.place_fields-returns-clause-is
place_fields-returns-clause-is g t c =
    let i = c.loop-part.invariant in
    λ known. follow_on (i.so_far known)
    (digits_end _ _ _ _ _ _ (drop_all c.loop-part.part-index c.args.fields.now (omega arith)))

pub place_integral-integral_body-placed-requires : goal.place_integral-integral_body-placed-requires
place_integral-integral_body-placed-requires g t c =
    let depth = c.open_level.ensures.depth in
    let fields = rw (← depth) at c.requires.fields in
    search rules

pub place_integral-leave_level-requires : goal.place_integral-leave_level-requires
place_integral-leave_level-requires g t c = left_open c.args.self.now.nodes.now c.open_level.ensures.room
    c.integral_body-placed.ensures.frame.left.room c.open_level.ensures.depth _ c.integral_body-placed.ensures.level

pub place_integral-returns-clause-is : goal.place_integral-returns-clause-is
unfolding number_plan
place_integral-returns-clause-is g t c =
    let o = c.open_level.ensures in
    let left = c.leave_level.ensures in
    λ known.
    let h = rw (o.levels c.args.self.now.nodes.now) at (c.integral_body-placed.ensures.is known) in
    left_keeps c.args.self.now.nodes.now o.room c.integral_body-placed.ensures.frame.left.room left.room _ o.moves
    o.within (λ _ h. h) _ _ left.left h

pub place_integral-returns-clause-level : goal.place_integral-returns-clause-level
place_integral-returns-clause-level g t c =
    let o = c.open_level.ensures in
    left_adds c.args.self.now.nodes.now o.room c.integral_body-placed.ensures.frame.left.room c.leave_level.ensures.room
    o.depth (o.levels c.args.self.now.nodes.now) o.slots o.moves _ c.integral_body-placed.ensures.level
    c.leave_level.ensures.left

pub place_number-place_integer-requires-clause-digits : goal.place_number-place_integer-requires-clause-digits
place_number-place_integer-requires-clause-digits g t c =
    subst (λ x. c.args.digits < 2 ^ width_in (number_type x)) (opened_as c.args.self.now.nodes.now c.args.self.now.table
    c.args.at c.requires.at c.index-nodes-at.result _ c.in-Integer.is) c.requires.digits

pub place_number-place_offset-requires-clause-width : goal.place_number-place_offset-requires-clause-width
place_number-place_offset-requires-clause-width g t c =
    (below_as c.args.self.now.nodes.now c.args.self.now.table c.args.at
    c.requires.at c.index-nodes-at.result _ c.in-Offset.is).0

pub place_number-place_offset-requires-clause-unit : goal.place_number-place_offset-requires-clause-unit
place_number-place_offset-requires-clause-unit g t c =
    (below_as c.args.self.now.nodes.now c.args.self.now.table c.args.at
    c.requires.at c.index-nodes-at.result _ c.in-Offset.is).1

pub place_number-place_offset-requires-clause-digits : goal.place_number-place_offset-requires-clause-digits
place_number-place_offset-requires-clause-digits g t c =
    subst (λ x. c.args.digits < 2 ^ width_in (number_type x)) (opened_as c.args.self.now.nodes.now c.args.self.now.table
    c.args.at c.requires.at c.index-nodes-at.result _ c.in-Offset.is) c.requires.digits

pub place_number-place_integral-requires : goal.place_number-place_integral-requires
unfolding parts_depth
place_number-place_integral-requires g t c =
    let below = below_as c.args.self.now.nodes.now c.args.self.now.table c.args.at c.requires.at c.index-nodes-at.result
    _ c.in-Integral.is in
    let names = names_as c.args.self.now.nodes.now c.args.self.now.table c.args.at c.requires.at c.index-nodes-at.result
    _ c.in-Integral.is in
    let sound = sound_as c.args.self.now.nodes.now c.args.self.now.table c.args.at c.requires.at c.index-nodes-at.result
    _ c.in-Integral.is in
    let opened =
    opened_as c.args.self.now.nodes.now c.args.self.now.table c.args.at c.requires.at c.index-nodes-at.result
    _ c.in-Integral.is in
    let deep = rw opened at c.requires.open in
    let fields = parts_within c.args.self.now.nodes.now c.args.at c.requires.at
    (level_count c.args.self.now.store.now + 1) c.in-Integral.fields.items below.1 sound (omega (arith, deep)) in
    let bounded = parts_bounded c.args.at c.in-Integral.fields.items below.1 in
    let wide = below.0 in
    rw c.deref.ensures.value (search rules)

pub place_number-returns-in-Integer-clause-is : goal.place_number-returns-in-Integer-clause-is
place_number-returns-in-Integer-clause-is g t c =
    rw (opened_as c.args.self.now.nodes.now c.args.self.now.table c.args.at
    c.requires.at c.index-nodes-at.result _ c.in-Integer.is) (c.place_integer.ensures.is)

pub place_number-returns-in-Offset-clause-is : goal.place_number-returns-in-Offset-clause-is
place_number-returns-in-Offset-clause-is g t c = rw (opened_as c.args.self.now.nodes.now c.args.self.now.table c.args.at
    c.requires.at c.index-nodes-at.result _ c.in-Offset.is) (c.place_offset.ensures.is)

pub place_number-returns-in-Integer-clause-level : goal.place_number-returns-in-Integer-clause-level
place_number-returns-in-Integer-clause-level g t c = c.place_integer.ensures.level

pub place_number-returns-in-Offset-clause-level : goal.place_number-returns-in-Offset-clause-level
place_number-returns-in-Offset-clause-level g t c = c.place_offset.ensures.level

pub place_number-returns-in-Integral-clause-is : goal.place_number-returns-in-Integral-clause-is
place_number-returns-in-Integral-clause-is g t c =
    rw (integral_opened c.args.self.now.nodes.now c.args.self.now.table c.args.at c.requires.at
    c.index-nodes-at.result _ _ _
    _ c.in-Integral.is c.deref.ensures.value) c.place_integral.ensures.is

pub place_number-returns-in-String-clause-is : goal.place_number-returns-in-String-clause-is
unfolding number_plan
place_number-returns-in-String-clause-is g t c = rw (
  c.no_number.ensures,
  opened_as c.args.self.now.nodes.now c.args.self.now.table c.args.at c.requires.at
      c.index-nodes-at.result _ c.in-String.is,
) (λ known. follow_done)

pub place_number-returns-in-Array-clause-is : goal.place_number-returns-in-Array-clause-is
unfolding number_plan
place_number-returns-in-Array-clause-is g t c = rw (
  c.no_number-in-Array.ensures,
  opened_as c.args.self.now.nodes.now c.args.self.now.table c.args.at c.requires.at
      c.index-nodes-at.result _ c.in-Array.is,
) (λ known. follow_done)

pub place_number-returns-in-Struct-clause-is : goal.place_number-returns-in-Struct-clause-is
unfolding number_plan
place_number-returns-in-Struct-clause-is g t c = rw (
  c.no_number-in-Struct.ensures,
  opened_as c.args.self.now.nodes.now c.args.self.now.table c.args.at c.requires.at
      c.index-nodes-at.result _ c.in-Struct.is,
) (λ known. follow_done)

pub place_number-returns-in-Union-clause-is : goal.place_number-returns-in-Union-clause-is
unfolding number_plan
place_number-returns-in-Union-clause-is g t c = rw (
  c.no_number-in-Union.ensures,
  opened_as c.args.self.now.nodes.now c.args.self.now.table c.args.at c.requires.at
      c.index-nodes-at.result _ c.in-Union.is,
) (λ known. follow_done)

pub place_number-returns-in-Integral-clause-level : goal.place_number-returns-in-Integral-clause-level
place_number-returns-in-Integral-clause-level g t c = c.place_integral.ensures.level

pub place_number-returns-in-String-clause-level : goal.place_number-returns-in-String-clause-level
place_number-returns-in-String-clause-level g t c =
    same_adds c.args.self.now.nodes.now c.args.self.now.store.now _

pub place_number-returns-in-Array-clause-level : goal.place_number-returns-in-Array-clause-level
place_number-returns-in-Array-clause-level g t c =
    same_adds c.args.self.now.nodes.now c.args.self.now.store.now _

pub place_number-returns-in-Struct-clause-level : goal.place_number-returns-in-Struct-clause-level
place_number-returns-in-Struct-clause-level g t c =
    same_adds c.args.self.now.nodes.now c.args.self.now.store.now _

pub place_number-returns-in-Union-clause-level : goal.place_number-returns-in-Union-clause-level
place_number-returns-in-Union-clause-level g t c =
    same_adds c.args.self.now.nodes.now c.args.self.now.store.now _

pub place_part-returns-in_err-tick-clause-level : goal.place_part-returns-in_err-tick-clause-level
place_part-returns-in_err-tick-clause-level g t c =
    same_stays c.args.self.now.nodes.now c.args.self.now.store.now

pub place_part-returns-in_err-place_number-clause-level : goal.place_part-returns-in_err-place_number-clause-level
place_part-returns-in_err-place_number-clause-level g t c = stopped_stays c.args.self.now.nodes.now _ _ _ _
    (same_stays _ _) c.in_err-place_number.ensures.level

pub place_part-returns-in_err-tick-clause-is : goal.place_part-returns-in_err-tick-clause-is
place_part-returns-in_err-tick-clause-is g t c =
    let p = err_from_is_err_and c.from_residual.result c.from_residual.ensures.1 in
    let e = c.in_err-tick.ensures in
    rw (p.1, p.2) (λ known. first_no_tick _ _ e.err (e.err ∙ e.refused.0 refl) e.made)

pub place_part-returns-in_err-place_number-clause-is : goal.place_part-returns-in_err-place_number-clause-is
place_part-returns-in_err-place_number-clause-is g t c =
    let p =
    err_from_is_err_and c.from_residual-in_err-place_number.result c.from_residual-in_err-place_number.ensures.1 in
    let e = c.in_ok-tick.ensures in
    rw (p.1, p.2)
    (λ known. follow_stop _ _ _ (follow_tick e.limit e.ok e.made (c.in_err-place_number.ensures.is known)))

pub place_part-returns-clause-is : goal.place_part-returns-clause-is
place_part-returns-clause-is g t c =
    let e = c.in_ok-tick.ensures in
    λ known.
    let h = c.in_ok-place_number.ensures.is known in
    let checked = rw (h.kept, c.from.ensures) at c.in_ok-check.ensures.is in
    record {
      value = h.value;
      kept = h.kept;
      ends = h.ends;
      follows = checks_ok _ _ _ _ h.value (follow_tick e.limit e.ok e.made h.follows)
          (c.in_ok-place_number.ensures.frame.left.limit ∙ e.limit) c.in_ok-check.ensures.meter.made tt checked;
    }

pub place_part-returns-in_err-check-clause-is : goal.place_part-returns-in_err-check-clause-is
place_part-returns-in_err-check-clause-is g t c =
    let p = err_from_is_err_and c.from_residual-in_err-check.result c.from_residual-in_err-check.ensures.1 in
    let e = c.in_ok-tick.ensures in
    rw (p.1, p.2) (λ known.
    let h = c.in_ok-place_number.ensures.is known in
    let checked = rw (h.kept, c.from.ensures) at c.in_err-check.ensures.is in
    checks_stop _ _ _ _ h.value (follow_tick e.limit e.ok e.made h.follows)
    (c.in_ok-place_number.ensures.frame.left.limit ∙ e.limit) c.in_err-check.ensures.meter.made _ (omega arith) checked)

pub place_part-returns-clause-level : goal.place_part-returns-clause-level
place_part-returns-clause-level g t c = added_stays c.args.self.now.nodes.now _ _ _ _ _ (same_stays _ _)
    (c.in_ok-place_number.ensures.is None).kept c.in_ok-place_number.ensures.level

pub place_part-returns-in_err-check-clause-level : goal.place_part-returns-in_err-check-clause-level
place_part-returns-in_err-check-clause-level g t c = added_stays c.args.self.now.nodes.now _ _ _ _ _ (same_stays _ _)
    (c.in_ok-place_number.ensures.is None).kept c.in_ok-place_number.ensures.level
