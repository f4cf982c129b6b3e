use Rattle.std.proofs.Common.{rules, ◌≡◌, ◌+◌, ◌*◌, ◌≤◌, max, [], ◌∷◌, ◌++◌, length, refl, sym, ap, subst, ◌∙◌, arith}
use Rattle.std.proofs.lemmas.List.{length_push}
use Rattle.std.proofs.lemmas.Result.{err_from_is_err_and}
use Rattle.pickle_types.specs.Bounds.{least_width, count_of}
use Rattle.pickle_types.specs.Table.{type_of}
use Rattle.pickle_map.specs.declared.mapper.stop.Stop.TheVariants.{Memory}
use Rattle.pickle_map.specs.Framed.{world_of}
use Rattle.mapping_plans.specs.Mapping.{plan, element_plan}
use Rattle.pickle_map.specs.Row.{row_levels}
use Rattle.value_store.specs.Exceeding.{Exceeds}
use Rattle.value_store.specs.Slots.{levels, element_width, element_value}
use Rattle.pickle_meaning.specs.Values.{outer_of}
use Rattle.value_store.proofs.PackedRows.{packing-outer, packing-empty}
use Rattle.value_store.specs.Moves.{State}
use Rattle.pickle_map.proofs.Keeping.{below_keeps, keeps_then, regrown_stays, same_stays}
use Rattle.pickle_map.proofs.Worlds.{same_room, in_world, in_later, moves_to, lacks_these}
use Rattle.pickle_map.proofs.Mapping.{few_enough, elements_end, elements_beyond, elements_no_tick, elements_goes, elements_over, elements_stop}
use Rattle.pickle_map.proofs.Row.{some_bits, least_is, element_end, element_stops, element_no_room, element_goes, row_more, first_is}
use Rattle.pickle_map.proofs.Walks.{follow_here, follow_on}
use Rattle.pickle_map.proofs.mapper.state.Mapper.map_packed.Goals as goal

pub loop-meter-init : goal.loop-meter-init
loop-meter-init g c =
    let few = few_enough (8 * (g.S.Space.view c.args.space.now).len)
    (least_width (type_of c.args.self.now.nodes.now c.args.element)) in
    let fresh = packing-empty c.args.self.now.nodes.now c.args.self.now.store.now c.args.shape c.args.start.bit
    (outer_of (levels c.args.self.now.nodes.now c.args.self.now.store.now)) c.requires.packing in
    record {
      frame = search rules;
      after = search rules;
      inside = search rules;
      level = same_stays c.args.self.now.nodes.now c.args.self.now.store.now;
      counted = search rules;
      so_far = (
        [],
        count_of (8 * (g.S.Space.view c.args.space.now).len)
            (least_width (type_of c.args.self.now.nodes.now c.args.element)),
        omega (arith, few),
        omega arith,
        refl,
        c.requires.packing,
        rw fresh follow_here,
      );
    }

pub returns-in_err-tick-clause-is : goal.returns-in_err-tick-clause-is
returns-in_err-tick-clause-is g c =
    let p = err_from_is_err_and c.from_residual.result c.from_residual.ensures.1 in
    let i = c.loop-meter.invariant in
    let e = c.in_err-tick.ensures in
    let due = sym c.is_due.ensures ∙ c.loop-meter-test.true in
    let due = rw c.len-bits.ensures at due in
    rw (p.1, p.2) (follow_on i.so_far.6
    (elements_no_tick _ _ _ _ _ _ _ (max 1 (least_width (type_of c.args.self.now.nodes.now c.args.element))) _
    i.so_far.2 i.inside due e.err (e.err ∙ e.refused.0 refl ∙ i.frame.limit) e.made))

pub push_packed-requires-clause-first : goal.push_packed-requires-clause-first
push_packed-requires-clause-first g c =
    let i = c.loop-meter.invariant in
    first_is c.args.self.now.nodes.now c.loop-meter.store c.args.shape i.so_far.0 c.args.start.bit
    (outer_of (levels c.args.self.now.nodes.now c.args.self.now.store.now)) c.loop-meter.count i.so_far.5
    c.requires.shape.packed i.so_far.4

pub returns-in_err-push_packed-in-Ok-clause-level : goal.returns-in_err-push_packed-in-Ok-clause-level
returns-in_err-push_packed-in-Ok-clause-level g c =
    regrown_stays c.args.self.now.nodes.now _ _ _ c.loop-meter.invariant.level c.in_err-push_packed-in-Ok.ensures.err

pub returns-in_err-push_packed-in-Ok-clause-is : goal.returns-in_err-push_packed-in-Ok-clause-is
returns-in_err-push_packed-in-Ok-clause-is g c =
    let p = err_from_is_err_and c.from_residual-in_err-push_packed-in-Ok.result
    c.from_residual-in_err-push_packed-in-Ok.ensures.1 in
    let i = c.loop-meter.invariant in
    let e = c.in_ok-tick.ensures in
    let r = c.in-Ok.ensures in
    let due = sym c.is_due.ensures ∙ c.loop-meter-test.true in
    let due = rw c.len-bits.ensures at due in
    let fits = rw (i.frame.len, c.element_width-width.ensures) at r.inside in
    let may = rw c.element_width-width.ensures at r.ok in
    let outer = outer_of (levels c.args.self.now.nodes.now c.args.self.now.store.now) in
    let more = row_more c.args.shape i.so_far.0 c.in-Ok.digits c.args.start.bit c.loop-meter.place outer i.so_far.3 in
    let full = subst (Exceeds c.loop-meter.store.room) more
    (c.in_err-push_packed-in-Ok.ensures.full c.args.self.now.nodes.now i.so_far.0 outer i.so_far.5) in
    let cannot = rw c.element_width-width.ensures at c.in_err-push_packed-in-Ok.ensures.lacks in
    let lacks = lacks_these (same_room c.loop-meter.store) tt full cannot in
    let h =
    element_no_room {world = world_of (g.S.Space.view c.loop-meter.space) c.loop-meter.store c.push_packed.new.self}
    c.args.shape (8 * (g.S.Space.view c.args.space.now).len) (type_of c.args.self.now.nodes.now c.args.element)
    c.args.start.order (row_levels c.args.shape i.so_far.0 c.args.start.bit
    (outer_of (levels c.args.self.now.nodes.now c.args.self.now.store.now)))
    c.loop-meter.place c.requires.shape.is i.inside c.in-Ok.digits r.limit r.steps r.made fits may lacks in
    let h = in_world (g.S.Space.view c.args.space.now) (g.S.Space.view c.loop-meter.space) i.frame.bytes i.frame.room
    c.in_err-push_packed-in-Ok.ensures.room h in
    rw (p.1, p.2) (follow_on (in_later i.frame.room c.in_err-push_packed-in-Ok.ensures.room i.so_far.6)
    (elements_stop _ _ _ _ _ _ _ (max 1 (least_width (type_of c.args.self.now.nodes.now c.args.element))) _ i.so_far.2
    i.inside due (e.limit ∙ i.frame.limit) e.ok e.made Memory refl h))

pub loop-meter-preserved : goal.loop-meter-preserved
loop-meter-preserved g c =
    let i = c.loop-meter.invariant in
    let e = c.in_ok-tick.ensures in
    let r = c.in-Ok.ensures in
    let n = c.note_made.ensures in
    let k = c.in_ok-push_packed-in-Ok.ensures in
    let outer = outer_of (levels c.args.self.now.nodes.now c.args.self.now.store.now) in
    let due = sym c.is_due.ensures ∙ c.loop-meter-test.true in
    let due = rw c.len-bits.ensures at due in
    let width = c.element_width-width.ensures in
    let fits = rw (i.frame.len, width) at r.inside in
    let may = rw width at r.ok in
    let short = g.met.S.Space.short c.args.space.now in
    let place : c.loop-meter.place + element_width c.args.shape
    ≡ c.args.start.bit + element_width c.args.shape * (length i.so_far.0 + 1) =
    omega (arith, i.so_far.3) in
    let levels = row_more c.args.shape i.so_far.0 c.in-Ok.digits c.args.start.bit c.loop-meter.place outer i.so_far.3 in
    let moves = rw width at k.moves in
    let moves = moves_to (same_room c.loop-meter.store) c.push_packed.ensures.room
    (same_room c.push_packed.new.self) k.within k.light moves tt in
    let h =
    element_goes {world = world_of (g.S.Space.view c.loop-meter.space) c.loop-meter.store c.push_packed.new.self}
    c.args.shape (8 * (g.S.Space.view c.args.space.now).len) (type_of c.args.self.now.nodes.now c.args.element)
    c.args.start.order (row_levels c.args.shape i.so_far.0 c.args.start.bit outer) c.loop-meter.place
    c.requires.shape.is i.inside
    c.in-Ok.digits r.limit r.steps r.made fits may moves n.steps n.made in
    let h = in_world (g.S.Space.view c.args.space.now) (g.S.Space.view c.loop-meter.space) i.frame.bytes
    i.frame.room k.room h in
    let some = some_bits c.args.shape c.requires.shape.packed in
    let least = least_is c.args.shape (type_of c.args.self.now.nodes.now c.args.element) c.requires.shape.is in
    let far : c.loop-meter.place + max 1 (least_width (type_of c.args.self.now.nodes.now c.args.element))
    ≤ c.loop-meter.place + element_width c.args.shape =
    omega (arith, some.0, least) in
    let next = elements_goes (element_plan (type_of c.args.self.now.nodes.now c.args.element)
    (plan (8 * (g.S.Space.view c.args.space.now).len) (type_of c.args.self.now.nodes.now c.args.element)
    c.args.start.order))
    (8 * (g.S.Space.view c.args.space.now).len) c.args.start.bit c.args.extent c.loop-meter.count
    (row_levels c.args.shape i.so_far.0 c.args.start.bit outer) c.loop-meter.place
    (max 1 (least_width (type_of c.args.self.now.nodes.now c.args.element))) _ i.so_far.2 i.inside due
    (e.limit ∙ i.frame.limit) e.ok e.made (element_value c.args.shape c.loop-meter.place c.in-Ok.digits)
    (c.loop-meter.place + element_width c.args.shape) (c.loop-meter.count + 1) refl
    (element_end c.args.shape c.loop-meter.place c.in-Ok.digits c.requires.shape.packed)
    (λ same. omega (arith, same, some.0)) far h in
    let more = length_push i.so_far.0 c.in-Ok.digits in
    let packed = k.ok c.args.self.now.nodes.now i.so_far.0 outer i.so_far.5 ((omega (arith, place, fits, short))) in
    record {
      frame = search rules;
      after = search rules;
      inside = search rules;
      level = record {
        outer =
            packing-outer c.args.self.now.nodes.now c.push_packed.new.self c.args.shape _ c.args.start.bit outer packed;
        depth = k.depth ∙ i.level.depth;
        frames = ap (λ (s : State). s.frames) k.moves ∙ i.level.frames;
        opened =
            keeps_then c.args.self.now.store.now c.loop-meter.store c.push_packed.new.self i.level.frames i.level.opened
            (below_keeps c.loop-meter.store c.push_packed.new.self k.below);
      };
      counted = omega (arith, i.counted, some.0, width, c.from-place.ensures);
      so_far = rw (c.from-place.ensures, width) (
        i.so_far.0 ++ c.in-Ok.digits ∷ [],
        next.0,
        next.1,
        rw more place,
        rw more (ap (λ x. x + 1) i.so_far.4),
        packed,
        rw levels (follow_on (in_later i.frame.room k.room i.so_far.6) next.2),
      );
    }

pub returns-then-ends-clause-is : goal.returns-then-ends-clause-is
returns-then-ends-clause-is g c =
    let i = c.loop-meter.invariant in
    let e = c.in_ok-tick.ensures in
    let r = c.in-Err.ensures in
    let due = sym c.is_due.ensures ∙ c.loop-meter-test.true in
    let due = rw c.len-bits.ensures at due in
    let stops = rw c.element_width-width.ensures at r.err in
    let h = element_stops c.args.shape (8 * (g.S.Space.view c.args.space.now).len)
    (type_of c.args.self.now.nodes.now c.args.element) c.args.start.order
    (row_levels c.args.shape i.so_far.0 c.args.start.bit
    (outer_of (levels c.args.self.now.nodes.now c.args.self.now.store.now)))
    c.loop-meter.place c.requires.shape.is i.inside _ _ _ refl (ap (λ l. 8 * l) (sym i.frame.len)) stops r.made in
    let ends = sym c.ends.ensures ∙ c.if-ends.true in
    record {
      numbers = i.so_far.0;
      packing = i.so_far.5;
      ends = i.so_far.3;
      runs = follow_on i.so_far.6
          (elements_over _ _ _ _ _ _ _ (max 1 (least_width (type_of c.args.self.now.nodes.now c.args.element))) _
          i.so_far.2 i.inside due (e.limit ∙ i.frame.limit) e.ok e.made _ ends h);
    }

pub returns-in-Err-clause-is : goal.returns-in-Err-clause-is
returns-in-Err-clause-is g c =
    let i = c.loop-meter.invariant in
    let e = c.in_ok-tick.ensures in
    let r = c.in-Err.ensures in
    let due = sym c.is_due.ensures ∙ c.loop-meter-test.true in
    let due = rw c.len-bits.ensures at due in
    let stops = rw c.element_width-width.ensures at r.err in
    let h = element_stops c.args.shape (8 * (g.S.Space.view c.args.space.now).len)
    (type_of c.args.self.now.nodes.now c.args.element) c.args.start.order
    (row_levels c.args.shape i.so_far.0 c.args.start.bit
    (outer_of (levels c.args.self.now.nodes.now c.args.self.now.store.now)))
    c.loop-meter.place c.requires.shape.is i.inside _ _ _ refl (ap (λ l. 8 * l) (sym i.frame.len)) stops r.made in
    let ends = sym c.ends.ensures ∙ c.if-ends.false in
    follow_on i.so_far.6
    (elements_stop _ _ _ _ _ _ _ (max 1 (least_width (type_of c.args.self.now.nodes.now c.args.element))) _ i.so_far.2
    i.inside due (e.limit ∙ i.frame.limit) e.ok e.made _ ends h)

pub returns-then-is_met-clause-is : goal.returns-then-is_met-clause-is
returns-then-is_met-clause-is g c =
    let i = c.loop-meter.invariant in
    let over = sym c.is_due.ensures ∙ c.loop-meter-test.false in
    let over = rw c.len-bits.ensures at over in
    record {
      numbers = i.so_far.0;
      packing = i.so_far.5;
      ends = i.so_far.3;
      runs = follow_on i.so_far.6
          (elements_end _ _ _ _ _ _ _ (max 1 (least_width (type_of c.args.self.now.nodes.now c.args.element))) _
          i.so_far.2 i.inside over (sym c.is_met.ensures ∙ c.if-is_met.true));
    }

pub returns-else-is_met-clause-is : goal.returns-else-is_met-clause-is
returns-else-is_met-clause-is g c =
    let i = c.loop-meter.invariant in
    let over = sym c.is_due.ensures ∙ c.loop-meter-test.false in
    let over = rw c.len-bits.ensures at over in
    rw c.from.ensures (follow_on i.so_far.6
    (elements_beyond _ _ _ _ _ _ _ (max 1 (least_width (type_of c.args.self.now.nodes.now c.args.element))) _ i.so_far.2
    i.inside over (sym c.is_met.ensures ∙ c.if-is_met.false)))
