use Rattle.std.proofs.Common.{rules, ◌≡◌, ◌+◌, ◌*◌, ◌≤◌, max, [], ◌∷◌, ◌++◌, length, refl, sym, ◌∙◌, arith}
use Rattle.std.proofs.lemmas.List.{length_push}
use Rattle.std.proofs.lemmas.Result.{err_from_is_err_and}
use Rattle.std.proofs.Math.Nat.{mul-suc}
use Rattle.pickle_types.specs.Bounds.{least_width, count_of}
use Rattle.pickle_types.specs.Table.{type_of}
use Rattle.pickle_meaning.specs.Values.{outer_of}
use Rattle.mapping_plans.specs.Mapping.{plan, element_plan}
use Rattle.value_store.specs.PackedStructs.{struct_bits, struct_of, structs_of}
use Rattle.value_store.specs.Slots.{levels}
use Rattle.pickle_map.specs.Columns.{shapes_of}
use Rattle.pickle_map.specs.Records.{no_structs, some_structs}
use Rattle.pickle_map.proofs.Keeping.{same_stays, stays_then}
use Rattle.pickle_map.proofs.Mapping.{few_enough, elements_end, elements_beyond, elements_no_tick, elements_goes, elements_over, elements_stop}
use Rattle.pickle_map.proofs.RecordElements.{record_least, record_some, structs_more, ends_with_memory, record_goes, record_stops}
use Rattle.pickle_map.proofs.RecordFrames.{structs_stay}
use Rattle.pickle_map.proofs.Walks.{follow_here, follow_on}
use Rattle.pickle_map.proofs.Worlds.{in_world, in_later}
use Rattle.pickle_map.proofs.mapper.state.Mapper.map_records.Goals as goal

pub loop-row-init : goal.loop-row-init
loop-row-init g c =
    let few = few_enough (8 * (g.S.Space.view c.args.space.now).len)
    (least_width (type_of c.args.self.now.nodes.now c.args.element)) in
    record {
      lent = search rules;
      frame = search rules;
      after = search rules;
      inside = search rules;
      level = same_stays c.args.self.now.nodes.now c.args.self.now.store.now;
      counted = search rules;
      so_far = (
        [],
        count_of (8 * (g.S.Space.view c.args.space.now).len)
            (least_width (type_of c.args.self.now.nodes.now c.args.element)),
        omega (arith, few),
        omega arith,
        no_structs c.requires.fresh c.requires.opened,
        rw c.requires.fresh follow_here,
      );
    }

pub returns-in_err-tick-clause-is : goal.returns-in_err-tick-clause-is
returns-in_err-tick-clause-is g c =
    let p = err_from_is_err_and c.from_residual.result c.from_residual.ensures.1 in
    let i = c.loop-row.invariant in
    let e = c.in_err-tick.ensures in
    let due = sym c.is_due.ensures ∙ c.loop-row-test.true in
    let due = rw c.len-bits.ensures at due in
    rw (p.1, p.2) (follow_on i.so_far.5
    (elements_no_tick _ _ _ _ _ _ _ (max 1 (least_width (type_of c.args.self.now.nodes.now c.args.element))) _
    i.so_far.2 i.inside due e.err (e.err ∙ e.refused.0 refl ∙ i.frame.limit) e.made))

pub loop-row-smaller : goal.loop-row-smaller
loop-row-smaller g c =
    let i = c.loop-row.invariant in
    let k = c.in-Ok.ensures in
    let nodes = i.lent.nodes in
    let ends = rw nodes at k.is.ends in
    let some = record_some c.args.self.now.nodes.now c.args.element c.args.fields.now c.requires.record.type in
    let inside = k.ends.1 in
    omega (arith, ends, some, inside, i.frame.len)

pub loop-row-preserved : goal.loop-row-preserved
loop-row-preserved g c =
    let i = c.loop-row.invariant in
    let e = c.in_ok-tick.ensures in
    let k = c.in-Ok.ensures in
    let nodes = c.args.self.now.nodes.now in
    let cs = shapes_of (type_of nodes) c.args.fields.now in
    let outer = outer_of (levels nodes c.args.self.now.store.now) in
    let m = 8 * (g.S.Space.view c.args.space.now).len in
    let r = c.requires.record.type in
    let due = sym c.is_due.ensures ∙ c.loop-row-test.true in
    let due = rw c.len-bits.ensures at due in
    let one = rw (i.lent.nodes, i.frame.len) at k.is in
    let some = record_some nodes c.args.element c.args.fields.now r in
    let least = record_least nodes c.args.element c.args.fields.now r in
    let h = in_world (g.S.Space.view c.args.space.now) (g.S.Space.view c.loop-row.space) i.frame.bytes i.frame.room
    k.frame.left.room one.runs in
    let packing = c.requires.record.packs in
    let h = record_goes nodes c.loop-row.self.store.now c.args.element c.args.fields.now r c.args.start.bit outer
    i.so_far.0 i.so_far.4 _ packing m c.args.start.order c.loop-row.place h in
    let far : c.loop-row.place + max 1 (least_width (type_of nodes c.args.element)) ≤ c.in-Ok.end =
    omega (arith, one.ends, least, some) in
    let next =
    elements_goes
    (element_plan (type_of nodes c.args.element) (plan m (type_of nodes c.args.element) c.args.start.order)) m
    c.args.start.bit c.args.extent c.loop-row.count
    (structs_of nodes c.args.element cs c.args.start.bit i.so_far.0 ∷ outer)
    c.loop-row.place (max 1 (least_width (type_of nodes c.args.element))) _ i.so_far.2 i.inside due
    (e.limit ∙ i.frame.limit) e.ok e.made (struct_of nodes c.args.element cs c.loop-row.place one.digits) c.in-Ok.end
    (c.loop-row.count + 1) refl (sym one.ends) (λ same. omega (arith, same, one.ends, some)) far h in
    let more = length_push i.so_far.0 one.digits in
    let place : c.in-Ok.end ≡ c.args.start.bit + struct_bits cs * length (i.so_far.0 ++ one.digits ∷ []) =
    rw more (omega (arith, i.so_far.3, one.ends, mul-suc (struct_bits cs) (length i.so_far.0))) in
    record {
      lent = search rules;
      frame = search rules;
      after = search rules;
      inside = search rules;
      level = stays_then nodes _ _ _ i.level (rw i.lent.nodes at k.level);
      counted = omega (arith, i.counted, some, one.ends);
      so_far = (
        i.so_far.0 ++ one.digits ∷ [],
        next.0,
        next.1,
        place,
        some_structs (rw more (omega arith)) (one.adds c.args.start.bit i.so_far.0 outer i.so_far.4 i.so_far.3),
        rw (structs_more nodes c.args.element cs c.args.start.bit c.loop-row.place i.so_far.0 one.digits i.so_far.3)
            (follow_on (in_later i.frame.room k.frame.left.room i.so_far.5) next.2),
      );
    }

pub returns-then-ends-clause-level : goal.returns-then-ends-clause-level
returns-then-ends-clause-level g c =
    let i = c.loop-row.invariant in
    stays_then c.args.self.now.nodes.now _ _ _ i.level (rw i.lent.nodes at c.in-Err.ensures.level)

pub returns-in-Err-clause-level : goal.returns-in-Err-clause-level
returns-in-Err-clause-level g c =
    let i = c.loop-row.invariant in
    stays_then c.args.self.now.nodes.now _ _ _ i.level (rw i.lent.nodes at c.in-Err.ensures.level)

pub returns-then-ends-clause-is : goal.returns-then-ends-clause-is
returns-then-ends-clause-is g c =
    let i = c.loop-row.invariant in
    let e = c.in_ok-tick.ensures in
    let k = c.in-Err.ensures in
    let nodes = c.args.self.now.nodes.now in
    let cs = shapes_of (type_of nodes) c.args.fields.now in
    let outer = outer_of (levels nodes c.args.self.now.store.now) in
    let due = sym c.is_due.ensures ∙ c.loop-row-test.true in
    let due = rw c.len-bits.ensures at due in
    let one = rw (i.lent.nodes, i.frame.len) at k.is in
    let ends = sym c.ends.ensures ∙ c.if-ends.true in
    let h = in_world (g.S.Space.view c.args.space.now) (g.S.Space.view c.loop-row.space) i.frame.bytes i.frame.room
    k.frame.left.room one.0 in
    let h = record_stops nodes c.loop-row.self.store.now c.args.element c.args.fields.now c.requires.record.type
    c.args.start.bit outer i.so_far.0 i.so_far.4 _ c.requires.record.packs (8 * (g.S.Space.view c.args.space.now).len)
    c.args.start.order c.loop-row.place _ h in
    let stays = one.1 (ends_with_memory _ _ ends) in
    record {
      rows = i.so_far.0;
      has = structs_stay nodes c.loop-row.self.store.now c.map_record.new.self.store.now c.args.element cs
          c.args.start.bit outer i.so_far.0 stays i.so_far.4;
      ends = i.so_far.3;
      runs = follow_on (in_later i.frame.room k.frame.left.room i.so_far.5)
          (elements_over _ _ _ _ _ _ _ (max 1 (least_width (type_of nodes c.args.element))) _ i.so_far.2 i.inside due
          (e.limit ∙ i.frame.limit) e.ok e.made _ ends h);
    }

pub returns-in-Err-clause-is : goal.returns-in-Err-clause-is
returns-in-Err-clause-is g c =
    let i = c.loop-row.invariant in
    let e = c.in_ok-tick.ensures in
    let k = c.in-Err.ensures in
    let nodes = c.args.self.now.nodes.now in
    let outer = outer_of (levels nodes c.args.self.now.store.now) in
    let due = sym c.is_due.ensures ∙ c.loop-row-test.true in
    let due = rw c.len-bits.ensures at due in
    let one = rw (i.lent.nodes, i.frame.len) at k.is in
    let ends = sym c.ends.ensures ∙ c.if-ends.false in
    let h = in_world (g.S.Space.view c.args.space.now) (g.S.Space.view c.loop-row.space) i.frame.bytes i.frame.room
    k.frame.left.room one.0 in
    let h = record_stops nodes c.loop-row.self.store.now c.args.element c.args.fields.now c.requires.record.type
    c.args.start.bit outer i.so_far.0 i.so_far.4 _ c.requires.record.packs (8 * (g.S.Space.view c.args.space.now).len)
    c.args.start.order c.loop-row.place _ h in
    follow_on (in_later i.frame.room k.frame.left.room i.so_far.5)
    (elements_stop _ _ _ _ _ _ _ (max 1 (least_width (type_of nodes c.args.element))) _ i.so_far.2 i.inside due
    (e.limit ∙ i.frame.limit) e.ok e.made _ ends h)

pub returns-then-is_met-clause-is : goal.returns-then-is_met-clause-is
returns-then-is_met-clause-is g c =
    let i = c.loop-row.invariant in
    let over = sym c.is_due.ensures ∙ c.loop-row-test.false in
    let over = rw c.len-bits.ensures at over in
    record {
      rows = i.so_far.0;
      has = i.so_far.4;
      ends = i.so_far.3;
      runs = follow_on i.so_far.5
          (elements_end _ _ _ _ _ _ _ (max 1 (least_width (type_of c.args.self.now.nodes.now c.args.element))) _
          i.so_far.2 i.inside over (sym c.is_met.ensures ∙ c.if-is_met.true));
    }

pub returns-else-is_met-clause-is : goal.returns-else-is_met-clause-is
returns-else-is_met-clause-is g c =
    let i = c.loop-row.invariant in
    let over = sym c.is_due.ensures ∙ c.loop-row-test.false in
    let over = rw c.len-bits.ensures at over in
    rw c.from.ensures (follow_on i.so_far.5
    (elements_beyond _ _ _ _ _ _ _ (max 1 (least_width (type_of c.args.self.now.nodes.now c.args.element))) _ i.so_far.2
    i.inside over (sym c.is_met.ensures ∙ c.if-is_met.false)))
