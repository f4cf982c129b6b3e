use Rattle.std.proofs.Common.{◌+◌, [], length, refl, sym, ap, subst, ◌∙◌, arith}
use Rattle.std.proofs.lemmas.List.{length-map}
use Rattle.std.proofs.lemmas.Result.{err_from_is_err_and}
use Rattle.bit_space.specs.declared.meter.Meter.{Meter}
use Rattle.pickle_types.specs.declared.node.Field.{Field}
use Rattle.pickle_types.specs.Table.{type_of}
use Rattle.mapping_plans.specs.Rows.{scalar_shape}
use Rattle.value_store.specs.Moves.{State, state_of}
use Rattle.value_store.specs.PackedStructs.{struct_bytes}
use Rattle.pickle_map.specs.Columns.{shapes_of}
use Rattle.pickle_map.specs.Records.{PassesRoom, in_frame, packed_state}
use Rattle.value_store.proofs.PackedStructs.{length-row}
use Rattle.pickle_map.proofs.Keeping.{dropped_stays, stays_then}
use Rattle.pickle_map.proofs.RecordFrames.{dropped_is, filled_is, among_stays, structs_stay, frame_stops, frame_packs, frame_lacks, struct_is}
use Rattle.pickle_map.proofs.Shapes.{fields_named}
use Rattle.pickle_map.proofs.mapper.state.Mapper.record_body.Goals as goal

pub returns-in_err-end-clause-is : goal.returns-in_err-end-clause-is
returns-in_err-end-clause-is g c =
    let p = err_from_is_err_and c.from_residual.result c.from_residual.ensures.1 in
    let o = c.open_level.ensures in
    let m = c.in_err-end.ensures in
    let d = c.drop_level.ensures in
    let h = rw (o.levels c.args.self.now.nodes.now) at m.is in
    rw (p.1, p.2) (
      frame_stops c.args.self.now.nodes.now o.room m.frame.left.room d.room o.moves o.within _ _ d.moves d.within _ h,
      λ other. dropped_is o.room m.frame.left.room d.room o.moves o.slots m.more d.moves d.slots,
    )

pub pack_row-requires-clause-takes : goal.pack_row-requires-clause-takes
pack_row-requires-clause-takes g c =
    let o = c.open_level.ensures in
    let m = c.in_ok-end.ensures in
    let d = c.drop_level.ensures in
    let nodes = m.frame.lent.nodes in
    let same = dropped_is o.room m.frame.left.room d.room o.moves o.slots m.more d.moves d.slots in
    let short = g.met.S.Space.short c.args.space.now in
    rw nodes (record {
      among = among_stays c.args.self.now.nodes.now _ _ c.args.at _ c.args.start.bit same c.requires.among;
      digits = m.adds.digits;
      are = m.adds.are;
      is = c.deref.ensures.0 ∙ m.adds.bytes ∙ rw c.requires.empty refl;
      ends = m.adds.ends;
      short = omega (arith, m.ends.1, short);
    })

pub returns-in_err-pack_row-clause-is : goal.returns-in_err-pack_row-clause-is
returns-in_err-pack_row-clause-is g c =
    let p = err_from_is_err_and c.from_residual-in_err-pack_row.result c.from_residual-in_err-pack_row.ensures.1 in
    let nodes = c.args.self.now.nodes.now in
    let o = c.open_level.ensures in
    let m = c.in_ok-end.ensures in
    let d = c.drop_level.ensures in
    let cs = shapes_of (type_of nodes) c.args.fields.now in
    let same = dropped_is o.room m.frame.left.room d.room o.moves o.slots m.more d.moves d.slots in
    let row = c.deref.ensures.0 ∙ m.adds.bytes ∙ rw c.requires.empty refl in
    let stride = ap length row ∙ length-row cs m.adds.digits m.adds.are in
    let filled = filled_is o.room m.frame.left.room d.room o.moves o.slots m.more d.moves d.slots cs _ _ _ _ m.adds
    ∙ ap (λ n. in_frame n (state_of c.args.self.now.store.now))
    (length-map c.args.fields.now (λ (f : Field). scalar_shape (type_of nodes f.node))) in
    let named = c.requires.record.type.named ∙ sym (fields_named (type_of nodes) c.args.fields.now) in
    let h = rw (o.levels nodes) at m.is in
    let e = c.in_err-pack_row.ensures in
    let over = subst
    (λ n. PassesRoom c.drop_level.new.self (packed_state (length c.args.fields.now) n (state_of c.drop_level.new.self)))
    stride e.state in
    let over = subst
    (λ (s : State). PassesRoom c.drop_level.new.self (packed_state (length c.args.fields.now) (struct_bytes cs) s))
    (ap state_of same) over in
    rw (p.1, p.2, e.frame.meter) (
      frame_lacks nodes o.room m.frame.left.room d.room o.moves o.within c.requires.record.packs e.frame.room
          (length c.args.fields.now) (struct_bytes cs) filled _ _ _ c.args.start.bit c.in_ok-end.end _ h over,
      λ other. absurd (other refl),
    )

pub returns-clause-is : goal.returns-clause-is
returns-clause-is g c =
    let nodes = c.args.self.now.nodes.now in
    let o = c.open_level.ensures in
    let m = c.in_ok-end.ensures in
    let d = c.drop_level.ensures in
    let cs = shapes_of (type_of nodes) c.args.fields.now in
    let same = dropped_is o.room m.frame.left.room d.room o.moves o.slots m.more d.moves d.slots in
    let row = c.deref.ensures.0 ∙ m.adds.bytes ∙ rw c.requires.empty refl in
    let stride = ap length row ∙ length-row cs m.adds.digits m.adds.are in
    let filled = filled_is o.room m.frame.left.room d.room o.moves o.slots m.more d.moves d.slots cs _ _ _ _ m.adds
    ∙ ap (λ n. in_frame n (state_of c.args.self.now.store.now))
    (length-map c.args.fields.now (λ (f : Field). scalar_shape (type_of nodes f.node))) in
    let named = c.requires.record.type.named ∙ sym (fields_named (type_of nodes) c.args.fields.now) in
    let h = rw (o.levels nodes) at m.is in
    let n = c.note_made.ensures in
    let k = c.in_ok-pack_row.ensures in
    let is = k.state.0
    ∙ ap (λ (s : State). packed_state (length c.args.fields.now) (length c.deref.result.now) s) (ap state_of same)
    ∙ ap (λ n. packed_state (length c.args.fields.now) n (state_of c.args.self.now.store.now)) stride in
    let adds = rw m.frame.lent.nodes at k.adds in
    let value = struct_is nodes c.args.at c.args.fields.now c.args.start.bit c.in_ok-end.end m.adds.digits _ _ named
    (m.adds.more nodes [] _ (o.levels nodes)) m.adds.ends in
    let runs = frame_packs nodes o.room m.frame.left.room d.room o.moves o.within c.requires.record.packs k.frame.room
    (length c.args.fields.now) (struct_bytes cs) filled _ _ _ c.args.start.bit c.in_ok-end.end _ h k.state.1 k.light is
    (n.steps ∙ ap (λ (x : Meter). x.steps) k.frame.meter) (n.made ∙ ap (λ (x : Meter). x.made + 1) k.frame.meter) in
    record {
      digits = m.adds.digits;
      adds = λ first rows outer has begins. adds m.adds.digits m.adds.are row first rows outer
          (structs_stay nodes _ _ c.args.at cs first outer rows same has) begins;
      ends = m.adds.ends;
      runs = rw (← value) runs;
    }

pub returns-in_err-end-clause-level : goal.returns-in_err-end-clause-level
returns-in_err-end-clause-level g c =
    let o = c.open_level.ensures in
    let d = c.drop_level.ensures in
    dropped_stays c.args.self.now.nodes.now _ _ _ _ o.moves o.slots (o.levels c.args.self.now.nodes.now)
    c.in_err-end.ensures.level
    (d.levels c.args.self.now.nodes.now) d.moves d.slots o.depth d.depth

pub returns-in_err-pack_row-clause-level : goal.returns-in_err-pack_row-clause-level
returns-in_err-pack_row-clause-level g c =
    let o = c.open_level.ensures in
    let d = c.drop_level.ensures in
    let m = c.in_ok-end.ensures in
    let dropped =
    dropped_stays c.args.self.now.nodes.now _ _ _ _ o.moves o.slots (o.levels c.args.self.now.nodes.now) m.level
    (d.levels c.args.self.now.nodes.now) d.moves d.slots o.depth d.depth in
    stays_then c.args.self.now.nodes.now _ _ _ dropped (rw m.frame.lent.nodes at c.in_err-pack_row.ensures.frame.level)

pub returns-clause-level : goal.returns-clause-level
returns-clause-level g c =
    let o = c.open_level.ensures in
    let d = c.drop_level.ensures in
    let m = c.in_ok-end.ensures in
    let dropped =
    dropped_stays c.args.self.now.nodes.now _ _ _ _ o.moves o.slots (o.levels c.args.self.now.nodes.now) m.level
    (d.levels c.args.self.now.nodes.now) d.moves d.slots o.depth d.depth in
    stays_then c.args.self.now.nodes.now _ _ _ dropped (rw m.frame.lent.nodes at c.in_ok-pack_row.ensures.frame.level)
