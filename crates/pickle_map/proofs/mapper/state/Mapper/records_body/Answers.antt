use Rattle.pickle_map.proofs.mapper.state.Mapper.records_body.Goals.{then-end-start+in_ok-close_array, else-end-start}
use Rattle.std.proofs.Common.{◌∷◌, refl, sym, ap, ◌∙◌, arith}
use Rattle.std.proofs.lemmas.Result.{err_from_is_err_and}
use Rattle.pickle_types.specs.Table.{type_of}
use Rattle.pickle_meaning.specs.Means.{array_value}
use Rattle.pickle_meaning.specs.Values.{outer_of}
use Rattle.mapping_plans.specs.Mapping.{array_move}
use Rattle.value_store.specs.Moves.{State}
use Rattle.value_store.specs.PackedStructs.{structs_of}
use Rattle.value_store.specs.Slots.{levels}
use Rattle.pickle_map.specs.Columns.{shapes_of}
use Rattle.pickle_map.proofs.Keeping.{closes_level, regrown_stays}
use Rattle.pickle_map.proofs.Mapping.{array_no_room, array_made}
use Rattle.pickle_map.proofs.RecordArrays.{none_mapped, has_none, has_some, none_closed, some_closed, none_moves, some_moves, none_lacks}
use Rattle.pickle_map.proofs.RecordElements.{record_some}
use Rattle.pickle_map.proofs.RecordRows.{packing_nodes}
use Rattle.pickle_map.proofs.Walks.{follow_stop}
use Rattle.pickle_map.proofs.Worlds.{in_later}
use Rattle.pickle_map.proofs.mapper.state.Mapper.records_body.Goals as goal

pub returns-in_err-end-clause-is : goal.returns-in_err-end-clause-is
returns-in_err-end-clause-is g c =
    let p = err_from_is_err_and c.from_residual.result c.from_residual.ensures.1 in
    rw (p.1, p.2) (follow_stop _ _ _ c.in_err-end.ensures.is)

pub returns-in_err-close_array-clause-level : goal.returns-in_err-close_array-clause-level
returns-in_err-close_array-clause-level g c =
    let p =
    err_from_is_err_and c.from_residual-in_err-close_array.result c.from_residual-in_err-close_array.ensures.1 in
    rw p.1 (regrown_stays c.args.self.now.nodes.now _ _ _ c.in_ok-end.ensures.level c.in_err-close_array.ensures.err)

pub returns-in_err-close_array-clause-is : goal.returns-in_err-close_array-clause-is
returns-in_err-close_array-clause-is g c =
    let p =
    err_from_is_err_and c.from_residual-in_err-close_array.result c.from_residual-in_err-close_array.ensures.1 in
    let nodes = c.args.self.now.nodes.now in
    let cs = shapes_of (type_of nodes) c.args.fields.now in
    let outer = outer_of (levels nodes c.args.self.now.store.now) in
    let r = c.requires.record.type in
    let m = c.in_ok-end.ensures in
    let e = c.in_err-close_array.ensures in
    let none = none_mapped _ c.args.start.bit c.in_ok-end.end m.is.rows
    (record_some nodes c.args.element c.args.fields.now r) m.is.ends c.if-end-start.true in
    let fresh =
    has_none nodes c.map_records.new.self.store.now c.args.element cs c.args.start.bit outer m.is.rows m.is.has none in
    let full = rw fresh.levels at (e.full nodes) in
    let full =
    rw (ap (λ rs.
    array_value c.args.start.bit c.in_ok-end.end (structs_of nodes c.args.element cs c.args.start.bit rs ∷ outer))
    (sym none)) at full in
    let lacks = none_lacks m.frame.left.room c.requires.record.packs c.close_array.new.self fresh.opened full e.lacks in
    rw (p.1, p.2) (array_no_room _ _ _ _ (in_later m.frame.left.room e.room m.is.runs) (type_of nodes c.args.element)
    (rw (ap array_move r.row) lacks))

pub returns-clause-is : goal.returns-clause-is
returns-clause-is g c =
    let nodes = c.args.self.now.nodes.now in
    let cs = shapes_of (type_of nodes) c.args.fields.now in
    let outer = outer_of (levels nodes c.args.self.now.store.now) in
    let r = c.requires.record.type in
    let m = c.in_ok-end.ensures in
    let n = c.note_made.ensures in
    elim c.if-end-start.branch [
      | then-end-start+in_ok-close_array w ↦
          let e = w.in_ok-close_array.ensures in
          let none = none_mapped _ c.args.start.bit c.in_ok-end.end m.is.rows
          (record_some nodes c.args.element c.args.fields.now r) m.is.ends w.if-end-start.true in
          let fresh = has_none nodes c.map_records.new.self.store.now c.args.element cs c.args.start.bit outer
          m.is.rows m.is.has none in
          let moves = none_moves m.frame.left.room c.requires.record.packs e.room fresh.opened e.within e.light
          e.moves in
          rw w.self-is (record {
            value = array_value c.args.start.bit c.in_ok-end.end
                (structs_of nodes c.args.element cs c.args.start.bit m.is.rows ∷ outer);
            kept = none_closed nodes c.map_records.new.self.store.now c.args.element cs c.args.start.bit outer
                w.close_array.new.self c.in_ok-end.end m.is.rows none fresh e.ok;
            ends = refl;
            follows = array_made _ _ _ _ (in_later m.frame.left.room e.room m.is.runs) (type_of nodes c.args.element)
                (rw (ap array_move r.row) moves) n.steps n.made;
          })
      | else-end-start w ↦
          let e = w.close_records.ensures in
          let some = has_some nodes c.map_records.new.self.store.now c.args.element cs c.args.start.bit outer m.is.rows
          m.is.has (λ none. w.if-end-start.false (m.is.ends ∙ rw none (omega arith))) in
          let moves = some_moves m.frame.left.room c.requires.record.packs
          (packing_nodes nodes c.map_records.new.self.store.now c.args.element cs c.args.start.bit m.is.rows outer some)
          e.within e.moves in
          rw w.self-is (record {
            value = array_value c.args.start.bit c.in_ok-end.end
                (structs_of nodes c.args.element cs c.args.start.bit m.is.rows ∷ outer);
            kept = some_closed nodes c.map_records.new.self.store.now c.args.element cs c.args.start.bit outer
                w.close_records.new.self c.in_ok-end.end m.is.rows some e.ok m.is.ends;
            ends = refl;
            follows = array_made _ _ _ _ (in_later m.frame.left.room e.room m.is.runs) (type_of nodes c.args.element)
                (rw (ap array_move r.row) moves) n.steps n.made;
          })
    ]

pub returns-clause-level : goal.returns-clause-level
returns-clause-level g c =
    elim c.if-end-start.branch [
      | then-end-start+in_ok-close_array w ↦
          let e = w.in_ok-close_array.ensures in
          rw w.self-is (closes_level c.args.self.now.nodes.now _ _ _ c.requires.open.0 c.in_ok-end.ensures.level e.depth
          (ap (λ (s : State). s.frames) e.moves) e.below e.within)
      | else-end-start w ↦
          let e = w.close_records.ensures in
          rw w.self-is (closes_level c.args.self.now.nodes.now _ _ _ c.requires.open.0 c.in_ok-end.ensures.level e.depth
          (ap (λ (s : State). s.frames) e.moves) e.below e.within)
    ]
