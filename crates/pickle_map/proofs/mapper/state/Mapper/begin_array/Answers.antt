use Rattle.std.proofs.Common.{rules, ◌-◌, ◌≤◌, length, sym, ap, ◌∙◌, arith}
use Rattle.std.proofs.lemmas.Bool.{false≢true}
use Rattle.std.proofs.lemmas.Result.{err_from_is_err_and}
use Rattle.pickle_types.specs.Table.{type_of}
use Rattle.pickle_meaning.specs.Values.{outer_of}
use Rattle.value_store.specs.PackedStructs.{struct_bits}
use Rattle.value_store.specs.Moves.{State}
use Rattle.value_store.specs.Slots.{Held, HasNoNode, packs}
use Rattle.pickle_map.proofs.Keeping.{below_keeps, keeps_then, regrown_keeps}
use Rattle.value_store.proofs.Held.{regrown-levels}
use Rattle.pickle_map.specs.Columns.{shapes_of}
use Rattle.pickle_map.specs.Framed.{LevelStays}
use Rattle.pickle_map.proofs.RecordRows.{ok_maps, err_maps, either_way, bits_few, has_none, has_some, draft_opened, array_opens, opened_stays, opened_state, draft_passes, open_passes, comes_to}
use Rattle.pickle_map.proofs.Worlds.{room_then}
use Rattle.pickle_map.proofs.mapper.state.Mapper.begin_array.Goals as goal

pub returns-then-not-has_no_node-clause-opens : goal.returns-then-not-has_no_node-clause-opens
returns-then-not-has_no_node-clause-opens g c = λ first rows outer has e.
    has_some c.args.self.now.nodes.now c.args.self.now.store.now c.args.at _ first outer rows has
    (λ none. false≢true (sym c.if-not-has_no_node.true ∙ c.has_no_node.ensures.1 none))

pub overflow_cast-end : goal.overflow_cast-end
overflow_cast-end g c =
    let few = bits_few (shapes_of (type_of c.args.self.now.nodes.now) c.args.fields.now) in
    let r = c.requires.record.type in
    omega (arith, c.requires.ends, few, r.stride, r.few)

pub open_records-requires-clause-draft : goal.open_records-requires-clause-draft
open_records-requires-clause-draft g c =
    let nodes = c.args.self.now.nodes.now in
    let a = c.requires.among in
    let none : HasNoNode c.args.self.now.store.now = c.has_no_node.ensures.0 c.if-not-has_no_node.false in
    let f =
    has_none nodes c.args.self.now.store.now c.args.at _ c.args.start a.first a.outer a.rows a.has a.begins none in
    let cs = shapes_of (type_of nodes) c.args.fields.now in
    let size : struct_bits cs ≤ c.args.end - c.args.start = omega (arith, c.requires.ends) in
    rw c.requires.stride (c.in_ok-draft_columns.ensures.draft (c.args.end - c.args.start) a.outer (draft_opened nodes
    c.args.self.now.store.now (c.args.end - c.args.start) c.args.start a.outer f.opened f.levels) size).draft

pub returns-clause-opens : goal.returns-clause-opens
returns-clause-opens g c =
    let none : HasNoNode c.args.self.now.store.now = c.has_no_node.ensures.0 c.if-not-has_no_node.false in
    ok_maps c.open_records.result (array_opens c.args.self.now.nodes.now c.args.self.now.store.now
    c.draft_columns.new.store c.open_records.new.self c.args.at _ c.args.start _ _ none
    c.in_ok-draft_columns.ensures.draft (omega (arith, c.requires.ends)) c.requires.stride) c.open_records.ensures.ok

pub returns-clause-frame : goal.returns-clause-frame
returns-clause-frame g c =
    let nodes = c.args.self.now.nodes.now in
    let stays = c.in_ok-draft_columns.ensures.stays in
    let level : LevelStays c.args.self.now.nodes.now c.args.self.now.store.now c.open_records.new.self = record {
      outer = either_way c.open_records.result (λ begins. opened_stays nodes c.args.self.now.store.now
          c.open_records.new.self c.args.at _ c.args.start c.requires.among begins)
          (λ e. ap outer_of (regrown-levels nodes c.draft_columns.new.store c.open_records.new.self e) ∙ stays.outer)
          (returns-clause-opens g c) c.open_records.ensures.err;
      depth = c.open_records.ensures.depth ∙ stays.depth;
      frames = either_way c.open_records.result (λ moves. ap (λ (s : State). s.frames) moves ∙ stays.frames)
          (λ e. ap (λ (h : Held). h.frames) e ∙ stays.frames) c.open_records.ensures.moves c.open_records.ensures.err;
      opened = keeps_then c.args.self.now.store.now c.draft_columns.new.store c.open_records.new.self stays.frames
          stays.opened (either_way c.open_records.result
          (below_keeps c.draft_columns.new.store c.open_records.new.self)
          (regrown_keeps c.draft_columns.new.store c.open_records.new.self) c.open_records.ensures.below
          c.open_records.ensures.err);
    } in
    let room = room_then c.in_ok-draft_columns.ensures.room c.open_records.ensures.room in
    search rules

pub returns-clause-state : goal.returns-clause-state
returns-clause-state g c =
    let a = c.requires.among in
    let none : HasNoNode c.args.self.now.store.now = c.has_no_node.ensures.0 c.if-not-has_no_node.false in
    let f = has_none c.args.self.now.nodes.now c.args.self.now.store.now c.args.at _ c.args.start a.first a.outer a.rows
    a.has a.begins none in
    comes_to c.args.self.now.store.now c.open_records.new.self _ c.open_records.result
    (ok_maps c.open_records.result (opened_state c.args.self.now.store.now _ (packs c.draft_columns.new.store.room)
    c.draft_columns.new.store c.open_records.new.self f.opened c.in_ok-draft_columns.ensures.state.0)
    c.open_records.ensures.moves) c.open_records.ensures.within
    (err_maps c.open_records.result (open_passes c.args.self.now.store.now c.draft_columns.new.store _ f.opened
    c.in_ok-draft_columns.ensures.room c.in_ok-draft_columns.ensures.state.0) c.open_records.ensures.lacks)

pub returns-in_err-draft_columns-clause-state : goal.returns-in_err-draft_columns-clause-state
returns-in_err-draft_columns-clause-state g c =
    let a = c.requires.among in
    let none : HasNoNode c.args.self.now.store.now = c.has_no_node.ensures.0 c.if-not-has_no_node.false in
    let f = has_none c.args.self.now.nodes.now c.args.self.now.store.now c.args.at _ c.args.start a.first a.outer a.rows
    a.has a.begins none in
    let p = err_from_is_err_and c.from_residual.result c.from_residual.ensures.1 in
    rw p.1 (draft_passes c.args.self.now.store.now (length c.args.fields.now) f.opened c.requires.within
    c.in_err-draft_columns.ensures.state)
