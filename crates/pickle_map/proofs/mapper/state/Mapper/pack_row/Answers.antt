use Rattle.std.proofs.Common.{rules, ap, ◌∙◌, length}
use Rattle.pickle_meaning.specs.Values.{outer_of}
use Rattle.value_store.proofs.Held.{regrown-levels}
use Rattle.pickle_map.specs.Framed.{LevelStays}
use Rattle.value_store.proofs.PackedStructs.{length-row}
use Rattle.pickle_map.proofs.RecordRows.{ok_maps, err_maps, either_way, row_adds, row_stays, packed_is, pack_passes, comes_to}
use Rattle.pickle_map.proofs.Worlds.{room_then}
use Rattle.value_store.specs.Moves.{State}
use Rattle.value_store.specs.Slots.{Held, packs}
use Rattle.pickle_map.proofs.Keeping.{below_keeps, keeps_then, regrown_keeps}
use Rattle.pickle_map.proofs.mapper.state.Mapper.pack_row.Goals as goal

pub begin_array-requires-clause-stride : goal.begin_array-requires-clause-stride
begin_array-requires-clause-stride g c = let t = c.requires.takes in ap length t.is ∙ length-row _ t.digits t.are

pub returns-clause-adds : goal.returns-clause-adds
returns-clause-adds g c =
    let t = c.requires.takes in
    ok_maps c.pack_record.result (row_adds c.args.self.now.nodes.now c.args.self.now.store.now
    c.begin_array.new.self.store.now c.pack_record.new.self c.args.at _ c.args.start c.args.end c.args.row.now
    c.in_ok-begin_array.ensures.opens t.ends t.short) c.pack_record.ensures.ok

pub returns-clause-frame : goal.returns-clause-frame
returns-clause-frame g c =
    let nodes = c.args.self.now.nodes.now in
    let t = c.requires.takes in
    let stays = c.in_ok-begin_array.ensures.frame.level in
    let level : LevelStays c.args.self.now.nodes.now c.args.self.now.store.now c.pack_record.new.self = record {
      outer = either_way c.pack_record.result (λ adds. row_stays nodes c.args.self.now.store.now c.pack_record.new.self
          c.args.at _ c.args.start c.args.row.now t.digits t.among t.are t.is adds)
          (λ e. ap outer_of (regrown-levels nodes c.begin_array.new.self.store.now c.pack_record.new.self e)
          ∙ stays.outer) (returns-clause-adds g c) c.pack_record.ensures.err;
      depth = c.pack_record.ensures.depth ∙ stays.depth;
      frames = either_way c.pack_record.result (λ moves. ap (λ (s : State). s.frames) moves ∙ stays.frames)
          (λ e. ap (λ (h : Held). h.frames) e ∙ stays.frames) c.pack_record.ensures.moves c.pack_record.ensures.err;
      opened = keeps_then c.args.self.now.store.now c.begin_array.new.self.store.now c.pack_record.new.self stays.frames
          stays.opened (either_way c.pack_record.result
          (below_keeps c.begin_array.new.self.store.now c.pack_record.new.self)
          (regrown_keeps c.begin_array.new.self.store.now c.pack_record.new.self) c.pack_record.ensures.below
          c.pack_record.ensures.err);
    } in
    let room = room_then c.in_ok-begin_array.ensures.frame.room c.pack_record.ensures.room in
    search rules

pub returns-clause-state : goal.returns-clause-state
returns-clause-state g c =
    let b = c.in_ok-begin_array.ensures in
    let h = c.args.self.now.store.now in
    let n = c.begin_array.new.self.store.now in
    comes_to c.args.self.now.store.now c.pack_record.new.self _ c.pack_record.result (ok_maps c.pack_record.result
    (packed_is (packs n.room) (length c.args.fields.now) (length c.args.row.now) h n c.pack_record.new.self b.state.0)
    c.pack_record.ensures.moves) c.pack_record.ensures.within
    (err_maps c.pack_record.result
    (pack_passes (length c.args.fields.now) (length c.args.row.now) h n b.frame.room b.state.0)
    c.pack_record.ensures.lacks)
