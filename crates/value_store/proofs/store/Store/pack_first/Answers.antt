use Rattle.std.proofs.Common.{length, ap, sym, subst, ◌∙◌, arith, []}
use Rattle.value_store.specs.declared.store.slots.Place.TheVariants as place
use Rattle.value_store.specs.Gathering.{TakesRecord}
use Rattle.value_store.specs.Slots.{Held, AreLevels, HasSlots, with_more}
use Rattle.value_store.proofs.LayoutFirst.{IsFirstRead, placed-template, placed-some, placed-mark, first-record, first-packs, first-moves, first-as_move, first-holds, drafted-stays, back-levels}
use Rattle.value_store.proofs.LayoutWeights.{first-refuses, first-light}
use Rattle.value_store.proofs.Below.{first-below}
use Rattle.value_store.proofs.store.Store.pack_first.Goals as goal

pub cut_back-requires : goal.cut_back-requires
cut_back-requires c =
    let all = subst (λ (h : Held). AreLevels h.room h.frames h.slots) c.self.view_is c.self.invariant.levels in
    back-levels c.args.self.now c.draft_template.new.self all c.in-Err.ensures.err c.marks-marks.result
    c.marks-marks.ensures

pub place_records-requires-clause-template : goal.place_records-requires-clause-template
place_records-requires-clause-template c =
    let h = c.args.self.now in
    let all = subst (λ (h : Held). AreLevels h.room h.frames h.slots) c.self.view_is c.self.invariant.levels in
    let read : IsFirstRead h c.in-Some.root c.node_at-own.result c.family_size-size.result c.len-2.result
    c.append_part.new.row.items = record {
      takes = c.requires;
      part = c.in-Some.ensures.part;
      read = c.node_at-own.ensures.read;
      sized = c.family_size-size.ensures;
      rows = c.append_part.ensures;
      counted = c.len-2.ensures.value;
    } in
    let drafts = c.in-Ok.ensures.ok in
    placed-template h c.draft_template.new.self c.in-Some.root c.node_at-own.result
    c.family_size-size.result c.len-2.result
    drafts.end c.append_part.new.row.items all read drafts.placed

pub place_records-requires-clause-stride : goal.place_records-requires-clause-stride
place_records-requires-clause-stride c =
    let h = c.args.self.now in
    let all = subst (λ (h : Held). AreLevels h.room h.frames h.slots) c.self.view_is c.self.invariant.levels in
    let read : IsFirstRead h c.in-Some.root c.node_at-own.result c.family_size-size.result c.len-2.result
    c.append_part.new.row.items = record {
      takes = c.requires;
      part = c.in-Some.ensures.part;
      read = c.node_at-own.ensures.read;
      sized = c.family_size-size.ensures;
      rows = c.append_part.ensures;
      counted = c.len-2.ensures.value;
    } in
    let drafts = c.in-Ok.ensures.ok in
    placed-some h c.draft_template.new.self c.in-Some.root c.node_at-own.result c.family_size-size.result c.len-2.result
    drafts.end c.append_part.new.row.items all read drafts.placed

pub place_records-requires-clause-pending : goal.place_records-requires-clause-pending
place_records-requires-clause-pending c =
    let h = c.args.self.now in
    let all = subst (λ (h : Held). AreLevels h.room h.frames h.slots) c.self.view_is c.self.invariant.levels in
    let read : IsFirstRead h c.in-Some.root c.node_at-own.result c.family_size-size.result c.len-2.result
    c.append_part.new.row.items = record {
      takes = c.requires;
      part = c.in-Some.ensures.part;
      read = c.node_at-own.ensures.read;
      sized = c.family_size-size.ensures;
      rows = c.append_part.ensures;
      counted = c.len-2.ensures.value;
    } in
    let drafts = c.in-Ok.ensures.ok in
    let mark =
    placed-mark h c.draft_template.new.self c.in-Some.root c.node_at-own.result c.family_size-size.result c.len-2.result
    drafts.end c.append_part.new.row.items all read drafts.placed in
    omega (arith, mark, drafts.within.pending)

pub extend_records-requires-clause-takes : goal.extend_records-requires-clause-takes
extend_records-requires-clause-takes c =
    let h = c.args.self.now in
    let all = subst (λ (h : Held). AreLevels h.room h.frames h.slots) c.self.view_is c.self.invariant.levels in
    let read : IsFirstRead h c.in-Some.root c.node_at-own.result c.family_size-size.result c.len-2.result
    c.append_part.new.row.items = record {
      takes = c.requires;
      part = c.in-Some.ensures.part;
      read = c.node_at-own.ensures.read;
      sized = c.family_size-size.ensures;
      rows = c.append_part.ensures;
      counted = c.len-2.ensures.value;
    } in
    let drafts = c.in-Ok.ensures.ok in
    subst (TakesRecord c.place_records.new.self) (sym c.as_slice.ensures.value)
    (first-record h c.draft_template.new.self c.in-Some.root c.node_at-own.result
    c.family_size-size.result c.len-2.result
    drafts.end c.append_part.new.row.items all read drafts.placed c.place_records.new.self
    c.place_records.ensures.slots)

pub returns-clause-ok : goal.returns-clause-ok
returns-clause-ok c =
    let h = c.args.self.now in
    let all = subst (λ (h : Held). AreLevels h.room h.frames h.slots) c.self.view_is c.self.invariant.levels in
    let read : IsFirstRead h c.in-Some.root c.node_at-own.result c.family_size-size.result c.len-2.result
    c.append_part.new.row.items = record {
      takes = c.requires;
      part = c.in-Some.ensures.part;
      read = c.node_at-own.ensures.read;
      sized = c.family_size-size.ensures;
      rows = c.append_part.ensures;
      counted = c.len-2.ensures.value;
    } in
    let drafts = c.in-Ok.ensures.ok in
    let n = c.place_records.new.self in
    let l = c.extend_records.new.self in
    first-packs h c.draft_template.new.self c.in-Some.root c.node_at-own.result c.family_size-size.result c.len-2.result
    drafts.end c.append_part.new.row.items all read drafts.placed n c.place_records.ensures.slots l
    (subst (λ bs. HasSlots n l (with_more bs n.slots)) c.as_slice.ensures.value c.extend_records.ensures.slots)

pub returns-clause-lengths : goal.returns-clause-lengths
returns-clause-lengths c =
    let h = c.args.self.now in
    let all = subst (λ (h : Held). AreLevels h.room h.frames h.slots) c.self.view_is c.self.invariant.levels in
    let read : IsFirstRead h c.in-Some.root c.node_at-own.result c.family_size-size.result c.len-2.result
    c.append_part.new.row.items = record {
      takes = c.requires;
      part = c.in-Some.ensures.part;
      read = c.node_at-own.ensures.read;
      sized = c.family_size-size.ensures;
      rows = c.append_part.ensures;
      counted = c.len-2.ensures.value;
    } in
    let drafts = c.in-Ok.ensures.ok in
    first-moves h c.draft_template.new.self c.in-Some.root c.node_at-own.result c.family_size-size.result c.len-2.result
    drafts.end c.append_part.new.row.items all read drafts.placed c.place_records.new.self
    c.place_records.ensures.slots c.extend_records.new.self (length c.as_slice.result.now)
    (ap length c.as_slice.ensures.value) c.extend_records.ensures.moves

pub returns-clause-moves : goal.returns-clause-moves
returns-clause-moves c =
    let h = c.args.self.now in
    let all = subst (λ (h : Held). AreLevels h.room h.frames h.slots) c.self.view_is c.self.invariant.levels in
    let read : IsFirstRead h c.in-Some.root c.node_at-own.result c.family_size-size.result c.len-2.result
    c.append_part.new.row.items = record {
      takes = c.requires;
      part = c.in-Some.ensures.part;
      read = c.node_at-own.ensures.read;
      sized = c.family_size-size.ensures;
      rows = c.append_part.ensures;
      counted = c.len-2.ensures.value;
    } in
    let drafts = c.in-Ok.ensures.ok in
    first-as_move h c.extend_records.new.self c.requires.packs
    (first-moves h c.draft_template.new.self c.in-Some.root c.node_at-own.result c.family_size-size.result
    c.len-2.result drafts.end c.append_part.new.row.items all read drafts.placed c.place_records.new.self
    c.place_records.ensures.slots c.extend_records.new.self (length c.as_slice.result.now)
    (ap length c.as_slice.ensures.value) c.extend_records.ensures.moves)

pub returns-clause-holds : goal.returns-clause-holds
returns-clause-holds c =
    let drafts = c.in-Ok.ensures.ok in
    first-holds c.args.self.now c.draft_template.new.self c.extend_records.new.self c.in-Some.root drafts.end
    c.len.result c.append_part.new.row.items c.requires.packs c.in-Some.ensures.part c.append_part.ensures
    c.len.ensures.value drafts.placed
    (drafted-stays c.args.self.now c.draft_template.new.self c.place_records.new.self c.extend_records.new.self
    (place.Node c.in-Some.root) c.len.result drafts c.place_records.ensures.room c.extend_records.ensures.room)

pub returns-in-Err-clause-lacks : goal.returns-in-Err-clause-lacks
returns-in-Err-clause-lacks c =
    first-refuses c.args.self.now c.in-Some.root c.len.result c.append_part.new.row.items c.requires.packs
    c.in-Some.ensures.part c.append_part.ensures c.len.ensures.value c.in-Err.ensures.lacks

pub returns-clause-below : goal.returns-clause-below
returns-clause-below c =
    let all = subst (λ (h : Held). AreLevels h.room h.frames h.slots) c.self.view_is c.self.invariant.levels in
    let t = c.in-Ok.ensures.ok.placed in
    first-below c.args.self.now c.draft_template.new.self c.place_records.new.self c.extend_records.new.self all
    t.adds.rest (ap (λ (x : Held). x.frames) t.same) c.family_size-size.result c.len-2.result []
    c.node_at-own.result.start c.place_records.ensures.slots c.as_slice.result.now c.extend_records.ensures.slots

pub returns-clause-light : goal.returns-clause-light
returns-clause-light c =
    let h = c.args.self.now in
    let all = subst (λ (h : Held). AreLevels h.room h.frames h.slots) c.self.view_is c.self.invariant.levels in
    let read : IsFirstRead h c.in-Some.root c.node_at-own.result c.family_size-size.result c.len-2.result
    c.append_part.new.row.items = record {
      takes = c.requires;
      part = c.in-Some.ensures.part;
      read = c.node_at-own.ensures.read;
      sized = c.family_size-size.ensures;
      rows = c.append_part.ensures;
      counted = c.len-2.ensures.value;
    } in
    let drafts = c.in-Ok.ensures.ok in
    let moves =
    first-moves h c.draft_template.new.self c.in-Some.root c.node_at-own.result c.family_size-size.result c.len-2.result
    drafts.end c.append_part.new.row.items all read drafts.placed c.place_records.new.self
    c.place_records.ensures.slots c.extend_records.new.self (length c.as_slice.result.now)
    (ap length c.as_slice.ensures.value) c.extend_records.ensures.moves in
    first-light h c.in-Some.root c.len.result c.append_part.new.row.items c.requires.packs c.in-Some.ensures.part
    c.append_part.ensures c.len.ensures.value c.draft_template.new.self c.extend_records.new.self drafts.end
    drafts.placed (c.extend_records.ensures.room.room ∙ c.place_records.ensures.room.room
    ∙ c.draft_template.ensures.room.room) moves c.requires drafts.light
