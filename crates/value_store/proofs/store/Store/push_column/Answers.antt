use Rattle.std.proofs.Common.{Some, subst}
use Rattle.std.specs.Prelude.{OnOk, OnErr}
use Rattle.value_store.specs.PackedStructs.{DraftsMore}
use Rattle.value_store.specs.Keeping.{CannotPush}
use Rattle.value_store.specs.Slots.{Held, AreLevels, number_value}
use Rattle.value_store.proofs.Gathering.{adds-column}
use Rattle.value_store.proofs.PackedStructs.{drafts-more}
use Rattle.value_store.proofs.store.Store.push_column.Goals as goal

pub returns-clause-draft : goal.returns-clause-draft
returns-clause-draft c =
    let all = subst (λ (h : Held). AreLevels h.room h.frames h.slots) c.self.view_is c.self.invariant.levels in
    let adds = adds-column c.place_number.result c.args.self.now c.place_number.new.self c.args.shape c.args.begin
    c.from.result all c.requires.number c.place_number.ensures.slots in
    subst
    (λ at. OnOk c.place_number.result (DraftsMore c.args.self.now c.place_number.new.self c.args.shape c.args.begin at))
    c.from.ensures
    (drafts-more c.place_number.result c.args.self.now c.place_number.new.self c.args.shape c.args.begin c.from.result
    c.requires.number adds c.place_number.ensures.ok)

pub returns-clause-full : goal.returns-clause-full
returns-clause-full c =
    subst
    (λ at. OnErr c.place_number.result (CannotPush c.args.self.now (Some (number_value c.args.shape c.args.begin at))))
    c.from.ensures c.place_number.ensures.full
