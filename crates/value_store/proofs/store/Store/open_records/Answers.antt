use Rattle.std.proofs.Common.{◌<◌, ◌≤◌, ◌^◌, subst, arith, [], ap}
use Rattle.value_store.specs.declared.store.slots.Shape.TheVariants.{Struct}
use Rattle.value_store.specs.Slots.{Held, AreLevels, Regrown, innermost, with_family}
use Rattle.value_store.proofs.Gathering.{begins, closed-template}
use Rattle.value_store.proofs.PackedStructs.{begins-structs, cannot-begin}
use Rattle.value_store.proofs.Held.{refused}
use Rattle.value_store.specs.Moves.{OpensRecords}
use Rattle.value_store.proofs.Weights.{refuses-more}
use Rattle.value_store.proofs.Moved.{records-moves, template-lacks}
use Rattle.value_store.proofs.Below.{records-opened}
use Rattle.value_store.proofs.store.Store.open_records.Goals as goal

pub place_records-requires-clause-template : goal.place_records-requires-clause-template
place_records-requires-clause-template c =
    let all = subst (λ (h : Held). AreLevels h.room h.frames h.slots) c.self.view_is c.self.invariant.levels in
    let r = c.reserve_records.new.self in
    let closed = subst (λ n.
    Regrown (record r { slots = with_family (Struct c.args.of) c.args.start n (innermost r.frames).pending r.slots })
    c.place_family.new.self) c.from.ensures c.in_ok-place_family.ensures.slots in
    let few : c.args.stride ≤ 2 ^ 16 = omega (arith, c.ranges.stride) in
    closed-template c.args.self.now r c.place_family.new.self c.args.of c.args.size c.args.stride c.args.start all
    c.requires.draft few c.reserve_records.ensures.same closed

pub returns-clause-ok : goal.returns-clause-ok
returns-clause-ok c =
    let all = subst (λ (h : Held). AreLevels h.room h.frames h.slots) c.self.view_is c.self.invariant.levels in
    let r = c.reserve_records.new.self in
    let closed = subst (λ n.
    Regrown (record r { slots = with_family (Struct c.args.of) c.args.start n (innermost r.frames).pending r.slots })
    c.place_family.new.self) c.from.ensures c.in_ok-place_family.ensures.slots in
    let short : c.args.start < 2 ^ 64 = omega (arith, c.ranges.start) in
    let few : c.args.stride ≤ 2 ^ 16 = omega (arith, c.ranges.stride) in
    begins-structs c.args.self.now c.place_records.new.self c.args.of c.args.size c.args.stride c.args.start
    (begins c.args.self.now r c.place_family.new.self c.place_records.new.self c.args.of c.args.size c.args.stride
    c.args.start all c.requires.draft c.requires.stride few short c.requires.packs c.reserve_records.ensures.same closed
    c.place_records.ensures.slots)

pub returns-clause-moves : goal.returns-clause-moves
returns-clause-moves c =
    let all = subst (λ (h : Held). AreLevels h.room h.frames h.slots) c.self.view_is c.self.invariant.levels in
    let r = c.reserve_records.new.self in
    let closed = subst (λ n.
    Regrown (record r { slots = with_family (Struct c.args.of) c.args.start n (innermost r.frames).pending r.slots })
    c.place_family.new.self) c.from.ensures c.in_ok-place_family.ensures.slots in
    records-moves c.args.self.now r c.place_family.new.self c.place_records.new.self c.args.of c.args.size c.args.stride
    c.args.start all c.reserve_records.ensures.same closed c.place_records.ensures.slots

pub returns-in_err-reserve_records-clause-full : goal.returns-in_err-reserve_records-clause-full
returns-in_err-reserve_records-clause-full c = refused _ (cannot-begin c.args.self.now c.args.start c.requires.packs)

pub returns-in_err-place_family-clause-full : goal.returns-in_err-place_family-clause-full
returns-in_err-place_family-clause-full c = refused _ (cannot-begin c.args.self.now c.args.start c.requires.packs)

pub returns-in_err-place_family-clause-lacks : goal.returns-in_err-place_family-clause-lacks
returns-in_err-place_family-clause-lacks c =
    refuses-more _ c.args.self.now OpensRecords
    (template-lacks _ c.args.self.now c.reserve_records.new.self c.reserve_records.ensures.same
    c.reserve_records.ensures.room c.in_err-place_family.ensures.lacks)

pub returns-clause-below : goal.returns-clause-below
returns-clause-below c =
    let all = subst (λ (h : Held). AreLevels h.room h.frames h.slots) c.self.view_is c.self.invariant.levels in
    records-opened c.args.self.now c.reserve_records.new.self c.place_family.new.self c.place_records.new.self all
    c.reserve_records.ensures.same c.in_ok-place_family.ensures.below
    (ap (λ (x : Held). x.frames) c.in_ok-place_family.ensures.slots)
    c.args.size c.args.stride [] c.args.start c.place_records.ensures.slots
