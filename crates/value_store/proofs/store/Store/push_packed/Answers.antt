use Rattle.std.proofs.Common.{rules, ◌<◌, ◌^◌, length, sym, ap, subst, ◌∙◌, arith}
use Rattle.value_store.specs.Moves.{Packs, State}
use Rattle.value_store.specs.Slots.{HasNoNode, AreBytes, AreSome, GoesOn, element_width}
use Rattle.value_store.proofs.PackedRows.{own-byte, own-bytes, one-are, one-some, stale-row, fresh-packs, stale-packs, cannot-pack}
use Rattle.value_store.specs.Packed.{bytes_for}
use Rattle.value_store.proofs.Held.{refused}
use Rattle.value_store.proofs.Packed.{length-number_bytes}
use Rattle.value_store.proofs.Weights.{first-packed, next-packed, light-by, refuses-more, refuses-heavy}
use Rattle.value_store.proofs.Moved.{fresh-packed, stale-packed, packed-bytes, regrown-state, lacks-room, lacks-bytes}
use Rattle.value_store.proofs.store.Store.push_packed.Goals as goal

pub place_bytes-requires-clause-are : goal.place_bytes-requires-clause-are
place_bytes-requires-clause-are c =
    let own = own-bytes c.args.shape c.args.width c.args.digits c.bytes_for-2.result c.to_le_bytes-bytes.result
    c.requires.packed c.requires.width c.bytes_for-2.ensures c.to_le_bytes-bytes.ensures in
    let small : c.args.digits < 2 ^ element_width c.args.shape =
    subst (λ m. c.args.digits < 2 ^ m) c.requires.width c.requires.below in
    let t = c.requires.takes in
    subst (λ bs. AreBytes c.args.shape bs c.args.start) (sym own)
    (one-are c.args.shape c.args.digits (length t.numbers) c.args.start c.requires.packed small t.short)

pub append_bytes-requires : goal.append_bytes-requires
append_bytes-requires c =
    let own = own-bytes c.args.shape c.args.width c.args.digits c.bytes_for-2.result c.to_le_bytes-bytes.result
    c.requires.packed c.requires.width c.bytes_for-2.ensures c.to_le_bytes-bytes.ensures in
    let small : c.args.digits < 2 ^ element_width c.args.shape =
    subst (λ m. c.args.digits < 2 ^ m) c.requires.width c.requires.below in
    let stale : HasNoNode c.args.self.now → ⊥ = search rules in
    let t = c.requires.takes in
    subst (λ bs. GoesOn c.args.self.now c.args.shape bs) (sym own) (stale-row t.names c.args.self.now c.args.shape
    c.args.digits t.numbers c.args.start t.outer t.packing c.requires.packed small t.short stale)

pub returns-in_ok-admit-2-clause-ok : goal.returns-in_ok-admit-2-clause-ok
returns-in_ok-admit-2-clause-ok c =
    let own = own-bytes c.args.shape c.args.width c.args.digits c.bytes_for-2.result c.to_le_bytes-bytes.result
    c.requires.packed c.requires.width c.bytes_for-2.ensures c.to_le_bytes-bytes.ensures in
    let fresh : HasNoNode c.args.self.now = search rules in
    fresh-packs c.args.self.now c.place_bytes.new.self c.args.shape c.args.width c.args.digits c.args.start _
    c.requires.packed c.requires.width c.requires.below own c.place_bytes.result fresh c.place_bytes.ensures.slots

pub returns-in_ok-admit-3-clause-ok : goal.returns-in_ok-admit-3-clause-ok
returns-in_ok-admit-3-clause-ok c =
    let own = own-bytes c.args.shape c.args.width c.args.digits c.bytes_for-2.result c.to_le_bytes-bytes.result
    c.requires.packed c.requires.width c.bytes_for-2.ensures c.to_le_bytes-bytes.ensures in
    let stale : HasNoNode c.args.self.now → ⊥ = search rules in
    stale-packs c.args.self.now c.append_bytes.new.self c.args.shape c.args.width c.args.digits c.args.start _
    c.requires.packed c.requires.width c.requires.below own c.append_bytes.result stale c.append_bytes.ensures.slots

pub place_bytes-requires-clause-some : goal.place_bytes-requires-clause-some
place_bytes-requires-clause-some c =
    let own = own-bytes c.args.shape c.args.width c.args.digits c.bytes_for-2.result c.to_le_bytes-bytes.result
    c.requires.packed c.requires.width c.bytes_for-2.ensures c.to_le_bytes-bytes.ensures in
    subst (λ bs. AreSome c.args.shape bs) (sym own) (one-some c.args.shape c.args.digits c.requires.packed)

pub returns-in_ok-admit-2-clause-full : goal.returns-in_ok-admit-2-clause-full
returns-in_ok-admit-2-clause-full c =
    cannot-pack _ c.place_bytes.result c.args.self.now c.args.shape c.args.digits c.args.start c.requires.packed
    c.place_bytes.ensures.full

pub returns-in_ok-admit-3-clause-full : goal.returns-in_ok-admit-3-clause-full
returns-in_ok-admit-3-clause-full c =
    cannot-pack _ c.append_bytes.result c.args.self.now c.args.shape c.args.digits c.args.start c.requires.packed
    c.append_bytes.ensures.full

pub append_byte-requires : goal.append_byte-requires
append_byte-requires c =
    let own = own-byte c.args.shape c.args.width c.args.digits c.requires.packed c.requires.width
    c.if-width-le8.true c.requires.below in
    let small : c.args.digits < 2 ^ element_width c.args.shape =
    subst (λ m. c.args.digits < 2 ^ m) c.requires.width c.requires.below in
    let stale : HasNoNode c.args.self.now → ⊥ = search rules in
    let t = c.requires.takes in
    subst (λ bs. GoesOn c.args.self.now c.args.shape bs) (sym own) (stale-row t.names c.args.self.now c.args.shape
    c.args.digits t.numbers c.args.start t.outer t.packing c.requires.packed small t.short stale)

pub returns-then-width-le8-clause-ok : goal.returns-then-width-le8-clause-ok
returns-then-width-le8-clause-ok c =
    let own = own-byte c.args.shape c.args.width c.args.digits c.requires.packed c.requires.width
    c.if-width-le8.true c.requires.below in
    let stale : HasNoNode c.args.self.now → ⊥ = search rules in
    stale-packs c.args.self.now c.append_byte.new.self c.args.shape c.args.width c.args.digits c.args.start _
    c.requires.packed c.requires.width c.requires.below own c.append_byte.result stale c.append_byte.ensures.slots

pub returns-then-width-le8-clause-full : goal.returns-then-width-le8-clause-full
returns-then-width-le8-clause-full c =
    cannot-pack _ c.append_byte.result c.args.self.now c.args.shape c.args.digits c.args.start c.requires.packed
    c.append_byte.ensures.full

pub returns-then-width-le8-clause-moves : goal.returns-then-width-le8-clause-moves
returns-then-width-le8-clause-moves c =
    let own = own-byte c.args.shape c.args.width c.args.digits c.requires.packed c.requires.width
    c.if-width-le8.true c.requires.below in
    let stale : HasNoNode c.args.self.now → ⊥ = search rules in
    let e = stale-packed c.args.self.now c.args.shape c.args.start c.args.width c.args.digits _ c.requires.packed
    c.requires.width own c.requires.takes stale in
    regrown-state c.append_byte.result c.args.self.now c.append_byte.new.self _ _ e c.append_byte.ensures.slots

pub returns-then-width-le8-clause-lacks : goal.returns-then-width-le8-clause-lacks
returns-then-width-le8-clause-lacks c =
    let own = own-byte c.args.shape c.args.width c.args.digits c.requires.packed c.requires.width
    c.if-width-le8.true c.requires.below in
    let e = packed-bytes c.args.self.now c.args.shape c.args.start c.args.width c.args.digits _ c.requires.packed
    c.requires.width own c.requires.takes in
    refuses-more c.append_byte.result c.args.self.now (Packs c.args.width)
    (lacks-bytes c.append_byte.result c.args.self.now _ (Packs c.args.width) e c.append_byte.ensures.full)

pub returns-in_ok-admit-2-clause-moves : goal.returns-in_ok-admit-2-clause-moves
returns-in_ok-admit-2-clause-moves c =
    let own = own-bytes c.args.shape c.args.width c.args.digits c.bytes_for-2.result c.to_le_bytes-bytes.result
    c.requires.packed c.requires.width c.bytes_for-2.ensures c.to_le_bytes-bytes.ensures in
    let fresh : HasNoNode c.args.self.now = search rules in
    let e = fresh-packed c.args.self.now c.args.shape c.args.start c.args.width c.args.digits _ c.requires.packed
    c.requires.width own c.requires.takes fresh in
    regrown-state c.place_bytes.result c.args.self.now c.place_bytes.new.self _ _ e c.place_bytes.ensures.slots

pub returns-in_ok-admit-2-clause-lacks : goal.returns-in_ok-admit-2-clause-lacks
returns-in_ok-admit-2-clause-lacks c =
    let own = own-bytes c.args.shape c.args.width c.args.digits c.bytes_for-2.result c.to_le_bytes-bytes.result
    c.requires.packed c.requires.width c.bytes_for-2.ensures c.to_le_bytes-bytes.ensures in
    let fresh : HasNoNode c.args.self.now = search rules in
    let e = fresh-packed c.args.self.now c.args.shape c.args.start c.args.width c.args.digits _ c.requires.packed
    c.requires.width own c.requires.takes fresh in
    refuses-more c.place_bytes.result c.args.self.now (Packs c.args.width)
    (lacks-room c.place_bytes.result c.args.self.now _ (Packs c.args.width) (ap (λ (s : State). s.now) e)
    c.place_bytes.ensures.lacks)

pub returns-in_ok-admit-3-clause-moves : goal.returns-in_ok-admit-3-clause-moves
returns-in_ok-admit-3-clause-moves c =
    let own = own-bytes c.args.shape c.args.width c.args.digits c.bytes_for-2.result c.to_le_bytes-bytes.result
    c.requires.packed c.requires.width c.bytes_for-2.ensures c.to_le_bytes-bytes.ensures in
    let stale : HasNoNode c.args.self.now → ⊥ = search rules in
    let e = stale-packed c.args.self.now c.args.shape c.args.start c.args.width c.args.digits _ c.requires.packed
    c.requires.width own c.requires.takes stale in
    regrown-state c.append_bytes.result c.args.self.now c.append_bytes.new.self _ _ e c.append_bytes.ensures.slots

pub returns-in_ok-admit-3-clause-lacks : goal.returns-in_ok-admit-3-clause-lacks
returns-in_ok-admit-3-clause-lacks c =
    let own = own-bytes c.args.shape c.args.width c.args.digits c.bytes_for-2.result c.to_le_bytes-bytes.result
    c.requires.packed c.requires.width c.bytes_for-2.ensures c.to_le_bytes-bytes.ensures in
    let e = packed-bytes c.args.self.now c.args.shape c.args.start c.args.width c.args.digits _ c.requires.packed
    c.requires.width own c.requires.takes in
    refuses-more c.append_bytes.result c.args.self.now (Packs c.args.width)
    (lacks-bytes c.append_bytes.result c.args.self.now _ (Packs c.args.width) e c.append_bytes.ensures.full)

pub returns-in_err-admit-clause-lacks : goal.returns-in_err-admit-clause-lacks
returns-in_err-admit-clause-lacks c =
    let own = own-byte c.args.shape c.args.width c.args.digits c.requires.packed c.requires.width
    c.if-width-le8.true c.requires.below in
    let stale : HasNoNode c.args.self.now → ⊥ = search rules in
    let e = next-packed c.args.self.now c.args.shape c.args.start c.args.width c.args.digits _ c.requires.packed
    c.requires.width own c.requires.takes stale in
    let one = ap length own ∙ length-number_bytes (bytes_for (element_width c.args.shape)) c.args.digits in
    let size = rw (sym c.requires.width) at one in
    refused _ (refuses-heavy c.args.self.now (Packs c.args.width) _ (omega (arith, e, size, c.bytes_for.ensures))
    c.in_err-admit.ensures.heavy)

pub returns-then-width-le8-clause-light : goal.returns-then-width-le8-clause-light
returns-then-width-le8-clause-light c =
    let own = own-byte c.args.shape c.args.width c.args.digits c.requires.packed c.requires.width
    c.if-width-le8.true c.requires.below in
    let stale : HasNoNode c.args.self.now → ⊥ = search rules in
    let e = stale-packed c.args.self.now c.args.shape c.args.start c.args.width c.args.digits _ c.requires.packed
    c.requires.width own c.requires.takes stale in
    let w = next-packed c.args.self.now c.args.shape c.args.start c.args.width c.args.digits _ c.requires.packed
    c.requires.width own c.requires.takes stale in
    let one = ap length own ∙ length-number_bytes (bytes_for (element_width c.args.shape)) c.args.digits in
    let size = rw (sym c.requires.width) at one in
    light-by c.append_byte.result c.args.self.now (Packs c.args.width) c.append_byte.new.self _
    c.append_byte.ensures.room
    (regrown-state c.append_byte.result c.args.self.now c.append_byte.new.self _ _ e c.append_byte.ensures.slots)
    (omega (arith, w, size, c.bytes_for.ensures)) c.in_ok-admit.ensures.light

pub returns-in_err-admit-2-clause-lacks : goal.returns-in_err-admit-2-clause-lacks
returns-in_err-admit-2-clause-lacks c =
    let own = own-bytes c.args.shape c.args.width c.args.digits c.bytes_for-2.result c.to_le_bytes-bytes.result
    c.requires.packed c.requires.width c.bytes_for-2.ensures c.to_le_bytes-bytes.ensures in
    let fresh : HasNoNode c.args.self.now = search rules in
    let e = first-packed c.args.self.now c.args.shape c.args.start c.args.width c.args.digits _ c.requires.packed
    c.requires.width own c.requires.takes fresh in
    refused _ (refuses-heavy c.args.self.now (Packs c.args.width) _ (omega (arith, e))
    c.in_err-admit-2.ensures.heavy)

pub returns-in_err-admit-3-clause-lacks : goal.returns-in_err-admit-3-clause-lacks
returns-in_err-admit-3-clause-lacks c =
    let own = own-bytes c.args.shape c.args.width c.args.digits c.bytes_for-2.result c.to_le_bytes-bytes.result
    c.requires.packed c.requires.width c.bytes_for-2.ensures c.to_le_bytes-bytes.ensures in
    let stale : HasNoNode c.args.self.now → ⊥ = search rules in
    let e = next-packed c.args.self.now c.args.shape c.args.start c.args.width c.args.digits _ c.requires.packed
    c.requires.width own c.requires.takes stale in
    refused _ (refuses-heavy c.args.self.now (Packs c.args.width) _ (omega (arith, e))
    c.in_err-admit-3.ensures.heavy)

pub returns-in_ok-admit-3-clause-light : goal.returns-in_ok-admit-3-clause-light
returns-in_ok-admit-3-clause-light c =
    let own = own-bytes c.args.shape c.args.width c.args.digits c.bytes_for-2.result c.to_le_bytes-bytes.result
    c.requires.packed c.requires.width c.bytes_for-2.ensures c.to_le_bytes-bytes.ensures in
    let stale : HasNoNode c.args.self.now → ⊥ = search rules in
    let e = stale-packed c.args.self.now c.args.shape c.args.start c.args.width c.args.digits _ c.requires.packed
    c.requires.width own c.requires.takes stale in
    let w = next-packed c.args.self.now c.args.shape c.args.start c.args.width c.args.digits _ c.requires.packed
    c.requires.width own c.requires.takes stale in
    light-by c.append_bytes.result c.args.self.now (Packs c.args.width) c.append_bytes.new.self _
    c.append_bytes.ensures.room
    (regrown-state c.append_bytes.result c.args.self.now c.append_bytes.new.self _ _ e c.append_bytes.ensures.slots)
    (omega (arith, w)) c.in_ok-admit-3.ensures.light
