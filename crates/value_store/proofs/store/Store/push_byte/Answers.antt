use Rattle.std.proofs.Common.{rules, [], ◌∷◌, refl, ap}
use Rattle.value_store.specs.declared.store.slots.Shape.TheVariants.{Text}
use Rattle.value_store.specs.Moves.{Writes, State}
use Rattle.value_store.specs.Slots.{HasNoNode, innermost, marks_of}
use Rattle.value_store.proofs.Writing.{fresh-clause, fresh-full, fresh-writes, stale-clause, stale-full, stale-writes}
use Rattle.value_store.proofs.Held.{refused}
use Rattle.value_store.proofs.Weights.{fresh-weighs, stale-weighs, refuses-more, refuses-heavy}
use Rattle.value_store.proofs.Moved.{fresh-marks, stale-marks, fresh-longer, stale-longer, regrown-state, lacks-room, lacks-bytes}
use Rattle.value_store.proofs.store.Store.push_byte.Goals as goal

pub returns-in_ok-admit-clause-writes : goal.returns-in_ok-admit-clause-writes
returns-in_ok-admit-clause-writes c =
    let fresh : HasNoNode c.args.self.now = search rules in
    fresh-writes c.place_bytes.result c.args.self.now c.place_bytes.new.self c.args.byte c.args.start fresh
    c.place_bytes.ensures.slots

pub returns-in_ok-admit-clause-levels : goal.returns-in_ok-admit-clause-levels
returns-in_ok-admit-clause-levels c =
    let fresh : HasNoNode c.args.self.now = search rules in
    fresh-clause c.place_bytes.result c.args.self.now c.place_bytes.new.self c.args.byte c.args.start fresh
    c.place_bytes.ensures.levels

pub returns-in_ok-admit-clause-full : goal.returns-in_ok-admit-clause-full
returns-in_ok-admit-clause-full c =
    let fresh : HasNoNode c.args.self.now = search rules in
    fresh-full c.place_bytes.result c.args.self.now c.place_bytes.new.self c.args.byte c.args.start fresh
    c.place_bytes.ensures.full

pub returns-in_ok-admit-2-clause-writes : goal.returns-in_ok-admit-2-clause-writes
returns-in_ok-admit-2-clause-writes c =
    let stale : HasNoNode c.args.self.now → ⊥ = search rules in
    stale-writes c.append_byte.result c.args.self.now c.append_byte.new.self c.args.byte c.args.start stale
    c.append_byte.ensures.slots

pub returns-in_ok-admit-2-clause-levels : goal.returns-in_ok-admit-2-clause-levels
returns-in_ok-admit-2-clause-levels c =
    let stale : HasNoNode c.args.self.now → ⊥ = search rules in
    stale-clause c.append_byte.result c.args.self.now c.append_byte.new.self c.args.byte c.args.start stale
    c.append_byte.ensures.slots

pub returns-in_ok-admit-2-clause-full : goal.returns-in_ok-admit-2-clause-full
returns-in_ok-admit-2-clause-full c =
    let stale : HasNoNode c.args.self.now → ⊥ = search rules in
    stale-full c.append_byte.result c.args.self.now c.append_byte.new.self c.args.byte c.args.start stale
    c.append_byte.ensures.full

pub returns-in_ok-admit-clause-moves : goal.returns-in_ok-admit-clause-moves
returns-in_ok-admit-clause-moves c =
    let fresh : HasNoNode c.args.self.now = search rules in
    let t = c.requires.takes in
    regrown-state c.place_bytes.result c.args.self.now c.place_bytes.new.self _ _
    (fresh-longer t.names c.args.self.now Text t.bytes c.args.start t.outer t.writing fresh (c.args.byte ∷ []))
    c.place_bytes.ensures.slots

pub returns-in_ok-admit-clause-lacks : goal.returns-in_ok-admit-clause-lacks
returns-in_ok-admit-clause-lacks c =
    let fresh : HasNoNode c.args.self.now = search rules in
    let t = c.requires.takes in
    let e = fresh-longer t.names c.args.self.now Text t.bytes c.args.start t.outer t.writing fresh (c.args.byte ∷ []) in
    refuses-more c.place_bytes.result c.args.self.now Writes
    (lacks-room c.place_bytes.result c.args.self.now _ Writes (ap (λ (s : State). s.now) e) c.place_bytes.ensures.lacks)

pub returns-in_ok-admit-2-clause-moves : goal.returns-in_ok-admit-2-clause-moves
returns-in_ok-admit-2-clause-moves c =
    let stale : HasNoNode c.args.self.now → ⊥ = search rules in
    let t = c.requires.takes in
    regrown-state c.append_byte.result c.args.self.now c.append_byte.new.self _ _
    (stale-longer t.names c.args.self.now Text t.bytes c.args.start t.outer t.writing stale (c.args.byte ∷ []))
    c.append_byte.ensures.slots

pub returns-in_ok-admit-2-clause-lacks : goal.returns-in_ok-admit-2-clause-lacks
returns-in_ok-admit-2-clause-lacks c =
    refuses-more c.append_byte.result c.args.self.now Writes
    (lacks-bytes c.append_byte.result c.args.self.now 1 Writes refl c.append_byte.ensures.full)

pub returns-in_err-admit-clause-lacks : goal.returns-in_err-admit-clause-lacks
returns-in_err-admit-clause-lacks c =
    let fresh : HasNoNode c.args.self.now = search rules in
    let t = c.requires.takes in
    let h = c.args.self.now in
    refused _ (refuses-heavy h Writes 41 (fresh-weighs (innermost h.frames) (marks_of h.slots) 1
    (fresh-marks t.names h Text t.bytes c.args.start t.outer t.writing fresh)) c.in_err-admit.ensures.heavy)

pub returns-in_err-admit-2-clause-lacks : goal.returns-in_err-admit-2-clause-lacks
returns-in_err-admit-2-clause-lacks c =
    let stale : HasNoNode c.args.self.now → ⊥ = search rules in
    let t = c.requires.takes in
    let h = c.args.self.now in
    refused _ (refuses-heavy h Writes 1 (stale-weighs (innermost h.frames) (marks_of h.slots) 1
    (stale-marks t.names h Text t.bytes c.args.start t.outer t.writing stale)) c.in_err-admit-2.ensures.heavy)
