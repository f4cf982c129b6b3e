use Rattle.std.proofs.Common.{rules, ap, refl}
use Rattle.value_store.specs.declared.store.slots.Shape.TheVariants.{Text}
use Rattle.value_store.specs.Filling.{Settles}
use Rattle.value_store.specs.Moves.{Ends, State}
use Rattle.value_store.specs.Slots.{HasNoNode, innermost, marks_of}
use Rattle.value_store.proofs.Writing.{settled-clause, settled-full, close-stale}
use Rattle.value_store.proofs.Held.{accepted, refused}
use Rattle.value_store.proofs.Weights.{fresh-ends, stale-ends, refuses-more, refuses-heavy, heavy-refuses}
use Rattle.value_store.proofs.Moved.{fresh-marks, stale-marks, fresh-settled, stale-settled, regrown-state, lacks-room}
use Rattle.value_store.proofs.store.Store.settle_text.Goals as goal

pub returns-in_ok-admit-clause-ok : goal.returns-in_ok-admit-clause-ok
returns-in_ok-admit-clause-ok c =
    let fresh : HasNoNode c.args.self.now = search rules in
    settled-clause c.place_bytes.result c.args.self.now c.place_bytes.new.self 0 c.args.start fresh
    c.place_bytes.ensures.levels

pub returns-in_ok-admit-clause-full : goal.returns-in_ok-admit-clause-full
returns-in_ok-admit-clause-full c =
    let fresh : HasNoNode c.args.self.now = search rules in
    settled-full c.place_bytes.result c.args.self.now c.place_bytes.new.self 0 c.args.start fresh
    c.place_bytes.ensures.full

pub returns-else-has_no_node-clause-ok : goal.returns-else-has_no_node-clause-ok
returns-else-has_no_node-clause-ok c =
    let stale : HasNoNode c.args.self.now → ⊥ = search rules in
    let settles : Settles c.args.self.now c.args.self.now c.args.start =
    λ names bytes outer w. close-stale names c.args.self.now bytes c.args.start outer w stale in
    accepted c.admit-else-has_no_node.result settles

pub returns-in_ok-admit-clause-settles : goal.returns-in_ok-admit-clause-settles
returns-in_ok-admit-clause-settles c =
    let fresh : HasNoNode c.args.self.now = search rules in
    let t = c.requires in
    regrown-state c.place_bytes.result c.args.self.now c.place_bytes.new.self _ _
    (fresh-settled t.names c.args.self.now Text t.bytes c.args.start t.outer t.writing fresh)
    c.place_bytes.ensures.slots

pub returns-in_ok-admit-clause-lacks : goal.returns-in_ok-admit-clause-lacks
returns-in_ok-admit-clause-lacks c =
    let fresh : HasNoNode c.args.self.now = search rules in
    let t = c.requires in
    let e = fresh-settled t.names c.args.self.now Text t.bytes c.args.start t.outer t.writing fresh in
    refuses-more c.place_bytes.result c.args.self.now Ends
    (lacks-room c.place_bytes.result c.args.self.now _ Ends (ap (λ (s : State). s.now) e) c.place_bytes.ensures.lacks)

pub returns-else-has_no_node-clause-settles : goal.returns-else-has_no_node-clause-settles
returns-else-has_no_node-clause-settles c =
    let stale : HasNoNode c.args.self.now → ⊥ = search rules in
    let t = c.requires in
    accepted _ (stale-settled t.names c.args.self.now Text t.bytes c.args.start t.outer t.writing stale)

pub returns-else-has_no_node-clause-below : goal.returns-else-has_no_node-clause-below
returns-else-has_no_node-clause-below c = accepted _ refl

pub returns-in_err-admit-clause-lacks : goal.returns-in_err-admit-clause-lacks
returns-in_err-admit-clause-lacks c =
    let fresh : HasNoNode c.args.self.now = search rules in
    let t = c.requires in
    let h = c.args.self.now in
    refused _ (refuses-heavy h Ends 40 (fresh-ends (innermost h.frames) (marks_of h.slots)
    (fresh-marks t.names h Text t.bytes c.args.start t.outer t.writing fresh)) c.in_err-admit.ensures.heavy)

pub returns-else-has_no_node-clause-lacks : goal.returns-else-has_no_node-clause-lacks
returns-else-has_no_node-clause-lacks c =
    let stale : HasNoNode c.args.self.now → ⊥ = search rules in
    let t = c.requires in
    let h = c.args.self.now in
    heavy-refuses c.admit-else-has_no_node.result h Ends 0 (stale-ends (innermost h.frames) (marks_of h.slots)
    (stale-marks t.names h Text t.bytes c.args.start t.outer t.writing stale)) c.admit-else-has_no_node.ensures.heavy
