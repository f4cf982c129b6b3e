use Rattle.std.proofs.Common.{rules, ap, refl}
use Rattle.value_store.specs.Filling.{SettlesRow}
use Rattle.value_store.specs.Moves.{Closes, ClosesRow, State}
use Rattle.value_store.specs.Slots.{HasNoNode}
use Rattle.value_store.proofs.PackedRows.{row_bytes, settled-row, settled-cannot, stale-row_levels}
use Rattle.value_store.proofs.Held.{accepted, refused}
use Rattle.value_store.proofs.Weights.{marks-within, joined-weighs, kept-weighs, refuses-more, refuses-heavy, heavy-refuses}
use Rattle.value_store.proofs.Moved.{fresh-marks, row-fresh, row-stale, on-state, lacks-same}
use Rattle.value_store.proofs.store.Store.settle_row.Goals as goal

pub returns-in_ok-admit-clause-ok : goal.returns-in_ok-admit-clause-ok
returns-in_ok-admit-clause-ok c =
    let fresh : HasNoNode c.args.self.now = search rules in
    settled-row c.place_family.result c.args.self.now c.place_family.new.self c.args.shape c.args.start
    c.requires.packed fresh c.place_family.ensures.ok

pub returns-in_ok-admit-clause-full : goal.returns-in_ok-admit-clause-full
returns-in_ok-admit-clause-full c =
    let fresh : HasNoNode c.args.self.now = search rules in
    settled-cannot c.place_family.result c.args.self.now c.args.shape c.args.start c.requires.packed fresh
    c.place_family.ensures.full

pub returns-else-has_no_node-clause-ok : goal.returns-else-has_no_node-clause-ok
returns-else-has_no_node-clause-ok c =
    let stale : HasNoNode c.args.self.now → ⊥ = search rules in
    let settles : SettlesRow c.args.self.now c.args.self.now c.args.shape c.args.start = λ names numbers outer w.
    stale-row_levels names c.args.self.now c.args.shape numbers c.args.start outer w c.requires.packed stale in
    accepted c.admit-else-has_no_node.result settles

pub returns-in_ok-admit-clause-settles : goal.returns-in_ok-admit-clause-settles
returns-in_ok-admit-clause-settles c =
    let fresh : HasNoNode c.args.self.now = search rules in
    let e = row-fresh c.args.self.now c.args.shape c.args.start c.requires.packed c.requires.row fresh in
    on-state c.place_family.result c.place_family.new.self _ _ e c.place_family.ensures.joins

pub returns-in_ok-admit-clause-lacks : goal.returns-in_ok-admit-clause-lacks
returns-in_ok-admit-clause-lacks c =
    let fresh : HasNoNode c.args.self.now = search rules in
    let e = row-fresh c.args.self.now c.args.shape c.args.start c.requires.packed c.requires.row fresh in
    refuses-more c.place_family.result c.args.self.now ClosesRow
    (lacks-same c.place_family.result c.args.self.now Closes ClosesRow (ap (λ (s : State). s.now) e)
    c.place_family.ensures.lacks)

pub returns-else-has_no_node-clause-settles : goal.returns-else-has_no_node-clause-settles
returns-else-has_no_node-clause-settles c =
    let stale : HasNoNode c.args.self.now → ⊥ = search rules in
    accepted _ (row-stale c.args.self.now c.args.shape c.args.start c.requires.packed c.requires.row stale)

pub returns-else-has_no_node-clause-below : goal.returns-else-has_no_node-clause-below
returns-else-has_no_node-clause-below c = accepted _ refl

pub returns-in_err-admit-clause-lacks : goal.returns-in_err-admit-clause-lacks
returns-in_err-admit-clause-lacks c =
    let h = c.args.self.now in
    let row = c.requires.row in
    let fresh : HasNoNode h = search rules in
    let marks = fresh-marks row.names h c.args.shape (row_bytes c.args.shape row.numbers) c.args.start row.outer
    row.packing.filling fresh in
    let e = row-fresh h c.args.shape c.args.start c.requires.packed c.requires.row fresh in
    refused _ (refuses-heavy h ClosesRow 48 (joined-weighs h _ (marks-within h marks) e) c.in_err-admit.ensures.heavy)

pub returns-else-has_no_node-clause-lacks : goal.returns-else-has_no_node-clause-lacks
returns-else-has_no_node-clause-lacks c =
    let h = c.args.self.now in
    let stale : HasNoNode h → ⊥ = search rules in
    let e = row-stale h c.args.shape c.args.start c.requires.packed c.requires.row stale in
    heavy-refuses c.admit-else-has_no_node.result h ClosesRow 0 (kept-weighs h _ e)
    c.admit-else-has_no_node.ensures.heavy
