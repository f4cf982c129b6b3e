use Rattle.std.proofs.Common.{take, ◌∙◌, ap, sym, subst}
use Rattle.std.specs.Prelude.{IfSome}
use Rattle.pickle_meaning.specs.Values.{members_of, member_at, gathered}
use Rattle.value_store.specs.Integers.{IsIntegerOf}
use Rattle.value_store.specs.Lent.{place_value}
use Rattle.value_store.specs.Slots.{trees, parts_in}
use Rattle.value_store.proofs.Integers.{elements_integers}
use Rattle.value_store.proofs.stored.StoredValue.row_type.Goals as goal

pub returns-in-Integers : goal.returns-in-Integers
returns-in-Integers c = λ names i.
    let slots = c.args.self.now.store.now.slots in
    let node = c.node_at.result in
    let members = ap (λ p. members_of (place_value names slots p)) c.in-Node.is ∙ c.node_at.ensures.read.members names
    ∙ ap (λ shape. gathered (parts_in slots (take c.in-Node.at (trees names slots)) shape node.start node.content))
    c.in-Integers.is in
    subst (λ found.
    IfSome (member_at found i) (IsIntegerOf (record { width = c.in-Integers.width; signed = c.in-Integers.signed })))
    (sym members) (elements_integers c.in-Integers.width c.in-Integers.signed node.start _ i)
