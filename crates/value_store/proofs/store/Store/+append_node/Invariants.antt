use Rattle.value_store.specs.Slots.{value_at}
use Rattle.value_store.proofs.LayoutRows.{HasRows}
use Rattle.value_store.proofs.store.Store.+append_node.Given as goal

abbrev pub decreases-append_node : goal.decreases-append_node
decreases-append_node l = l.at

abbrev pub invariant-loop-i : goal.invariant-loop-i
invariant-loop-i l = HasRows (λ names. value_at names l.fn.self.slots l.fn.at) l.fn.row.items l.row.items l.i
