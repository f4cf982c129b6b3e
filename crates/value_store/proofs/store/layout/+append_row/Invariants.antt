use Rattle.value_store.specs.Lent.{place_rank}
use Rattle.value_store.specs.Refs.{value_of}
use Rattle.value_store.proofs.LayoutRows.{HasRows}
use Rattle.value_store.proofs.store.layout.+append_row.Given as goal

abbrev pub decreases-append_row : goal.decreases-append_row
decreases-append_row l = place_rank l.value.place

abbrev pub invariant-loop-i : goal.invariant-loop-i
invariant-loop-i l = HasRows (λ names. value_of names l.fn.value) l.fn.row.items l.row.items l.i
