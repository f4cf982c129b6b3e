use Rattle.value_store.specs.Lent.{place_rank}
use Rattle.value_store.specs.LayoutArrays.{PlacesTemplates}
use Rattle.value_store.specs.Slots.{KeepsRoom}
use Rattle.value_store.proofs.store.Store.+place_template.Given as goal

abbrev pub decreases-place_template : goal.decreases-place_template
decreases-place_template l = place_rank l.place

abbrev pub invariant-loop-i : goal.invariant-loop-i
invariant-loop-i l = record {
  placed : PlacesTemplates l.fn.self l.self l.fn.place l.fn.at l.i l.next;
  room : KeepsRoom l.fn.self l.self;
}
