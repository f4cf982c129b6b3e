use Rattle.std.proofs.Common.{drop}
use Rattle.pickle_types.specs.declared.integer.IntegerType.{IntegerType}
use Rattle.value_store.specs.Integers.{AreNumbersAt}
use Rattle.value_store.proofs.store.Store.side_by_side.Given as goal

-- the links so far are such, if the others are
abbrev pub invariant-loop-link : goal.invariant-loop-link
invariant-loop-link l =
    let type : IntegerType = record { width = l.width; signed = l.signed } in
    AreNumbersAt l.self.slots type l.begin l.content (drop l.link-index l.links)
    → AreNumbersAt l.self.slots type l.start l.first.content l.links
