use Rattle.std.proofs.Common.{length, ◌-◌, map, take}
use Rattle.pickle_types.specs.DeclaredTypes.{told_of}
use Rattle.pickle_json.specs.TypeObjects.{WritesObjects}
use Rattle.pickle_json.proofs.types.put_types.Given as goal

abbrev pub invariant-loop-done : goal.invariant-loop-done
invariant-loop-done g l =
    WritesObjects (map told_of (take l.done l.types)) (g.W.Write.contents l.initial.w) (g.W.Write.contents l.w)

abbrev pub decreases-loop-done : goal.decreases-loop-done
decreases-loop-done g l = length l.types - l.done
