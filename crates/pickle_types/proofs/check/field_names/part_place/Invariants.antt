use Rattle.std.proofs.Common.{◌≡◌, drop}
use Rattle.pickle_types.specs.FieldNames.{place_named, part_names}
use Rattle.pickle_types.proofs.Placed.{behind}
use Rattle.pickle_types.proofs.check.field_names.part_place.Given as goal

abbrev pub invariant-loop-i : goal.invariant-loop-i
invariant-loop-i l =
    behind l.i (place_named l.word (part_names (drop l.i l.parts))) ≡ place_named l.word (part_names l.parts)
