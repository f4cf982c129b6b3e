use Rattle.std.proofs.Common.{◌≡◌, drop}
use Rattle.pickle_types.specs.FieldNames.{place_named}
use Rattle.pickle_types.specs.Built.{names_in}
use Rattle.pickle_types.proofs.Placed.{behind}
use Rattle.pickle_types.proofs.check.field_names.field_place.Given as goal

abbrev pub invariant-loop-i : goal.invariant-loop-i
invariant-loop-i l =
    behind l.i (place_named l.word (names_in (drop l.i l.fields))) ≡ place_named l.word (names_in l.fields)
