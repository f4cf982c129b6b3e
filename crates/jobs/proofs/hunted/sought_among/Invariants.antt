use Rattle.std.proofs.Common.{◌≡◌, map, take}
use Rattle.std.specs.List.{flat_map}
use Rattle.jobs.specs.Hunted.{quarries_in, quarry_of}
use Rattle.jobs.proofs.hunted.sought_among.Given as goal

abbrev pub invariant-loop-format : goal.invariant-loop-format
invariant-loop-format l =
    map quarry_of l.list.items ≡ flat_map (quarries_in l.given) (take l.format-index l.formats.list.items)
