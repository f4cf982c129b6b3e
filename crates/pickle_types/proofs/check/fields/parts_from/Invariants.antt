use Rattle.std.proofs.Common.{◌≡◌, map}
use Rattle.pickle_types.specs.Built.{part_of}
use Rattle.pickle_types.proofs.check.fields.parts_from.Given as goal

abbrev pub invariant-loop-f : goal.invariant-loop-f
invariant-loop-f l = l.parts.items ≡ map part_of l.yielded
