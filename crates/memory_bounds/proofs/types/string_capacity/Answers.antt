use Rattle.std.proofs.Common.{refl}
use Rattle.pickle_types.specs.Bounds.{least_width}
use Rattle.type_soundness.specs.Capacity.{capacity_bound}
use Rattle.memory_bounds.proofs.types.string_capacity.Goals as goal

pub returns : goal.returns
unfolding capacity_bound least_width
returns c = record {
  least = refl;
  apart = c.of_string.ensures;
  packed = c.of_string-2.ensures;
  arrays = refl;
}
