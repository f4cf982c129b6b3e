use Rattle.std.proofs.Common.{refl}
use Rattle.pickle_types.specs.Bounds.{least_width}
use Rattle.type_soundness.specs.Capacity.{capacity_bound}
use Rattle.memory_bounds.proofs.parts.no_parts.Goals as goal

pub returns : goal.returns
unfolding capacity_bound least_width
returns c m = record {
  empty = refl;
  least = refl;
  apart = c.nothing.ensures;
  packed = c.nothing-2.ensures;
  greatest_apart = c.nothing-3.ensures;
  greatest_packed = c.nothing-4.ensures;
  arrays = refl;
}
