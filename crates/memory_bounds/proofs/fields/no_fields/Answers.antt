use Rattle.std.proofs.Common.{refl}
use Rattle.pickle_types.specs.Bounds.{least_width}
use Rattle.type_soundness.specs.Capacity.{capacity_bound}
use Rattle.memory_bounds.proofs.fields.no_fields.Goals as goal

pub returns : goal.returns
unfolding capacity_bound least_width
returns c m = record {
  sum = refl;
  greatest = refl;
  label = refl;
  apart = c.nothing.ensures;
  packed = c.nothing-2.ensures;
  arrays = refl;
}
