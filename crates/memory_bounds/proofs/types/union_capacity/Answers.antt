use Rattle.std.proofs.Common.{refl}
use Rattle.pickle_types.specs.Bounds.{least_width}
use Rattle.type_soundness.specs.Capacity.{capacity_bound}
use Rattle.memory_bounds.proofs.types.union_capacity.Goals as goal

pub returns : goal.returns
unfolding capacity_bound least_width
returns c name all m h = record {
  least = h.least;
  apart = c.both.ensures _ _ c.of_family.ensures h.greatest_apart;
  packed = c.both-2.ensures _ _ c.of_family-2.ensures h.greatest_packed;
  arrays = refl;
}
