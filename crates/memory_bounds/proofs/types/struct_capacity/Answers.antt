use Rattle.type_soundness.specs.Capacity.{capacity_bound}
use Rattle.memory_bounds.proofs.types.struct_capacity.Goals as goal

pub returns : goal.returns
unfolding capacity_bound
returns c name all m h = record {
  least = c.struct_least.ensures name all m h;
  apart = c.both.ensures _ _ c.of_family.ensures h.apart;
  packed = c.both-2.ensures _ _ c.of_family-2.ensures h.packed;
  arrays = h.arrays;
}
