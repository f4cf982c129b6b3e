use Rattle.std.proofs.Common.{sym, ◌∙◌}
use Rattle.pickle_types.specs.Bounds.{least_width}
use Rattle.type_soundness.specs.Capacity.{capacity_bound}
use Rattle.memory_bounds.proofs.types.integral_capacity.Goals as goal

pub returns : goal.returns
unfolding capacity_bound least_width
returns c name type all m e h = record {
  least = c.from.ensures ∙ sym e;
  apart = c.both.ensures _ _ c.of_family.ensures h.apart;
  packed = c.both-2.ensures _ _ c.of_family-2.ensures h.packed;
  arrays = h.arrays;
}
