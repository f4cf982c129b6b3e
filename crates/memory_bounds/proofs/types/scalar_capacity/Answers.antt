use Rattle.std.proofs.Common.{refl, sym, ◌∙◌}
use Rattle.pickle_types.specs.Bounds.{least_width}
use Rattle.type_soundness.specs.Capacity.{capacity_bound}
use Rattle.memory_bounds.proofs.types.scalar_capacity.Goals as goal

pub returns-clause-integer : goal.returns-clause-integer
unfolding capacity_bound least_width
returns-clause-integer c type m e = record {
  least = c.from.ensures ∙ sym e;
  apart = c.of_number.ensures;
  packed = c.of_number-2.ensures;
  arrays = refl;
}

pub returns-clause-offset : goal.returns-clause-offset
unfolding capacity_bound least_width
returns-clause-offset c type unit m e = record {
  least = c.from.ensures ∙ sym e;
  apart = c.of_number.ensures;
  packed = c.of_number-2.ensures;
  arrays = refl;
}
