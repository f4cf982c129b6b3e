use Rattle.std.proofs.Common.{ap, ◌∙◌}
use Rattle.std.specs.Prelude.{◌||◌}
use Rattle.pickle_types.specs.Bounds.{is_some, least_width}
use Rattle.pickle_types.specs.Table.{optional_term}
use Rattle.type_soundness.specs.Capacity.{capacity_bound}
use Rattle.memory_bounds.proofs.fields.field_and_rest.Goals as goal

pub returns : goal.returns
unfolding capacity_bound least_width
returns c type fields h g =
    let least = c.least_present-least.ensures _ h.least in
    record {
      sum = c.width_sum.ensures _ _ least g.sum;
      greatest = c.greater_width.ensures _ _ least g.greatest;
      label = c.is_labelled.ensures ∙ ap (λ b. is_some (optional_term c.args.field.now.label) || b) g.label;
      apart = c.both.ensures _ _ (c.linked.ensures _ h.apart) g.apart;
      packed = c.both-2.ensures _ _ (c.linked-2.ensures _ h.packed) g.packed;
      arrays = c.sum_of.ensures _ _ h.arrays g.arrays;
    }
