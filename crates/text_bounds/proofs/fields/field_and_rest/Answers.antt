use Rattle.std.proofs.Common.{ap, ◌∙◌}
use Rattle.std.specs.Prelude.{◌||◌}
use Rattle.pickle_types.specs.Bounds.{is_some, least_width}
use Rattle.pickle_types.specs.Table.{optional_term}
use Rattle.text_bounds.specs.TextRoom.{size_of}
use Rattle.text_bounds.proofs.fields.field_and_rest.Goals as goal

pub returns : goal.returns
unfolding least_width size_of
returns c type fields m h g =
    let least = c.least_present-least.ensures _ h.least in
    record {
      sum = c.width_sum-sum.ensures _ _ least g.sum;
      greatest = c.greater_width-greatest.ensures _ _ least g.greatest;
      label = c.is_labelled-has_label.ensures ∙ ap (λ b. is_some (optional_term c.args.field.now.label) || b) g.label;
      size = c.both-size.ensures _ _ (c.place_part.ensures _ h.size) g.size;
    }
