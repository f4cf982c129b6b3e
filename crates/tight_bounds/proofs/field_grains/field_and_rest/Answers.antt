use Rattle.std.proofs.Common.{ap, ◌∙◌}
use Rattle.std.specs.Prelude.{◌||◌}
use Rattle.pickle_types.specs.Bounds.{is_some}
use Rattle.pickle_types.specs.Table.{optional_term}
use Rattle.tight_bounds.specs.Tight.{width, own, fixed}
use Rattle.tight_bounds.proofs.field_grains.field_and_rest.Goals as goal

pub returns : goal.returns
unfolding width own fixed
returns c type rest h g =
    let first = c.own_grains-first.ensures in
    let whole = c.whole-whole.ensures _ _ h.fixed h.rate in
    let missed = c.part_missed-missed.ensures _ _ h.missed whole in
    let tried = c.greater_of-tried.ensures _ _ h.attempt (c.sum_of.ensures _ _ h.fixed g.attempt) in
    record {
      sum = c.sum_of-2.ensures _ _ (c.if_present-width.ensures _ h.width) g.sum;
      greatest = c.greater_of.ensures _ _ (c.if_present-width.ensures _ h.width) g.greatest;
      label = c.is_labelled.ensures ∙ ap (λ b. is_some (optional_term c.args.field.now.label) || b) g.label;
      own = c.sum_of-3.ensures _ _ (c.if_present-own.ensures _ h.own) g.own;
      fixed = c.sum_of-5.ensures _ _ first (c.sum_of-4.ensures _ _ h.fixed g.fixed);
      sum_of_rates = c.sum_of-6.ensures _ _ h.rate g.sum_of_rates;
      greatest_rate = c.greater_of-2.ensures _ _ h.rate g.greatest_rate;
      attempt = c.sum_of-7.ensures _ _ first tried;
      missed = c.greater_of-3.ensures _ _ (c.before-2.ensures _ _ first missed)
          (c.before-3.ensures _ _ (c.sum_of-8.ensures _ _ first whole) g.missed);
    }
