use Rattle.std.proofs.Common.{rules, refl, arith}
use Rattle.std.proofs.lemmas.List.{drop_more}
use Rattle.pickle_types.specs.Table.{type_of, open_parts}
use Rattle.fault_parts.specs.Arises.{no_digits_before}
use Rattle.fault_location.proofs.IntegralFields.{digits_more}
use Rattle.fault_location.specs.Frames.{frames_after, frames_of}
use Rattle.fault_location.proofs.checker.Checker.reach_field.Goals as goal

pub loop-index-init : goal.loop-index-init
loop-index-init c = record { frame = search rules; depth = refl; few = c.requires.width; before = no_digits_before }

pub loop-index-preserved : goal.loop-index-preserved
loop-index-preserved c =
    let i = c.loop-index.invariant in
    let next = drop_more c.args.fields.now c.loop-index.index c.index-fields-index.result (omega arith) in
    let next = rw (← c.index-fields-index.is) at next in
    record {
      frame = search rules;
      depth = search rules;
      few = search rules;
      before = digits_more c.args.self.now.nodes.now c.args.fields.now c.args.digits c.args.start c.args.width
          c.loop-index.index c.loop-index.left c.first_digits-cut.result c.width_at-width.result
          c.saturating_sub-left.result
          (open_parts (type_of c.args.self.now.nodes.now) c.args.fields.now) (frames_of c.args.self.now)
          (frames_after c.args.self.now c.loop-index.self) (frames_after c.args.self.now c.try_digits.new.self)
          c.index-fields-index.result next c.width_at-width.ensures.is c.first_digits-cut.ensures.is
          c.saturating_sub-left.ensures i.before
          (rw (i.frame.lent.nodes, c.in-Ok-Passed.field-0-is) at c.in-Ok-Passed.ensures.is);
    }
