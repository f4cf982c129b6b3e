use Rattle.std.proofs.Common.{sym, ◌∙◌}
use Rattle.pickle_types.proofs.Widths.{is_between_wide}
use Rattle.pickle_types.proofs.check.expressions.infix.Goals as goal

pub returns-in_ok-new-in-Some-2-clause-sound : goal.returns-in_ok-new-in-Some-2-clause-sound
returns-in_ok-new-in-Some-2-clause-sound c = record {
  sort = is_between_wide c.args.op _ _ c.in-Some.s (sym c.in-Some.is ∙ c.between.ensures) c.operand_of.ensures.wide
      c.operand_of-2.ensures.wide;
  term = (
    rw c.in_ok-new-in-Some.ensures.ok c.requires.left.term,
    rw c.in_ok-new-in-Some-2.ensures.ok c.requires.right.term,
  );
}
