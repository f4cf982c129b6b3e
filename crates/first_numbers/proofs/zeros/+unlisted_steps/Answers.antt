-- `unlisted_steps`: an expression in brackets, and one of which both sides are 0.
use Rattle.std.proofs.Common.{◌≡◌, true, subst, arith}
use Rattle.pickle_types.specs.Table.{term_of}
use Rattle.first_numbers.specs.Layouts.{is_over_own}
use Rattle.first_numbers.proofs.Constants.{bracket_apart, either_apart}
use Rattle.first_numbers.proofs.zeros.+unlisted_steps.Goals as goal

pub returns-in_ok-unlisted_steps-in-Bracket : goal.returns-in_ok-unlisted_steps-in-Bracket
returns-in_ok-unlisted_steps-in-Bracket t c =
    rw (c.in-Bracket.is, ← c.deref.ensures)
    (bracket_apart (term_of c.deref.result.now) c.args.width c.args.own c.args.n
    c.in_ok-unlisted_steps-in-Bracket.field-0 c.one_more.result c.in_ok-unlisted_steps-in-Bracket.ensures
    c.one_more.ensures)

pub returns-in_ok-right-in-LogicalOr : goal.returns-in_ok-right-in-LogicalOr
returns-in_ok-right-in-LogicalOr t c =
    let a = c.deref-in-LogicalOr in
    let b = c.deref-in-LogicalOr-2 in
    let over = subst (λ e. is_over_own c.args.own (term_of e) ≡ true) c.in-Infix.is
    c.requires.over in
    rw (
      c.in-Infix.is,
      c.in-LogicalOr.is,
      ← a.ensures,
      ← b.ensures,
    )
    (either_apart (term_of a.result.now) (term_of b.result.now) c.args.width c.args.own c.args.n
    c.in_ok-left-in-LogicalOr.left c.in_ok-right-in-LogicalOr.right
    c.one_more-in-LogicalOr.result (rw (a.ensures, b.ensures) over)
    c.in_ok-left-in-LogicalOr.ensures c.in_ok-right-in-LogicalOr.ensures
    (omega (arith, c.one_more-in-LogicalOr.ensures, c.saturating_add.ensures)))
