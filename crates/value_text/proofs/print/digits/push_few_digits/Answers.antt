use Rattle.std.proofs.Common.{◌++◌, take, ap, sym, ◌∙◌}
use Rattle.std.proofs.lemmas.Fmt.{decimal_digit}
use Rattle.itoa.proofs.Decimal.{decimal_two}
use Rattle.value_text.proofs.DigitCounts.{laid_in_steps}
use Rattle.value_text.proofs.print.digits.push_few_digits.Goals as goal

pub returns-then-number-lt10-clause-text : goal.returns-then-number-lt10-clause-text
returns-then-number-lt10-clause-text c =
    c.push_digit.ensures.text
    ∙ ap (λ s. take c.args.at c.args.bytes.now ++ s) (sym (decimal_digit c.args.number c.if-number-lt10.true))

pub returns-then-number-lt100-clause-text : goal.returns-then-number-lt100-clause-text
returns-then-number-lt100-clause-text c =
    c.push_two_digits.ensures.text
    ∙ ap (λ s. take c.args.at c.args.bytes.now ++ s)
    (sym (decimal_two c.args.number c.if-number-lt10.false c.if-number-lt100.true))

pub returns-else-number-lt100-clause-text : goal.returns-else-number-lt100-clause-text
returns-else-number-lt100-clause-text c =
    laid_in_steps c.args.number (take c.args.at c.args.bytes.now)
    (take c.push_digit-at.result c.push_digit-at.new.bytes) _ c.if-number-lt100.false c.requires.few
    c.push_digit-at.ensures.text c.push_two_digits-else-number-lt100.ensures.text
