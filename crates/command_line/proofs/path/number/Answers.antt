use Rattle.std.proofs.Common.{◌≡◌, decimal, ap, sym, ◌∙◌}
use Rattle.std.proofs.lemmas.Bool.Decides.{not_from_Decides}
use Rattle.std.proofs.lemmas.Slice.Eq.{bytes_eq-Decides}
use Rattle.command_line.proofs.PathTexts.{no_decimal, value_of_decimal}
use Rattle.command_line.proofs.path.number.Goals as goal

pub returns-in_err-number-clause-none : goal.returns-in_err-number-clause-none
returns-in_err-number-clause-none c =
    rw c.from_residual.ensures (λ n lt. no_decimal c.args.digits.now (λ h. c.in_err-number.ensures h) n lt)

pub returns-else-eq-clause-none : goal.returns-else-eq-clause-none
returns-else-eq-clause-none c = λ n lt e.
    let is = value_of_decimal c.args.digits.now n lt e in
    let same : decimal c.in_ok-number.number ≡ c.args.digits.now = ap decimal (c.in_ok-number.ensures.1 ∙ sym is) ∙ e in
    let equal = c.as_bytes.ensures.value ∙ c.format.ensures.text ∙ same in
    not_from_Decides _ (bytes_eq-Decides c.as_bytes.result.now c.args.digits.now)
    (sym c.eq.ensures ∙ c.if-eq.false) equal
