use Rattle.std.proofs.Common.{rules, ◌≡◌, None}
use Rattle.std.specs.Str.{IsUtf8}
use Rattle.std.specs.Result.{result_ok}
use Rattle.std.proofs.lemmas.Result.{MatchResult-weaker}
use Rattle.command_line.proofs.NumberLaws.{numeral_is_text}
use Rattle.command_line.proofs.OffsetWords.{at_no_ok}
use Rattle.command_line.proofs.numerals.number.Goals as goal

pub returns-in_err-ok : goal.returns-in_err-ok
returns-in_err-ok c =
    let none : result_ok c.from_utf8.result ≡ None = search rules in
    let not_text : ¬ (IsUtf8 c.args.digits.now) = at_no_ok c.from_utf8.result _ _ none
    (MatchResult-weaker c.from_utf8.result c.from_utf8.ensures.cases (λ x p. p) (λ x p. p.0)) in
    rw c.from_residual.ensures (λ p. not_text (numeral_is_text _ _ c.requires.most p.0))
