use Rattle.std.proofs.Common.{rules, sym, ◌∙◌}
use Rattle.command_line.proofs.PathTexts.{name_from_bytes, bytes_from_name}
use Rattle.command_line.proofs.path.is_name.Goals as goal

pub returns-then-not-is_ascii_digit : goal.returns-then-not-is_ascii_digit
returns-then-not-is_ascii_digit c = (
  λ t. name_from_bytes _ c.in-Some.first.now c.in-Some.field-0-1.now (search rules)
      (sym c.is_ascii_digit.ensures.value ∙ c.if-not-is_ascii_digit.true) (c.are_name_bytes.ensures.0 t),
  λ n. c.are_name_bytes.ensures.1 (bytes_from_name _ n),
)
