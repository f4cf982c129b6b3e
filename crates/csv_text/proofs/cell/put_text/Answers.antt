use Rattle.std.proofs.Common.{◌∙◌, sym}
use Rattle.csv_text.specs.TextBytes.{text_bytes}
use Rattle.csv_text.proofs.Doubling.{puts_as}
use Rattle.csv_text.proofs.Plain.{cell_quoted, cell_plain}
use Rattle.csv_text.proofs.cell.put_text.Goals as goal

pub returns-then-needs_quotes : goal.returns-then-needs_quotes
returns-then-needs_quotes g c =
    puts_as (cell_quoted (text_bytes c.args.text) (sym c.needs_quotes.ensures ∙ c.if-needs_quotes.true))
    c.put_quoted.ensures

pub returns-else-needs_quotes : goal.returns-else-needs_quotes
returns-else-needs_quotes g c =
    puts_as (cell_plain (text_bytes c.args.text) (sym c.needs_quotes.ensures ∙ c.if-needs_quotes.false))
    c.put_escaped.ensures
