use Rattle.std.proofs.Common.{◌∙◌, sym, ap, pos}
use Rattle.value_text.proofs.RowTexts.{json_plain}
use Rattle.csv_text.specs.Quotes.{doubled}
use Rattle.csv_text.proofs.Doubling.{decimal_doubled}
use Rattle.csv_text.proofs.json.DoubledJsonForm.has_plain_bytes.Goals as goal

pub returns : goal.returns
returns c = λ e byte.
    ap doubled
    (json_plain c.args.numbers c.args.ty byte (c.are_digits.ensures.number e) (c.are_digits.ensures.numbers e))
    ∙ sym (decimal_doubled (pos byte))
