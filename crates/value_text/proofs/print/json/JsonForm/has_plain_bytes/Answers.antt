use Rattle.value_text.proofs.RowTexts.{json_plain}
use Rattle.value_text.proofs.print.json.JsonForm.has_plain_bytes.Goals as goal

pub returns : goal.returns
returns c = λ e byte.
    json_plain c.args.numbers c.args.ty byte (c.are_digits.ensures.number e) (c.are_digits.ensures.numbers e)
