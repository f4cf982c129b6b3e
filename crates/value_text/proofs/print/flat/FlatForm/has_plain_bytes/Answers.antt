use Rattle.value_text.proofs.RowTexts.{flat_plain}
use Rattle.value_text.proofs.print.flat.FlatForm.has_plain_bytes.Goals as goal

pub returns : goal.returns
returns c = λ e byte. rw (c.are_plain.ensures.numbers e, c.are_plain.ensures.number e) (flat_plain byte)
