use Rattle.value_text.specs.StyledNumbers.{hexadecimal}
use Rattle.text_bounds.proofs.room.hex_count.Goals as goal

pub returns-clause-count : goal.returns-clause-count
unfolding hexadecimal
returns-clause-count c = c.hex_digits.ensures.count
