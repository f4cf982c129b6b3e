use Rattle.csv_text.proofs.Characters.{has_size, has_character}
use Rattle.csv_text.proofs.laws.characters_are_utf8.Goals as goal

pub returns-clause-size : goal.returns-clause-size
returns-clause-size c = has_size

pub returns-clause-only : goal.returns-clause-only
returns-clause-only c = has_character
