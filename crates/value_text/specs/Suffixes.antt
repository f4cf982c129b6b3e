-- The letters after the digits of an integer.
use Rattle.std.specs.Prelude.{ℕ, Bool, true, false, List, [], ◌∷◌, ◌++◌, Option, Some, None, codes}
use Rattle.value_text.specs.declared.print.suffix.Suffix.{Suffix}

-- the letter of an unsigned type
abbrev pub sign_letter : (signed : Bool) → List ℕ
sign_letter true = []
sign_letter false = codes "U"

-- the letter of a width, if it needs one
abbrev pub letter_text : Option ℕ → List ℕ
letter_text None = []
letter_text (Some letter) = letter ∷ []

abbrev pub suffix_text : Suffix → List ℕ
suffix_text suffix = sign_letter suffix.signed ++ letter_text suffix.letter
