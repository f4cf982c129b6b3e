-- Members of a JSON object. A key has the comma before it, its quotes and the colon.
use Rattle.std.specs.Prelude.{ℕ, List, [], ◌∷◌, ◌++◌, Option, None, Some, decimal}
use Rattle.value_text.specs.JsonText.{json_string}

-- a string, and nothing without a text
abbrev pub text_member : (key text : List ℕ) → List ℕ
text_member key [] = []
text_member key (byte ∷ bytes) = key ++ json_string (byte ∷ bytes)

-- a number, if there is one
abbrev pub number_member : (key : List ℕ) → Option ℕ → List ℕ
number_member key None = []
number_member key (Some number) = key ++ decimal number
