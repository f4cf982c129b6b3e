-- The words of a value that is printed in JSON: strings and keys.
use Rattle.std.specs.Prelude.{ℕ, ◌/◌, ◌%◌, List, [], ◌∷◌, ◌++◌, Some, None, ◌==◌, if◌then◌else◌, codes, decimal}
use Rattle.pickle_meaning.specs.Values.{Naming}
use Rattle.text_output.specs.HexDigits.{hex_digit}
use Rattle.value_text.specs.ValueText.{spelled}

-- the escape of a byte, for the character of its number: a short form for these four, else `\u00` and two digits
abbrev pub json_escape : ℕ → List ℕ
json_escape byte =
    if byte == 92 then codes "\\\\"
    else if byte == 34 then codes "\\\""
    else if byte == 9 then codes "\\t"
    else if byte == 10 then codes "\\n"
    else codes "\\u00" ++ hex_digit (byte / 16 % 16) ∷ hex_digit (byte % 16) ∷ []

unfoldable pub json_string : List ℕ → List ℕ
json_string bytes = codes "\"" ++ (spelled json_escape bytes ++ codes "\"")

-- the key of a field without a name: its place among the declared fields, from 0
abbrev pub place_key : ℕ → List ℕ
place_key place = codes "\"" ++ (decimal place ++ codes "\"")

-- the key of a field or an alternative: its name, if it has one
abbrev pub key_text : Naming → (place : ℕ) → List ℕ
key_text None place = place_key place
key_text (Some name) place = json_string name
