-- JSON whose double quotes are each written twice.
use Rattle.std.specs.Prelude.{ℕ, Bool, List, ◌++◌, codes}
use Rattle.value_text.specs.ValueText.{comma}
use Rattle.value_text.specs.JsonText.{json_string, place_key}
use Rattle.value_text.specs.Notation.{Notation, json}
use Rattle.csv_text.specs.Quotes.{doubled}

abbrev pub doubled_json : Notation
doubled_json = record {
  integer = λ numbers type number. doubled (json.integer numbers type number);
  offset = λ numbers type unit magnitude. doubled (json.offset numbers type unit magnitude);
  string = λ bytes. doubled (json.string bytes);
  title = λ sort name. doubled (json.title sort name);
  opens = doubled json.opens;
  key = λ name place. doubled (json.key name place);
  more = λ left. doubled (json.more left);
}

-- what is before a field with a name, and before a nameless one at a place
abbrev pub name_start : (first : Bool) → (name : List ℕ) → List ℕ
name_start first name = comma first ++ doubled (json_string name ++ codes ":")

abbrev pub place_start : (first : Bool) → (place : ℕ) → List ℕ
place_start first place = comma first ++ doubled (place_key place ++ codes ":")
