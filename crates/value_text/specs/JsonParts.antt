-- What is before a field in JSON, in the parts that are written one after the other.
use Rattle.std.specs.Prelude.{ℕ, Bool, List, ◌++◌, codes}
use Rattle.value_text.specs.ValueText.{comma}
use Rattle.value_text.specs.JsonText.{json_string, place_key}

-- what is before a field whose name needs no escapes
abbrev pub plain_key : (first : Bool) → (name : List ℕ) → List ℕ
plain_key first name = comma first ++ (codes "\"" ++ (name ++ (codes "\"" ++ codes ":")))

-- what is before a field with a name, and before a nameless one at a place
abbrev pub name_start : (first : Bool) → (name : List ℕ) → List ℕ
name_start first name = comma first ++ (json_string name ++ codes ":")

abbrev pub place_start : (first : Bool) → (place : ℕ) → List ℕ
place_start first place = comma first ++ (place_key place ++ codes ":")
