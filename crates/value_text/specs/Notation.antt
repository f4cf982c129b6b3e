-- How values are written on one line.
use Rattle.std.specs.Prelude.{ℕ, ℤ, List, [], ◌++◌, codes}
use Rattle.pickle_types.specs.declared.integer.IntegerType.{IntegerType}
use Rattle.text_output.specs.declared.style.Numbers.{Numbers}
use Rattle.pickle_meaning.specs.Values.{Naming, Label}
use Rattle.value_store.specs.Labels.{member_name}
use Rattle.value_text.specs.ValueText.{string_text, title_text, name_text}
use Rattle.value_text.specs.JsonText.{json_string, key_text}
use Rattle.value_text.specs.StyledNumbers.{integer_in, offset_in, json_number, json_offset_in}
use Rattle.value_text.specs.CutArrays.{more_text, more_object}

-- The elements of an array are between brackets, the parts of a struct or a union between braces, and commas are
-- between them. A notation says the rest.
pub record Notation : Type 0 where
  pub integer : Numbers → IntegerType → ℤ → List ℕ
  pub offset : Numbers → IntegerType → (unit : ℕ) → ℤ → List ℕ
  pub string : List ℕ → List ℕ
  -- what is before the braces: the type of a struct or a union has a name, or only the word for its sort
  pub title : (sort : List ℕ) → Naming → List ℕ
  -- the brace before the parts
  pub opens : List ℕ
  -- what is before the field at a place, or before an alternative
  pub key : Naming → (place : ℕ) → List ℕ
  -- what stands for so many elements that are left out
  pub more : (left : ℕ) → List ℕ

-- numbers with their types, and names before the braces and before fields
abbrev pub flat : Notation
flat = record {
  integer = integer_in;
  offset = offset_in;
  string = string_text;
  title = title_text;
  opens = codes " {";
  key = λ name place. name_text name;
  more = more_text;
}

-- JSON has objects for structs, unions, offsets, and elements that are left out
abbrev pub json : Notation
json = record {
  integer = λ numbers type number. json_number numbers number;
  offset = λ numbers type unit magnitude. json_offset_in numbers magnitude unit;
  string = json_string;
  title = λ sort name. [];
  opens = codes "{";
  key = λ name place. key_text name place ++ codes ":";
  more = more_object;
}

-- what is before the fields of a struct, or before the alternative of a union
abbrev pub keys : Notation → Label → (place : ℕ) → List ℕ
keys notation label = λ place. notation.key (member_name label place) place

-- elements have no keys
abbrev pub no_key : (place : ℕ) → List ℕ
no_key = λ place. []
