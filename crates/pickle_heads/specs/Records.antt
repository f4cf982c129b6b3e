-- What the lines `Records` and `Form of` say.
use Rattle.std.specs.Prelude.{ℕ, Bool, true, false, ◌&&◌, ◌||◌, ◌==◌, not, if◌then◌else◌, List, [], ◌∷◌, Option, Some, None, codes}
use Rattle.std.specs.List.{list_all}
use Rattle.std.specs.Str.{bytes_eq}
use Rattle.pickle_heads.specs.declared.records.Records.{Records}
use Rattle.pickle_heads.specs.Texts.{after, is_letter, is_word, name_of}

-- a type that ends with a list, and the path to the list
pub record Listed : Type 0 where
  pub of : List ℕ
  pub path : List ℕ

abbrev pub list_said : Records → Listed
list_said records = record { of = records.of.now; path = records.path.now }

-- Whether names with a `.` between them end a path: where the first byte of a name is due, or inside a name.
abbrev pub is_path_from : (first : Bool) → List ℕ → Bool
is_path_from first [] = not first
is_path_from true (b ∷ text) = if is_letter b then is_path_from false text else false
is_path_from false (b ∷ text) =
    if b == 46 then is_path_from true text else if is_word b then is_path_from false text else false

-- one or more names, with a `.` before each
abbrev pub is_path : List ℕ → Bool
is_path [] = false
is_path (b ∷ names) = if b == 46 then is_path_from true names else false

abbrev pub listed_at : (of : List ℕ) → Option (List ℕ) → Option Listed
listed_at of None = None
listed_at of (Some path) = if is_path path then Some (record { of = of; path = path }) else None

abbrev pub listed_in : Option (List ℕ × List ℕ) → Option Listed
listed_in None = None
listed_in (Some parts) = listed_at parts.0 (after (codes " ") parts.1)

-- what the text of the line `Records` says, if it is in its form: a type, a blank and a path
abbrev pub records_in : List ℕ → Option Listed
records_in text = listed_in (name_of text)

-- the name of a pickle: letters, digits, `_` and `-`
abbrev pub is_pickle_byte : ℕ → Bool
is_pickle_byte b = is_word b || b == 45

abbrev pub is_pickle_name : List ℕ → Bool
is_pickle_name text = not (bytes_eq text []) && list_all is_pickle_byte text
