-- The quotes around a cell of CSV (RFC 4180).
use Rattle.std.specs.Prelude.{ℕ, Bool, true, false, ◌||◌, List, [], ◌∷◌, ◌++◌, ◌==◌, if◌then◌else◌, codes}

-- a comma, a double quote, a carriage return or a line feed
abbrev pub is_special : ℕ → Bool
is_special byte = (byte == 44) || ((byte == 34) || ((byte == 13) || (byte == 10)))

abbrev pub has_special : List ℕ → Bool
has_special [] = false
has_special (byte ∷ bytes) = is_special byte || has_special bytes

-- a text that isn't told from an absent one, or whose bytes would end its cell
abbrev pub needs_quotes : List ℕ → Bool
needs_quotes [] = true
needs_quotes (byte ∷ bytes) = has_special (byte ∷ bytes)

-- each double quote twice
abbrev pub doubled_byte : ℕ → List ℕ
doubled_byte byte = if byte == 34 then codes "\"\"" else byte ∷ []

abbrev pub doubled : List ℕ → List ℕ
doubled [] = []
doubled (byte ∷ bytes) = doubled_byte byte ++ doubled bytes

abbrev pub in_quotes : List ℕ → List ℕ
in_quotes text = codes "\"" ++ (doubled text ++ codes "\"")

-- a text as a cell
abbrev pub cell_text : List ℕ → List ℕ
cell_text text = if needs_quotes text then in_quotes text else text
