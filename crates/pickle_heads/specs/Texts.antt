-- Texts in the lines of a head.
use Rattle.std.specs.Prelude.{ℕ, Bool, ◌&&◌, ◌||◌, if◌then◌else◌, ◌==◌, ◌-◌, List, length, take, drop, slice_index, Option, Some, None}
use Rattle.std.specs.List.{prefix_len, before_first, after_first, list_all}
use Rattle.std.specs.Str.{bytes_eq}
use Rattle.std.specs.Char.{is_ascii_alphabetic, is_ascii_alphanumeric}

-- the first line of a text, without its line feed, and the text after it
abbrev pub first_line : List ℕ → List ℕ
first_line text = before_first (λ b. b == 10) text

abbrev pub after_line : List ℕ → List ℕ
after_line text = after_first (λ b. b == 10) text

-- the text after a prefix, if it begins with that
abbrev pub after : (prefix text : List ℕ) → Option (List ℕ)
after prefix text = if bytes_eq (take (length prefix) text) prefix then Some (drop (length prefix) text) else None

-- the text before a suffix, if it ends with that
abbrev pub before : (suffix text : List ℕ) → Option (List ℕ)
before suffix text =
    let size = length text - length suffix in
    if bytes_eq (drop size text) suffix then Some (take size text) else None

-- a byte of a name: a letter, a digit or `_`
abbrev pub is_word : ℕ → Bool
is_word b = is_ascii_alphanumeric b || b == 95

-- the first byte of a name: not a digit
abbrev pub is_letter : ℕ → Bool
is_letter b = is_ascii_alphabetic b || b == 95

abbrev pub begins_name : List ℕ → Bool
begins_name text = is_letter (slice_index text 0)

-- the name that a text begins with, and the text after it
abbrev pub name_of : List ℕ → Option (List ℕ × List ℕ)
name_of text =
    let size = prefix_len is_word text in
    if begins_name text then Some (take size text, drop size text) else None

-- a text that is a name
abbrev pub is_name : List ℕ → Bool
is_name text = begins_name text && list_all is_word text
