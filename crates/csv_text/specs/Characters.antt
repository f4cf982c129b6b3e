-- The characters of a text that are printed as they are: those of UTF-8 (RFC 3629) but control characters and the
-- backslash.
use Rattle.std.specs.Prelude.{ℕ, Bool, not, ◌&&◌, ◌||◌, List, ◌==◌, get_or, if◌then◌else◌}
use Rattle.std.specs.Int.{is_in_range}

-- a character of one byte: from the space (32) to `~` (126) but the backslash (92), or a tab (9), line feed (10) or
-- carriage return (13)
abbrev pub is_plain : ℕ → Bool
is_plain byte = (is_in_range 32 126 byte && not (byte == 92)) || ((byte == 9) || ((byte == 10) || (byte == 13)))

-- The second byte of a character by its first one. After 0xe0 and 0xf0 lower ones would be a longer form than needed,
-- and after 0xc2 a control character. After 0xed higher ones would be a surrogate, and after 0xf4 past U+10FFFF.
abbrev pub least_second : (first : ℕ) → ℕ
least_second first =
    if first == 0xC2 then 0xA0 else if first == 0xE0 then 0xA0 else if first == 0xF0 then 0x90 else 0x80

abbrev pub greatest_second : (first : ℕ) → ℕ
greatest_second first = if first == 0xED then 0x9F else if first == 0xF4 then 0x8F else 0xBF

abbrev pub may_follow : (first second : ℕ) → Bool
may_follow first second = is_in_range (least_second first) (greatest_second first) second

-- a byte of a character after its second one
abbrev pub is_later : ℕ → Bool
is_later byte = is_in_range 0x80 0xBF byte

-- how many bytes the character has that begins with these, if it has more than one; 0 if there is none
abbrev pub long_size : (first second third fourth : ℕ) → ℕ
long_size first second third fourth =
    if not (may_follow first second) then 0
    else if is_in_range 0xC2 0xDF first then 2
    else if is_in_range 0xE0 0xEF first && is_later third then 3
    else if is_in_range 0xF0 0xF4 first && (is_later third && is_later fourth) then 4
    else 0

-- how many bytes the character has that is at the start of a text; 0 if none is there. A byte past the end counts as 0,
-- which is in no character.
abbrev pub character_size : List ℕ → ℕ
character_size bytes =
    if is_plain (get_or bytes 0 0) then 1
    else long_size (get_or bytes 0 0) (get_or bytes 1 0) (get_or bytes 2 0) (get_or bytes 3 0)
