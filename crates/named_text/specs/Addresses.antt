-- The texts of addresses and identifiers.
use Rattle.std.specs.Prelude.{ℕ, ◌+◌, ◌*◌, ◌/◌, ◌%◌, Bool, ◌==◌, nat_lt, if◌then◌else◌, List, [], ◌∷◌, ◌++◌, take, drop, slice_index, codes, decimal}
use Rattle.std.specs.List.{flat_map, prefix_len}
use Rattle.named_text.specs.declared.ipv6.Run.{Run}
use Rattle.named_text.specs.Digits.{hex_digit, hex_byte, hex_bytes}

-- four bytes in decimal digits, with dots between
abbrev pub ipv4_text : List ℕ → List ℕ
ipv4_text bytes =
    decimal (slice_index bytes 0) ++ codes "." ++ decimal (slice_index bytes 1) ++ codes "."
    ++ decimal (slice_index bytes 2) ++ codes "." ++ decimal (slice_index bytes 3)

-- six bytes in hexadecimal digits, with colons between
abbrev pub mac_text : List ℕ → List ℕ
mac_text bytes =
    hex_byte (slice_index bytes 0) ++ codes ":" ++ hex_byte (slice_index bytes 1) ++ codes ":"
    ++ hex_byte (slice_index bytes 2) ++ codes ":" ++ hex_byte (slice_index bytes 3) ++ codes ":"
    ++ hex_byte (slice_index bytes 4) ++ codes ":" ++ hex_byte (slice_index bytes 5)

-- sixteen bytes in hexadecimal digits, in parts of 4, 2, 2, 2 and 6 bytes with hyphens between
unfoldable pub uuid_text : List ℕ → List ℕ
uuid_text bytes =
    hex_bytes (take 4 bytes) ++ codes "-" ++ hex_bytes (take 2 (drop 4 bytes)) ++ codes "-"
    ++ hex_bytes (take 2 (drop 6 bytes)) ++ codes "-" ++ hex_bytes (take 2 (drop 8 bytes)) ++ codes "-"
    ++ hex_bytes (take 6 (drop 10 bytes))

-- sixteen bytes with those of the first three parts, of 4, 2 and 2 bytes, in the opposite order
abbrev pub mixed : List ℕ → List ℕ
mixed bytes =
    slice_index bytes 3 ∷ slice_index bytes 2 ∷ slice_index bytes 1 ∷ slice_index bytes 0
    ∷ slice_index bytes 5 ∷ slice_index bytes 4 ∷ slice_index bytes 7 ∷ slice_index bytes 6
    ∷ slice_index bytes 8 ∷ slice_index bytes 9 ∷ slice_index bytes 10 ∷ slice_index bytes 11
    ∷ slice_index bytes 12 ∷ slice_index bytes 13 ∷ slice_index bytes 14 ∷ slice_index bytes 15 ∷ []

-- the group of two bytes at a place
abbrev pub group_at : List ℕ → ℕ → ℕ
group_at bytes at = slice_index bytes at * 256 + slice_index bytes (at + 1)

-- the eight groups of sixteen bytes
abbrev pub groups : List ℕ → List ℕ
groups bytes =
    group_at bytes 0 ∷ group_at bytes 2 ∷ group_at bytes 4 ∷ group_at bytes 6
    ∷ group_at bytes 8 ∷ group_at bytes 10 ∷ group_at bytes 12 ∷ group_at bytes 14 ∷ []

-- a group in hexadecimal digits, without zeros before them
abbrev pub group_text : ℕ → List ℕ
group_text n =
    if nat_lt n 16 then hex_digit n ∷ []
    else if nat_lt n 256 then hex_byte n
    else if nat_lt n 4096 then hex_digit (n / 256) ∷ hex_byte (n % 256)
    else hex_byte (n / 256) ++ hex_byte (n % 256)

-- groups with colons between
abbrev pub colon_group : ℕ → List ℕ
colon_group n = codes ":" ++ group_text n

abbrev pub groups_text : List ℕ → List ℕ
groups_text [] = []
groups_text (n ∷ ns) = group_text n ++ flat_map colon_group ns

abbrev pub is_zero : ℕ → Bool
is_zero n = n == 0

abbrev pub longer : (here : ℕ) → Run → Run
longer here later = if nat_lt here later.len then record { start = later.start + 1; len = later.len }
    else record { start = 0; len = here }

-- the longest run of zeros, and the first of those that are as long
abbrev pub longest : List ℕ → Run
longest [] = record { start = 0; len = 0 }
longest (n ∷ ns) = longer (prefix_len is_zero (n ∷ ns)) (longest ns)

-- groups with `::` for a run of two zeros or more
abbrev pub short_text : Run → List ℕ → List ℕ
short_text run ns =
    if nat_lt run.len 2 then groups_text ns
    else groups_text (take run.start ns) ++ codes "::" ++ groups_text (drop (run.start + run.len) ns)

abbrev pub ipv6_text : List ℕ → List ℕ
ipv6_text bytes = short_text (longest (groups bytes)) (groups bytes)
