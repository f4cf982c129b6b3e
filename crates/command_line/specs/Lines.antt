-- The words that the parser reads: the program's name, and the arguments, of which some are spelled otherwise.
use Rattle.std.specs.Prelude.{◌&&◌, ◌||◌, ◌==◌, Bool, false, ℕ, ◌-◌, nat_lt, List, [], ◌∷◌, ◌++◌, length, take, codes, if◌then◌else◌}
use Rattle.std.specs.List.{slice_index_or}
use Rattle.std.specs.Str.{bytes_eq}
use Rattle.command_line.specs.declared.words.line.WordPlace.{WordPlace}
use Rattle.command_line.specs.declared.words.line.WordPlace.TheVariants as place

-- `help` with a request for help as its last word, which the parser would take for the name of a command
abbrev pub asks_help_of_help : List (List ℕ) → Bool
asks_help_of_help words = nat_lt 1 (length words) && (bytes_eq (slice_index_or words 0 []) (codes "help")
    && (bytes_eq (slice_index_or words (length words - 1) []) (codes "-h")
    || bytes_eq (slice_index_or words (length words - 1) []) (codes "--help")))

abbrev pub without_help_of_help : List (List ℕ) → List (List ℕ)
without_help_of_help words = if asks_help_of_help words then take (length words - 1) words else words

-- a word begins with `-` (45)
abbrev pub begins_with_minus : List ℕ → Bool
begins_with_minus [] = false
begins_with_minus (byte ∷ bytes) = byte == 45

-- where the words are after one more: after `--byte`, after `--`, or elsewhere
abbrev pub place_after : WordPlace → List ℕ → WordPlace
place_after place.Options word = if bytes_eq word (codes "--") then place.Rest else if bytes_eq word (codes "--byte")
    then place.Byte else place.Options
place_after place.Byte word = place.Options
place_after place.Rest word = place.Rest

-- a word that begins with `-` is the value of `--byte` before it, to which it is joined by `=` (61)
abbrev pub spelled : WordPlace → List ℕ → List (List ℕ)
spelled place.Options word = if bytes_eq word (codes "--byte") then [] else word ∷ []
spelled place.Byte word = if begins_with_minus word then (codes "--byte=" ++ word) ∷ [] else codes "--byte" ∷ word ∷ []
spelled place.Rest word = word ∷ []

abbrev pub spelled_end : WordPlace → List (List ℕ)
spelled_end place.Options = []
spelled_end place.Byte = codes "--byte" ∷ []
spelled_end place.Rest = []

abbrev pub spelled_words : WordPlace → List (List ℕ) → List (List ℕ)
spelled_words place [] = spelled_end place
spelled_words place (word ∷ words) = spelled place word ++ spelled_words (place_after place word) words

abbrev pub command_line : List (List ℕ) → List (List ℕ)
command_line words = codes "poke_batch" ∷ spelled_words place.Options (without_help_of_help words)
