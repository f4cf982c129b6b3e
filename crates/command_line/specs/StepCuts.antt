-- Where the steps of a path begin.
use Rattle.std.specs.Prelude.{◌≡◌, ◌<◌, ◌==◌, ◌||◌, ℕ, Bool, true, false, List, [], ◌∷◌, length, slice_index}

-- a `.` or a `[` begins a step
abbrev pub is_mark : ℕ → Bool
is_mark byte = (byte == 46) || (byte == 91)

-- the place of the first byte that begins a step
abbrev pub IsFirstMark : List ℕ → ℕ → Type 0
IsFirstMark bytes place = (place < length bytes) × (is_mark (slice_index bytes place) ≡ true)
    × ((k : ℕ) → k < place → is_mark (slice_index bytes k) ≡ false)

-- after a step there is nothing, or the next one begins
abbrev pub MayFollow : List ℕ → Type 0
MayFollow [] = Unit {0}
MayFollow (byte ∷ bytes) = is_mark byte ≡ true
