-- Where a mapping starts.
use Rattle.std.specs.Prelude.{◌≡◌, ℕ, ◌*◌, ◌-◌, nat_le, if◌then◌else◌, List, ◌∷◌, Option, Some, None}
use Rattle.command_line.specs.Numerals.{IsByteCount}
use Rattle.command_line.specs.OffsetWord.{IsOffsetWord, IsNoOffset, IsNoByteOffset}
use Rattle.command_line.specs.declared.start.Start.{Start}
use Rattle.command_line.specs.declared.start.Start.TheVariants.{Bit, BytesFromEnd}

-- the bit in a file of so many bytes; none before the file's first
abbrev pub start_bit : Start → ℕ → Option ℕ
start_bit (Bit bit) length = Some bit
start_bit (BytesFromEnd bytes) length = if nat_le bytes length then Some (8 * (length - bytes)) else None

-- the place that a number of bytes names; after a `-` (45) it is counted from the file's end
abbrev pub NamesByte : List ℕ → Start → Type 0
NamesByte word (Bit bit) = (bytes : ℕ) × (bit ≡ 8 * bytes) × IsByteCount word bytes
NamesByte word (BytesFromEnd bytes) = (count : List ℕ) × (word ≡ 45 ∷ count) × IsByteCount count bytes

-- the place that an offset names
abbrev pub NamesBit : List ℕ → Start → Type 0
NamesBit word (Bit bit) = IsOffsetWord word bit
NamesBit word (BytesFromEnd bytes) = ⊥

-- the place that a number of bytes names if it was given, and else an offset
abbrev pub NamesStart : Option (List ℕ) → List ℕ → Start → Type 0
NamesStart (Some byte) offset start = NamesByte byte start
NamesStart None offset start = NamesBit offset start

-- such an argument names no place
abbrev pub IsNoStart : Option (List ℕ) → List ℕ → Type 0
IsNoStart (Some byte) offset = (start : Start) → ¬ (NamesByte byte start)
IsNoStart None offset = IsNoOffset offset

-- the place that a number of bytes names if it was given, and else the file's first bit
abbrev pub NamesByteIfAny : Option (List ℕ) → Start → Type 0
NamesByteIfAny None start = start ≡ Bit 0
NamesByteIfAny (Some word) start = NamesByte word start

-- it was given, and names no place
abbrev pub IsNoByteIfAny : Option (List ℕ) → Type 0
IsNoByteIfAny None = ⊥
IsNoByteIfAny (Some word) = (start : Start) → ¬ (NamesByte word start)

-- the number of bytes that an argument is, if it was given
abbrev pub NamesWindow : Option (List ℕ) → Option ℕ → Type 0
NamesWindow None bytes = bytes ≡ None
NamesWindow (Some word) None = ⊥
NamesWindow (Some word) (Some bytes) = IsByteCount word bytes

-- it was given, and is none
abbrev pub IsNoWindow : Option (List ℕ) → Type 0
IsNoWindow None = ⊥
IsNoWindow (Some word) = (bytes : ℕ) → ¬ (IsByteCount word bytes)

-- a number of bytes if it was given, and else an offset of whole bytes
abbrev pub NamesBytes : Option (List ℕ) → List ℕ → ℕ → Type 0
NamesBytes (Some count) offset bytes = IsByteCount count bytes
NamesBytes None offset bytes = IsOffsetWord offset (8 * bytes)

-- such an argument names no number of bytes
abbrev pub IsNoBytes : Option (List ℕ) → List ℕ → Type 0
IsNoBytes (Some count) offset = (bytes : ℕ) → ¬ (IsByteCount count bytes)
IsNoBytes None offset = IsNoByteOffset offset
