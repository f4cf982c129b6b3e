-- Numbers side by side, each in as many whole bytes as its width needs.
use Rattle.std.specs.Prelude.{ℕ, zero, suc, ◌+◌, ◌*◌, ◌/◌, ◌%◌, List, [], ◌∷◌, ◌++◌, take, drop, length}

-- how many bytes a number of `width` bits takes
abbrev pub bytes_for : (width : ℕ) → ℕ
bytes_for width = (width + 7) / 8

-- the bytes of a number, the lowest first
abbrev pub number_bytes : (count n : ℕ) → List ℕ
number_bytes zero n = []
number_bytes (suc count) n = n % 256 ∷ number_bytes count (n / 256)

-- the number that bytes are, the lowest byte first
abbrev pub bytes_number : List ℕ → ℕ
bytes_number [] = 0
bytes_number (b ∷ bytes) = b + 256 * bytes_number bytes

-- numbers of `size` bytes each, side by side
abbrev pub packed : (size : ℕ) → List ℕ → List ℕ
packed size [] = []
packed size (n ∷ ns) = number_bytes size n ++ packed size ns

-- the first `count` numbers of `size` bytes each
abbrev pub unpacked : (size count : ℕ) → List ℕ → List ℕ
unpacked size zero bytes = []
unpacked size (suc count) bytes = bytes_number (take size bytes) ∷ unpacked size count (drop size bytes)

-- the numbers of `width` bits each that bytes hold
abbrev pub numbers_in : (width : ℕ) → List ℕ → List ℕ
numbers_in width bytes = unpacked (bytes_for width) (length bytes / bytes_for width) bytes
