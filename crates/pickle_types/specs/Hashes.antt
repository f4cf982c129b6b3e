-- Numbers, as a hasher reads them from their bytes.
use Rattle.std.specs.Prelude.{ℕ, ◌+◌, ◌*◌, ◌%◌, List, [], ◌∷◌}

-- the number of these bytes, the lowest first, with `above` as the digits after them; modulo 2^32
abbrev pub number_of : ℕ → List ℕ → ℕ
number_of above [] = above
number_of above (byte ∷ bytes) = (number_of above bytes * 256 + byte) % 4294967296
