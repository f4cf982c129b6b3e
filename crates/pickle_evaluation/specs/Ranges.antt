-- How great a number of bits may be.
use Rattle.std.specs.Prelude.{◌<◌, ◌≤◌, ◌^◌, ℤ, unsigned_abs}

-- a number of bits that fits 128 bits with room to spare
abbrev pub IsWide : ℤ → Type 0
IsWide z = unsigned_abs z < 2 ^ 98

-- the bits of an offset: at most 2^64 units of less than 2^32 bits
abbrev pub IsBits : ℤ → Type 0
IsBits z = unsigned_abs z ≤ 2 ^ 96
