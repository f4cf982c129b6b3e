-- The bits of bytes, and the numbers that bits are.
use Rattle.std.specs.Prelude.{ℕ, zero, suc, ◌+◌, ◌-◌, ◌*◌, ◌/◌, ◌%◌, ◌^◌, ◌<◌, List, [], ◌∷◌, ◌++◌, length, take, drop, reverse, if◌then◌else◌, nat_le, ℤ, pos, ◌-ℤ◌}
use Rattle.std.specs.List.{concat}
use Rattle.bit_space.specs.declared.order.Order.{Order}
use Rattle.bit_space.specs.declared.order.Order.TheVariants.{Big, Little}

-- the last `width` binary digits of n, the most significant first
unfoldable pub binary : ℕ → ℕ → List ℕ
binary zero n = []
binary (suc width) n = n / 2 ^ width % 2 ∷ binary width n

-- the bits of bytes, eight for each, the most significant of each byte first
unfoldable pub bits_of : List ℕ → List ℕ
bits_of [] = []
bits_of (byte ∷ bytes) = binary 8 byte ++ bits_of bytes

-- each digit is 0 or 1
abbrev pub AreDigits : List ℕ → Type 0
AreDigits [] = Unit {0}
AreDigits (d ∷ ds) = (d < 2) × AreDigits ds

-- the value of a numeral, whose first digits have the value n
unfoldable pub numeral_onto : ℕ → List ℕ → ℕ
numeral_onto n [] = n
numeral_onto n (digit ∷ digits) = numeral_onto (2 * n + digit) digits

-- the number that binary digits are, the most significant first
abbrev pub numeral : List ℕ → ℕ
numeral digits = numeral_onto 0 digits

-- at most n + 1 groups: each of 8 bits from the front, and a last one of 8 or fewer
unfoldable pub groups_from : ℕ → List ℕ → List (List ℕ)
groups_from zero bits = bits ∷ []
groups_from (suc n) bits = if nat_le (length bits) 8 then bits ∷ [] else take 8 bits ∷ groups_from n (drop 8 bits)

-- bits cut from the front into groups of 8, and a last group that may be shorter
abbrev pub groups : List ℕ → List (List ℕ)
groups bits = groups_from (length bits) bits

-- the digits of the number that bits are in a byte order, the most significant first: in little-endian the groups are
-- put in reverse order
unfoldable pub digits : Order → List ℕ → List ℕ
digits Big bits = bits
digits Little bits = concat (reverse (groups bits))

-- the unsigned number that bits are in a byte order
unfoldable pub number : Order → List ℕ → ℕ
number order bits = numeral (digits order bits)

-- the signed number that binary digits are: the number of those after the first, less the first times its place value
unfoldable pub signed_numeral : List ℕ → ℤ
signed_numeral [] = pos 0
signed_numeral (sign ∷ rest) = pos (numeral rest) -ℤ pos (sign * 2 ^ length rest)

-- two's complement: the signed number that has the digits of n, which is less than 2 ^ width
abbrev pub twos_complement : (width n : ℕ) → ℤ
twos_complement width n = if nat_le (2 ^ (width - 1)) n then pos n -ℤ pos (2 ^ width) else pos n
