-- Numbers worked out by hand, as the definitions give them.
use Rattle.std.proofs.Common.{◌≡◌, [], ◌∷◌, take, refl}
use Rattle.std.specs.Prelude.{pos, negsuc, slice_range}
use Rattle.bit_space.specs.declared.order.Order.TheVariants.{Big, Little}
use Rattle.bit_space.specs.Bits.{binary, bits_of, numeral_onto, groups_from, digits, number, twos_complement}

-- the bits 0011 0100 0001, in either order
big_of_12 : number Big (take 12 (bits_of (0x34 ∷ 0x12 ∷ []))) ≡ 833
unfolding binary bits_of numeral_onto groups_from digits number
big_of_12 = refl

little_of_12 : number Little (take 12 (bits_of (0x34 ∷ 0x12 ∷ []))) ≡ 308
unfolding binary bits_of numeral_onto groups_from digits number
little_of_12 = refl

bytes_reversed : number Little (bits_of (0x12 ∷ 0x34 ∷ [])) ≡ 13330
unfolding binary bits_of numeral_onto groups_from digits number
bytes_reversed = refl

at_bit_4 : number Big (slice_range (bits_of (0x01 ∷ 0x23 ∷ 0x45 ∷ 0x67 ∷ 0x89 ∷ 0xab ∷ 0xcd ∷ 0xef ∷ 0x01 ∷ [])) 4 68)
    ≡ 1311768467463790320
unfolding binary bits_of numeral_onto groups_from digits number
at_bit_4 = refl

-- the short group of 9 bits is the most significant
short_group : digits Little (1 ∷ 0 ∷ 0 ∷ 0 ∷ 0 ∷ 0 ∷ 0 ∷ 0 ∷ 1 ∷ []) ≡ 1 ∷ 1 ∷ 0 ∷ 0 ∷ 0 ∷ 0 ∷ 0 ∷ 0 ∷ 0 ∷ []
unfolding groups_from digits
short_group = refl

minus_two : twos_complement 16 (number Big (bits_of (0xff ∷ 0xfe ∷ []))) ≡ negsuc 1
unfolding binary bits_of numeral_onto digits number
minus_two = refl

minus_two_little : twos_complement 16 (number Little (bits_of (0xfe ∷ 0xff ∷ []))) ≡ negsuc 1
unfolding binary bits_of numeral_onto groups_from digits number
minus_two_little = refl

largest_of_4 : twos_complement 4 (number Big (0 ∷ 1 ∷ 1 ∷ 1 ∷ [])) ≡ pos 7
unfolding numeral_onto digits number
largest_of_4 = refl

least_of_1 : twos_complement 1 (number Little (1 ∷ [])) ≡ negsuc 0
unfolding numeral_onto groups_from digits number
least_of_1 = refl
