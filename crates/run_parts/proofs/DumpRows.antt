-- Dumps worked out by hand, against the definition.
use Rattle.std.proofs.Common.{◌≡◌, refl, true, false, codes, [], ◌∷◌}
use Rattle.run_parts.specs.DumpText.{dump_text, ruler_text, lines_text, line_text, place_text, columns}

-- the last byte of a second line
one_byte : dump_text (codes "0123456789abcdefg") 16 1 false
    ≡ codes "00000010: 67                                       g\n"
unfolding dump_text ruler_text lines_text line_text place_text columns
one_byte = refl

-- a whole line
whole_line : dump_text (codes "0123456789abcdefg") 0 16 false
    ≡ codes "00000000: 3031 3233 3435 3637 3839 6162 6364 6566  0123456789abcdef\n"
unfolding dump_text ruler_text lines_text line_text place_text columns
whole_line = refl

-- a line that is not whole, under the ruler
hello : dump_text (codes "Hello") 0 128 true ≡ codes
    "76543210  0011 2233 4455 6677 8899 aabb ccdd eeff  0123456789ABCDEF\n00000000: 4865 6c6c 6f                             Hello\n"
unfolding dump_text ruler_text lines_text line_text place_text columns
hello = refl

-- nothing from the end on but the ruler
past_end : dump_text (codes "0123456789abcdefg") 17 128 true
    ≡ codes "76543210  0011 2233 4455 6677 8899 aabb ccdd eeff  0123456789ABCDEF\n"
unfolding dump_text ruler_text lines_text line_text place_text columns
past_end = refl

-- nothing of no size
no_size : dump_text (codes "0123456789abcdefg") 3 0 false ≡ codes ""
unfolding dump_text ruler_text lines_text line_text place_text columns
no_size = refl

-- bytes that are no plain text, and those at its ends
unplain : line_text 4095 (0 ∷ 31 ∷ 32 ∷ 126 ∷ 127 ∷ 255 ∷ [])
    ≡ codes "00000fff: 001f 207e 7fff                           .. ~..\n"
unfolding line_text place_text columns
unplain = refl
