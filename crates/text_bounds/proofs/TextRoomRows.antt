-- Bounds on printed values, worked out by hand, against the definition.
use Rattle.std.proofs.Common.{◌≡◌, ℕ, refl, false, true, codes, Some, None}
use Rattle.std.specs.Fmt.{digits}
use Rattle.pickle_types.specs.Types.{PokeType, IntegerOf, OffsetOf, StringOf, ArrayOf, StructOf, UnionOf, Unbounded, FieldThen, NoFields, PartThen, NoParts}
use Rattle.pickle_types.specs.Bounds.{least_width}
use Rattle.text_output.specs.declared.mode.Mode.TheVariants.{Flat, Tree, Json, Lines}
use Rattle.text_output.specs.declared.style.Style.{Style}
use Rattle.text_output.specs.declared.style.Numbers.TheVariants.{Decimal, Hexadecimal, Digits}
use Rattle.text_output.specs.declared.style.Chars.TheVariants as chars
use Rattle.text_output.specs.Styles.{plain}
use Rattle.poke_batch.specs.ValueText.{integer_text}
use Rattle.poke_batch.specs.JsonText.{json_string}
use Rattle.value_text.specs.StyledNumbers.{hexadecimal, hex_integer, unit_in, offset_in, quoted_hex, json_offset_in}
use Rattle.text_bounds.specs.TextRoom.{size_of, most_text}

abbrev unsigned : ℕ → PokeType
unsigned width = IntegerOf (record { width = width; signed = false })

abbrev signed : ℕ → PokeType
signed width = IntegerOf (record { width = width; signed = true })

-- 255UB and a line feed
a_byte : most_text plain Flat (unsigned 8) 80 ≡ 6
unfolding most_text size_of integer_text digits
a_byte = refl

-- -128B and a line feed
a_signed_byte : most_text plain Tree (signed 8) 80 ≡ 6
unfolding most_text size_of integer_text digits
a_signed_byte = refl

-- (int<12>) -2048
a_cast : most_text plain Flat (signed 12) 80 ≡ 16
unfolding most_text size_of integer_text digits
a_cast = refl

-- 255UB#B
an_offset : most_text plain Flat (OffsetOf (record { width = 8; signed = false }) 8) 80 ≡ 8
unfolding most_text size_of integer_text offset_in unit_in digits
an_offset = refl

-- two quotes, nine bytes of four each, and a line feed
a_string : most_text plain Flat StringOf 80 ≡ 39
unfolding most_text size_of
a_string = refl

-- [255UB,255UB] with a comma for each element, and one element more than fits
an_array : most_text plain Flat (ArrayOf (unsigned 8) Unbounded) 16 ≡ 21
unfolding most_text size_of least_width integer_text digits
an_array = refl

-- [3], and three lines as `  [3]=255UB`
a_tree_of_elements : most_text plain Tree (ArrayOf (unsigned 8) Unbounded) 16 ≡ 40
unfolding most_text size_of least_width integer_text digits
a_tree_of_elements = refl

abbrev pair : PokeType
pair = StructOf (Some (codes "Pair")) false (FieldThen (Some (codes "a")) None (unsigned 8) None None None
    (FieldThen None None (unsigned 32) None None None NoFields))

-- Pair {,a=255UB,4294967295U} and a line feed
a_struct : most_text plain Flat pair 40 ≡ 28
unfolding most_text size_of integer_text digits
a_struct = refl

-- Pair, `  a=255UB` and `  4294967295U`, each with a line feed
a_tree : most_text plain Tree pair 40 ≡ 29
unfolding most_text size_of integer_text digits
a_tree = refl

-- `struct`, then the three lines of Pair with two more blanks each, the first with `p=`
a_deeper_tree : most_text plain Tree
    (StructOf None false (FieldThen (Some (codes "p")) None pair None None None NoFields)) 40 ≡ 44
unfolding most_text size_of integer_text digits
a_deeper_tree = refl

-- union {b=4294967295U}, of which the longer alternative counts
a_union : most_text plain Flat (UnionOf None
    (PartThen (Some (codes "a")) None (unsigned 8) None (PartThen (Some (codes "b")) None (unsigned 32) None NoParts)))
    40 ≡ 23
unfolding most_text size_of integer_text digits
a_union = refl

-- {,"a":255,"1":4294967295} and a line feed
a_json_struct : most_text plain Json pair 40 ≡ 26
unfolding most_text size_of json_string digits
a_json_struct = refl

-- {"magnitude":255,"unit":8} and a line feed
a_json_offset : most_text plain Json (OffsetOf (record { width = 8; signed = false }) 8) 80 ≡ 27
unfolding most_text size_of json_offset_in digits
a_json_offset = refl

-- two quotes, nine bytes of six each, and a line feed
a_json_string : most_text plain Json StringOf 80 ≡ 57
unfolding most_text size_of
a_json_string = refl

-- `.a`, 40 bits at most as a start, 8 bits and 255UB, then the same of `.1` with 32 bits and 4294967295U; and the dot
-- of a path
lines_of_a_struct : most_text plain Lines pair 40 ≡ 44
unfolding most_text size_of integer_text digits
lines_of_a_struct = refl

-- ---- in a style

abbrev hexadecimal_style : Style
hexadecimal_style = record { numbers = Hexadecimal; chars = chars.Numbers; elements = None }

abbrev digits_style : Style
digits_style = record { numbers = Digits; chars = chars.Numbers; elements = None }

abbrev cut_style : ℕ → Style
cut_style most = record { numbers = Decimal; chars = chars.Numbers; elements = Some most }

abbrev char_style : Style
char_style = record { numbers = Decimal; chars = chars.Text; elements = None }

-- (int<8>) -0x80 and a line feed
a_hexadecimal_byte : most_text hexadecimal_style Flat (signed 8) 80 ≡ 15
unfolding most_text size_of hex_integer hexadecimal digits
a_hexadecimal_byte = refl

-- {"magnitude":"0xff","unit":8} and a line feed
a_hexadecimal_offset : most_text hexadecimal_style Json (OffsetOf (record { width = 8; signed = false }) 8) 80 ≡ 30
unfolding most_text size_of json_offset_in quoted_hex hexadecimal digits
a_hexadecimal_offset = refl

-- -128 and a line feed
a_byte_of_digits : most_text digits_style Flat (signed 8) 80 ≡ 5
unfolding most_text size_of digits
a_byte_of_digits = refl

-- [255UB,..+3] with a comma for the element, and a line feed
a_cut_array : most_text (cut_style 1) Flat (ArrayOf (unsigned 8) Unbounded) 16 ≡ 14
unfolding most_text size_of least_width integer_text digits
a_cut_array = refl

-- [3], and the lines `  [3]=255UB` and `  ..+3`
a_cut_tree : most_text (cut_style 1) Tree (ArrayOf (unsigned 8) Unbounded) 16 ≡ 23
unfolding most_text size_of least_width integer_text digits
a_cut_tree = refl

-- [255,{"..":3}] with a comma for the element, and a line feed
a_cut_list : most_text (cut_style 1) Json (ArrayOf (unsigned 8) Unbounded) 16 ≡ 16
unfolding most_text size_of least_width digits
a_cut_list = refl

-- `[3]`, 16 bits at most as a start, 8 bits and 255UB; the same of `[3..]` with 16 bits and `..+3`; and the dot of a
-- path
lines_of_a_cut_array : most_text (cut_style 1) Lines (ArrayOf (unsigned 8) Unbounded) 16 ≡ 41
unfolding most_text size_of least_width integer_text digits
lines_of_a_cut_array = refl

-- two quotes, three bytes of six each, and a line feed
a_text_of_chars : most_text char_style Json (ArrayOf (unsigned 8) Unbounded) 16 ≡ 21
unfolding most_text size_of least_width digits
a_text_of_chars = refl
