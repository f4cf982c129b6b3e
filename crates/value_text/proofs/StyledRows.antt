-- Values and their printed forms in styles, worked out by hand, against the definitions.
use Rattle.std.proofs.Common.{◌≡◌, ◌+◌, ℕ, pos, negsuc, refl, true, false, codes, List, [], ◌∷◌, Some, None}
use Rattle.std.specs.Fmt.{digits}
use Rattle.pickle_types.specs.declared.integer.IntegerType.{IntegerType}
use Rattle.pickle_meaning.specs.Values.{Value, Mapped, Label, IntegerLabel, OffsetLabel, ArrayLabel, StructLabel, NoMembers, MemberThen}
use Rattle.text_output.specs.declared.mode.Mode.TheVariants.{Flat, Tree, Json, Lines}
use Rattle.text_output.specs.declared.style.Style.{Style}
use Rattle.text_output.specs.declared.style.Numbers.TheVariants.{Decimal, Hexadecimal, Digits}
use Rattle.text_output.specs.declared.style.Chars.TheVariants as char_form
use Rattle.value_text.specs.ValueText.{integer_text}
use Rattle.value_text.specs.CharTexts.{trimmed, chars_in, has_chars}
use Rattle.value_text.specs.StyledNumbers.{hex_integer, hexadecimal, integer_in, unit_in, offset_in, quoted_hex, json_offset_in}
use Rattle.value_text.specs.Styled.{styled}

abbrev unsigned_type : ℕ → IntegerType
unsigned_type width = record { width = width; signed = false }

abbrev signed_type : ℕ → IntegerType
signed_type width = record { width = width; signed = true }

abbrev hexadecimals : Style
hexadecimals = record { numbers = Hexadecimal; chars = char_form.Numbers; elements = None }

abbrev bare_digits : Style
bare_digits = record { numbers = Digits; chars = char_form.Numbers; elements = None }

abbrev first : ℕ → Style
first most = record { numbers = Decimal; chars = char_form.Numbers; elements = Some most }

abbrev leaf : Label → Value
leaf label = Mapped label 0 0 NoMembers

abbrev byte_at : (start n : ℕ) → Value
byte_at start n = Mapped (IntegerLabel (pos n) (unsigned_type 8)) start (start + 8) NoMembers

abbrev three_bytes : Value
three_bytes = Mapped ArrayLabel 16 40
    (MemberThen (byte_at 16 1) (MemberThen (byte_at 24 2) (MemberThen (byte_at 32 3) NoMembers)))

abbrev packet : Value
packet = Mapped (StructLabel (Some (codes "Packet")) (Some (codes "size") ∷ Some (codes "data") ∷ [])) 8 40
    (MemberThen (byte_at 8 3) (MemberThen three_bytes NoMembers))

-- ---- hexadecimal numbers

hex_zero : hex_integer (unsigned_type 32) (pos 0) ≡ codes "0x0U"
unfolding hex_integer hexadecimal
hex_zero = refl

hex_byte : hex_integer (unsigned_type 8) (pos 127) ≡ codes "0x7fUB"
unfolding hex_integer hexadecimal
hex_byte = refl

hex_word : hex_integer (unsigned_type 32) (pos 308) ≡ codes "0x134U"
unfolding hex_integer hexadecimal
hex_word = refl

hex_negative : hex_integer (signed_type 16) (negsuc 4) ≡ codes "-0x5H"
unfolding hex_integer hexadecimal
hex_negative = refl

hex_plain_suffix : hex_integer (signed_type 32) (negsuc 254) ≡ codes "-0xff"
unfolding hex_integer hexadecimal
hex_plain_suffix = refl

-- the suffix `B` would be one more digit
hex_signed_byte : hex_integer (signed_type 8) (pos 31) ≡ codes "(int<8>) 0x1f"
unfolding hex_integer hexadecimal digits
hex_signed_byte = refl

hex_lowest_byte : hex_integer (signed_type 8) (negsuc 127) ≡ codes "(int<8>) -0x80"
unfolding hex_integer hexadecimal digits
hex_lowest_byte = refl

hex_odd_width : hex_integer (unsigned_type 12) (pos 308) ≡ codes "(uint<12>) 0x134"
unfolding hex_integer hexadecimal digits
hex_odd_width = refl

hex_nibble : hex_integer (unsigned_type 4) (pos 10) ≡ codes "0xaUN"
unfolding hex_integer hexadecimal
hex_nibble = refl

hex_largest : hex_integer (unsigned_type 64) (pos 18446744073709551615) ≡ codes "0xffffffffffffffffUL"
unfolding hex_integer hexadecimal
hex_largest = refl

hex_lowest : hex_integer (signed_type 64) (negsuc 9223372036854775807) ≡ codes "-0x8000000000000000L"
unfolding hex_integer hexadecimal
hex_lowest = refl

hex_offset : offset_in Hexadecimal (unsigned_type 32) 4096 (pos 2048) ≡ codes "0x800U#4096"
unfolding offset_in unit_in hex_integer hexadecimal digits
hex_offset = refl

hex_json : styled hexadecimals Json (leaf (IntegerLabel (pos 446) (unsigned_type 32))) ≡ codes "\"0x1be\"\n"
unfolding quoted_hex hexadecimal
hex_json = refl

hex_json_negative : styled hexadecimals Json (leaf (IntegerLabel (negsuc 4) (signed_type 32))) ≡ codes "\"-0x5\"\n"
unfolding quoted_hex hexadecimal
hex_json_negative = refl

hex_json_offset : styled hexadecimals Json (leaf (OffsetLabel (pos 2) (unsigned_type 64) 8))
    ≡ codes "{\"magnitude\":\"0x2\",\"unit\":8}\n"
unfolding json_offset_in quoted_hex hexadecimal digits
hex_json_offset = refl

hex_flat : styled hexadecimals Flat packet ≡ codes "Packet {size=0x3UB,data=[0x1UB,0x2UB,0x3UB]}\n"
unfolding hex_integer hexadecimal
hex_flat = refl

hex_tree : styled hexadecimals Tree packet
    ≡ codes "Packet\n  size=0x3UB\n  data=[3]\n    [0]=0x1UB\n    [1]=0x2UB\n    [2]=0x3UB\n"
unfolding hex_integer hexadecimal digits
hex_tree = refl

hex_lines : styled hexadecimals Lines three_bytes
    ≡ codes "[0]\t16#b\t8#b\t0x1UB\n[1]\t24#b\t8#b\t0x2UB\n[2]\t32#b\t8#b\t0x3UB\n"
unfolding hex_integer hexadecimal digits
hex_lines = refl

-- ---- digits alone

digits_zero : integer_in Digits (unsigned_type 8) (pos 0) ≡ codes "0"
unfolding digits
digits_zero = refl

digits_negative : integer_in Digits (signed_type 8) (negsuc 4) ≡ codes "-5"
unfolding digits
digits_negative = refl

digits_odd_width : integer_in Digits (unsigned_type 12) (pos 308) ≡ codes "308"
unfolding digits
digits_odd_width = refl

digits_offset : offset_in Digits (unsigned_type 32) 8 (pos 13) ≡ codes "13"
unfolding offset_in unit_in digits
digits_offset = refl

digits_json : styled bare_digits Json (leaf (IntegerLabel (negsuc 4) (signed_type 32))) ≡ codes "-5\n"
unfolding digits
digits_json = refl

digits_flat : styled bare_digits Flat packet ≡ codes "Packet {size=3,data=[1,2,3]}\n"
unfolding digits
digits_flat = refl

digits_lines : styled bare_digits Lines three_bytes ≡ codes "[0]\t16#b\t8#b\t1\n[1]\t24#b\t8#b\t2\n[2]\t32#b\t8#b\t3\n"
unfolding digits
digits_lines = refl

-- ---- the first elements

first_two : styled (first 2) Flat packet ≡ codes "Packet {size=3UB,data=[1UB,2UB,..+1]}\n"
unfolding integer_text digits
first_two = refl

first_none : styled (first 0) Flat three_bytes ≡ codes "[..+3]\n"
unfolding digits
first_none = refl

first_all : styled (first 3) Flat three_bytes ≡ codes "[1UB,2UB,3UB]\n"
unfolding integer_text digits
first_all = refl

first_of_empty : styled (first 0) Flat (Mapped ArrayLabel 0 0 NoMembers) ≡ codes "[]\n"
first_of_empty = refl

first_tree : styled (first 1) Tree packet ≡ codes "Packet\n  size=3UB\n  data=[3]\n    [0]=1UB\n    ..+2\n"
unfolding integer_text digits
first_tree = refl

first_json : styled (first 2) Json three_bytes ≡ codes "[1,2,{\"..\":1}]\n"
unfolding digits
first_json = refl

first_json_none : styled (first 0) Json three_bytes ≡ codes "[{\"..\":3}]\n"
unfolding digits
first_json_none = refl

first_lines : styled (first 1) Lines packet
    ≡ codes ".size\t8#b\t8#b\t3UB\n.data[0]\t16#b\t8#b\t1UB\n.data[1..]\t24#b\t16#b\t..+2\n"
unfolding integer_text digits
first_lines = refl

first_lines_none : styled (first 0) Lines three_bytes ≡ codes "[0..]\t16#b\t24#b\t..+3\n"
unfolding digits
first_lines_none = refl

first_nested : styled (first 1) Flat
    (Mapped ArrayLabel 16 64 (MemberThen three_bytes (MemberThen three_bytes NoMembers))) ≡ codes "[[1UB,..+2],..+1]\n"
unfolding integer_text digits
first_nested = refl

-- ---- arrays of chars

abbrev char_bytes : (b c d : ℕ) → List ℕ
char_bytes b c d = trimmed (b ∷ c ∷ d ∷ [])

zeros_at_end : char_bytes 65 0 0 ≡ codes "A"
zeros_at_end = refl

zeros_inside : char_bytes 65 0 66 ≡ 65 ∷ 0 ∷ 66 ∷ []
zeros_inside = refl

all_zero : char_bytes 0 0 0 ≡ []
all_zero = refl

chars_of_bytes : chars_in (MemberThen (byte_at 0 104) (MemberThen (byte_at 8 105) NoMembers)) ≡ codes "hi"
chars_of_bytes = refl

only_char : has_chars (Some 3) (Some 3) ArrayLabel ≡ true
only_char = refl

no_char : has_chars (Some 3) (Some 2) ArrayLabel ≡ false
no_char = refl

unknown_type : has_chars (Some 3) None ArrayLabel ≡ false
unknown_type = refl

no_table : has_chars None (Some 3) ArrayLabel ≡ false
no_table = refl
