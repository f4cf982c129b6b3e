-- Values and the texts that show them, worked out by hand, against the definition.
use Rattle.std.proofs.Common.{◌≡◌, ℕ, zero, suc, ◌+◌, pos, negsuc, refl, Bool, true, false, List, codes, [], ◌∷◌, ◌++◌, Option, Some, None}
use Rattle.std.specs.Fmt.{digits}
use Rattle.pickle_types.specs.declared.integer.IntegerType.{IntegerType}
use Rattle.pickle_types.specs.declared.node.Extent.TheVariants as extent
use Rattle.pickle_types.specs.declared.node.Node.{Node}
use Rattle.pickle_types.specs.declared.node.Shape.{Shape}
use Rattle.pickle_types.specs.declared.node.Shape.TheVariants as shape
use Rattle.pickle_meaning.specs.Values.{Value, Mapped, IntegerLabel, OffsetLabel, TextLabel, ArrayLabel, StructLabel, UnionLabel, Members, NoMembers, MemberThen, AbsentThen}
use Rattle.text_output.specs.declared.style.Chars.TheVariants as chars
use Rattle.text_output.specs.declared.style.Beside.{Beside}
use Rattle.text_output.specs.declared.style.Look.{Look}
use Rattle.text_output.specs.declared.style.Numbers.TheVariants as form
use Rattle.value_text.specs.StyledNumbers.{hexadecimal}
use Rattle.value_text.specs.ValueText.{string_text}
use Rattle.value_text.specs.ShowWords.{hex_text, byte_place, byte_columns, shown_number, shown_offset, shown_string}
use Rattle.value_text.specs.TypeWords.{node_word}
use Rattle.value_text.specs.ShowText.{View, columns, shown_letters, show_text}

abbrev unsigned : (width : ℕ) → IntegerType
unsigned width = record { width = width; signed = false }

abbrev number : (start width n : ℕ) → Value
number start width n = Mapped (IntegerLabel (pos n) (unsigned width)) start (start + width) NoMembers

abbrev beside : (sizes bytes : Bool) → Beside
beside sizes bytes = record { sizes = sizes; bytes = bytes }

abbrev look : (elements depth : Option ℕ) → (dim : Bool) → Look
look elements depth dim =
    record {
      numbers = None;
      chars = chars.Text;
      elements = elements;
      depth = depth;
      dim = dim;
      beside = beside false false;
    }

-- without types
abbrev bare : View
bare = record { types = record { nodes = []; letters = None }; look = look (Some 16) None false; file = None }

abbrev cut : (most : ℕ) → View
cut most = record { types = record { nodes = []; letters = None }; look = look (Some most) None false; file = None }

-- a place in bytes, and a number that is the same in hexadecimal
small_number : show_text bare None (number 48 8 5) ≡ codes "00000006    = 5\n"
unfolding shown_number byte_place hex_text digits
small_number = refl

-- a place within a byte, and a number in hexadecimal too
within_a_byte : show_text bare None (number 132 12 308) ≡ codes "00000010.4  = 308 0x134\n"
unfolding shown_number byte_place hex_text digits
within_a_byte = refl

-- one form alone
hexadecimal_alone : shown_number (Some form.Hexadecimal) (pos 308) ≡ codes "0x134"
unfolding shown_number hexadecimal
hexadecimal_alone = refl

decimal_alone : shown_number (Some form.Decimal) (pos 308) ≡ codes "308"
unfolding shown_number digits
decimal_alone = refl

below_zero : shown_offset (Some form.Hexadecimal) 8 (negsuc 15) ≡ codes "-0x10 B"
unfolding shown_offset shown_number hexadecimal
below_zero = refl

-- sizes: 12 bits, and two bytes of a dump, whose line has none
abbrev with_sizes : View
with_sizes = record bare { look = record bare.look { beside = beside true false } }

a_size : show_text with_sizes None (number 132 12 5) ≡ codes "00000010.4 00000001.4  = 5\n"
unfolding shown_number byte_place hex_text digits
a_size = refl

dump_size : show_text with_sizes None
    (Mapped ArrayLabel 8 24 (MemberThen (number 8 8 65) (MemberThen (number 16 8 66) NoMembers)))
    ≡ codes
    "00000001   00000002    [2]\n00000001                 4142                                     AB\n"
unfolding byte_place hex_text columns shown_letters digits
dump_size = refl

-- bytes: those of 12 bits that two bytes hold, of a string of more than eight, and of a part that the bytes don't have
abbrev with_bytes : View
with_bytes = record bare {
  look = record bare.look { beside = beside false true };
  file = Some (record { from = 1; bytes = 65 ∷ 10 ∷ 255 ∷ 1 ∷ 2 ∷ 3 ∷ 4 ∷ 5 ∷ 6 ∷ 7 ∷ [] });
}

two_bytes : show_text with_bytes None (number 12 8 5) ≡ codes "00000001.4 410a                = 5\n"
unfolding shown_number byte_place hex_text byte_columns digits
two_bytes = refl

eight_bytes : show_text with_bytes None (number 8 72 5) ≡ codes "00000001   410aff0102030405..  = 5\n"
unfolding shown_number byte_place hex_text byte_columns digits
eight_bytes = refl

other_bytes : show_text with_bytes None (number 80 16 5) ≡ codes "0000000a   07                  = 5\n"
unfolding shown_number byte_place hex_text byte_columns digits
other_bytes = refl

ten : shown_number None (pos 10) ≡ codes "10 0xa"
unfolding shown_number hex_text digits
ten = refl

largest : shown_number None (pos 18446744073709551615) ≡ codes "18446744073709551615 0xffffffffffffffff"
unfolding shown_number hex_text digits
largest = refl

negative : shown_number None (negsuc 299) ≡ codes "-300"
unfolding shown_number digits
negative = refl

-- a place beyond 2 ^ 32 bytes
far : byte_place 4294967312 ≡ codes "100000010"
unfolding byte_place hex_text
far = refl

-- offsets in bytes, in bits, and in a unit of its own
bytes : shown_offset None 8 (pos 2) ≡ codes "2 B"
unfolding shown_offset shown_number digits
bytes = refl

few_bits : shown_offset None 1 (pos 3) ≡ codes "3 b"
unfolding shown_offset shown_number digits
few_bits = refl

bits : shown_offset None 1 (pos 27) ≡ codes "27 0x1b b, 3 B 3 b"
unfolding shown_offset shown_number hex_text digits
bits = refl

sectors : shown_offset None 4096 (pos 4) ≡ codes "4 of 4096 b, 2048 0x800 B"
unfolding shown_offset shown_number hex_text digits
sectors = refl

negative_offset : shown_offset None 1 (negsuc 8) ≡ codes "-9 b"
unfolding shown_offset shown_number digits
negative_offset = refl

-- strings with escapes, whole and cut after a line of 16 bytes
a_string : show_text bare None (Mapped (TextLabel (codes "a\tb\"" ++ 27 ∷ [])) 8 56 NoMembers)
    ≡ codes "00000001    = \"a\\tb\\\"\\x1b\"\n"
unfolding byte_place hex_text string_text digits
a_string = refl

cut_string : shown_string (Some 1) (codes "0123456789abcdefXYZ") ≡ codes "\"0123456789abcdef\"..+3"
unfolding string_text digits
cut_string = refl

-- a struct of at most 64 bits on one line, with another one in it, and a nameless field
one_line : show_text bare None
    (Mapped (StructLabel (Some (codes "Flags")) (Some (codes "a") ∷ Some (codes "b") ∷ None ∷ [])) 0 16
    (MemberThen (number 0 4 1) (MemberThen (Mapped (StructLabel None (Some (codes "c") ∷ Some (codes "d") ∷ [])) 4 8
    (MemberThen (number 4 2 2) (MemberThen (number 6 2 3) NoMembers)))
    (MemberThen (number 8 8 255) NoMembers))))
    ≡ codes "00000000    Flags = a 1, b {c 2, d 3}, 255 0xff\n"
unfolding shown_number byte_place hex_text digits
one_line = refl

-- a struct with a string, whose first field is absent
fields : show_text bare None
    (Mapped (StructLabel (Some (codes "P")) (Some (codes "f") ∷ Some (codes "s") ∷ Some (codes "n") ∷ [])) 0 88
    (AbsentThen
    (MemberThen (Mapped (TextLabel (codes "text")) 0 40 NoMembers) (MemberThen (number 40 48 7) NoMembers))))
    ≡ codes "00000000    P\n00000000      s = \"text\"\n00000005      n = 7\n"
unfolding shown_number byte_place hex_text string_text digits
fields = refl

no_field : show_text bare None (Mapped (StructLabel None []) 8 8 NoMembers) ≡ codes "00000001    struct\n"
unfolding byte_place hex_text digits
no_field = refl

-- a union with a number, and one with a struct of more bits
union_of_number : show_text bare None
    (Mapped (UnionLabel (Some (codes "U")) 1 (Some (codes "b"))) 8 16 (MemberThen (number 8 8 2) NoMembers))
    ≡ codes "00000001    U = b 2\n"
unfolding shown_number byte_place hex_text digits
union_of_number = refl

union_of_struct : show_text bare None (Mapped (UnionLabel None 0 (Some (codes "a"))) 0 128
    (MemberThen (Mapped (StructLabel (Some (codes "S")) (Some (codes "x") ∷ Some (codes "y") ∷ [])) 0 128
    (MemberThen (number 0 64 1) (MemberThen (number 64 64 2) NoMembers))) NoMembers))
    ≡ codes "00000000    union\n00000000      a S\n00000000        x = 1\n00000008        y = 2\n"
unfolding shown_number byte_place hex_text digits
union_of_struct = refl

-- levels of parts that are left out: all, and those below the first
abbrev deep : (most : ℕ) → View
deep most =
    record { types = record { nodes = []; letters = None }; look = look (Some 16) (Some most) false; file = None }

abbrev nest : Value
nest = Mapped (StructLabel None (Some (codes "a") ∷ Some (codes "b") ∷ Some (codes "c") ∷ [])) 0 64
    (MemberThen (number 0 8 1) (MemberThen
    (Mapped ArrayLabel 8 16 (MemberThen (Mapped ArrayLabel 8 16 (MemberThen (number 8 8 65) NoMembers)) NoMembers))
    (MemberThen (Mapped ArrayLabel 16 16 NoMembers) NoMembers)))

no_level : show_text (deep 0) None nest ≡ codes "00000000    struct ..\n"
unfolding byte_place hex_text digits
no_level = refl

one_level : show_text (deep 1) None nest
    ≡ codes "00000000    struct\n00000000      a = 1\n00000001      b [1] ..\n00000002      c [0]\n"
unfolding shown_number byte_place hex_text digits
one_level = refl

two_levels : show_text (deep 2) None nest ≡ codes
    "00000000    struct\n00000000      a = 1\n00000001      b [1]\n00000001        [0] [1] ..\n00000002      c [0]\n"
unfolding shown_number byte_place hex_text digits
two_levels = refl

-- arrays of numbers: on one line, of too many bits, cut, and empty
numbers : show_text bare None
    (Mapped ArrayLabel 0 32 (MemberThen (number 0 16 1) (MemberThen (number 16 16 65535) NoMembers)))
    ≡ codes "00000000    [2] = 1, 65535 0xffff\n"
unfolding shown_number byte_place hex_text digits
numbers = refl

-- so many numbers of 64 bits, each of them 7
abbrev sevens : (start count : ℕ) → Members
sevens start zero = NoMembers
sevens start (suc count) = MemberThen (number start 64 7) (sevens (start + 64) count)

five_numbers : show_text bare None (Mapped ArrayLabel 0 320 (sevens 0 5)) ≡ codes "00000000    [5] = 7, 7, 7, 7, 7\n"
unfolding shown_number byte_place hex_text digits
five_numbers = refl

six_numbers : show_text (cut 6) None (Mapped ArrayLabel 0 384 (sevens 0 6))
    ≡ codes
    "00000000    [6]\n00000000      [0] = 7\n00000008      [1] = 7\n00000010      [2] = 7\n00000018      [3] = 7\n00000020      [4] = 7\n00000028      [5] = 7\n"
unfolding shown_number byte_place hex_text digits
six_numbers = refl

cut_numbers : show_text (cut 1) None (Mapped ArrayLabel 0 48
    (MemberThen (number 0 16 1) (MemberThen (number 16 16 2) (MemberThen (number 32 16 3) NoMembers))))
    ≡ codes "00000000    [3]\n00000000      [0] = 1\n00000002      ..+2\n"
unfolding shown_number byte_place hex_text digits
cut_numbers = refl

empty_array : show_text bare None (Mapped ArrayLabel 16 16 NoMembers) ≡ codes "00000002    [0]\n"
unfolding byte_place hex_text digits
empty_array = refl

-- so many bytes from a place on, each one more than the one before
abbrev bytes_from : (start first : ℕ) → List ℕ → Members
bytes_from start first [] = NoMembers
bytes_from start first (byte ∷ rest) = MemberThen (number start 8 byte) (bytes_from (start + 8) first rest)

-- bytes as a dump, and cut after a line
dump : show_text bare None (Mapped ArrayLabel 64 104 (bytes_from 64 0 (codes "\u{7f}ELF" ++ 0 ∷ [])))
    ≡ codes "00000008    [5]\n00000008      7f45 4c46 00                             .ELF.\n"
unfolding columns shown_letters byte_place hex_text digits
dump = refl

cut_dump : show_text (cut 1) None (Mapped ArrayLabel 0 144 (bytes_from 0 0 (codes "0123456789abcdefgh")))
    ≡ codes
    "00000000    [18]\n00000000      3031 3233 3435 3637 3839 6162 6364 6566  0123456789abcdef\n00000010      ..+2\n"
unfolding columns shown_letters byte_place hex_text digits
cut_dump = refl

-- types of a table: 0 is `char`, 1 an array of it, 2 a byte, 3 an array of it, 4 an array of these, 5 a struct
abbrev node_of : Shape → Node
node_of shape = record { shape = shape; slot = None }

abbrev types : List Node
types = node_of (shape.Integer (unsigned 8))
    ∷ node_of (shape.Array 0 extent.Unbounded)
    ∷ node_of (shape.Integer (unsigned 8))
    ∷ node_of (shape.Array 2 extent.Unbounded)
    ∷ node_of (shape.Array 3 extent.Unbounded)
    ∷ node_of (shape.Offset (unsigned 8) 8)
    ∷ []

abbrev typed : View
typed = record { types = record { nodes = types; letters = Some 0 }; look = look (Some 16) None false; file = None }

-- an array of `char` as a text, without the zeros at its end
a_text : show_text typed (Some 1) (Mapped ArrayLabel 0 48 (bytes_from 0 0 (codes "boot" ++ 0 ∷ 0 ∷ [])))
    ≡ codes "00000000    char[6] = \"boot\"\n"
unfolding node_word byte_place hex_text string_text digits
a_text = refl

-- an array of arrays of bytes
arrays : show_text typed (Some 4)
    (Mapped ArrayLabel 0 8 (MemberThen (Mapped ArrayLabel 0 8 (MemberThen (number 0 8 65) NoMembers)) NoMembers))
    ≡ codes "00000000    byte[][1]\n00000000      [0] [1]\n00000000        41                                       A\n"
unfolding node_word columns shown_letters byte_place hex_text digits
arrays = refl

an_offset : show_text typed (Some 5) (Mapped (OffsetLabel (pos 2) (unsigned 8) 8) 0 8 NoMembers)
    ≡ codes "00000000    offset<uint<8>,B> = 2 B\n"
unfolding node_word shown_offset shown_number byte_place hex_text digits
an_offset = refl

-- a type in a dim colour
dim_type : show_text
    (record { types = record { nodes = types; letters = Some 0 }; look = look None None true; file = None })
    (Some 2) (number 0 8 7)
    ≡ codes "00000000    " ++ 27 ∷ codes "[2mbyte" ++ 27 ∷ codes "[22m = 7\n"
unfolding node_word shown_number byte_place hex_text digits
dim_type = refl
