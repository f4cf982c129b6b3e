-- What is known of each mode: its rooms, and that a printed value is within them.
use Rattle.std.proofs.Common.{ℕ, ◌+◌, ◌≤◌, [], ◌++◌, length, codes, decimal, arith, length-append}
use Rattle.pickle_meaning.specs.Values.{Value}
use Rattle.text_output.specs.declared.mode.Mode.{Mode}
use Rattle.text_output.specs.declared.mode.Mode.TheVariants.{Flat, Tree, Json, Lines}
use Rattle.text_output.specs.declared.style.Style.{Style}
use Rattle.text_output.specs.Brackets.{in_brackets}
use Rattle.value_text.specs.CutArrays.{more_text}
use Rattle.value_text.specs.Notation.{Notation, flat, json}
use Rattle.value_text.specs.Styled.{styled}
use Rattle.value_text.specs.StyledValue.{written, written_line}
use Rattle.value_text.specs.TreeText.{indent_text}
use Rattle.text_bounds.specs.TextLaws.{AnyModeIsBounded}
use Rattle.text_bounds.specs.TextRoom.{on_line, tree_rooms, cells_room, lines_rooms, rooms_of, most_text_in_any}
use Rattle.text_bounds.proofs.NumberLengths.{decimal_longer, integer_longest, json_longest, offset_longest, json_offset_longest}
use Rattle.text_bounds.proofs.Sizes.{form_of, size_by, size_in, line_short, tree_short, all_lines_short}
use Rattle.text_bounds.proofs.StringLengths.{string_short, json_string_short}
use Rattle.text_bounds.proofs.Within.{AreTexts, AreRooms}

-- ---- notations

flat_texts : AreTexts flat 4
flat_texts = record { integer = integer_longest; offset = offset_longest; string = string_short }

json_texts : AreTexts json 6
json_texts = record {
  integer = json_longest;
  offset = λ numbers type unit n lt. json_offset_longest numbers type n unit lt;
  string = json_string_short;
}

-- ---- pieces

brackets_longer : (i count : ℕ) → i ≤ count → length (in_brackets i) ≤ length (in_brackets count)
brackets_longer i count le = omega
    (arith, decimal_longer i count le, length-append (decimal i) (codes "]"), length-append (decimal count) (codes "]"))

cells_longer : (start size m widest : ℕ) → start ≤ m → size ≤ widest → cells_room start size ≤ cells_room m widest
cells_longer start size m widest le lt = omega (arith, decimal_longer start m le, decimal_longer size widest lt)

more_longer : (left count : ℕ) → left ≤ count → length (more_text left) ≤ length (more_text count)
more_longer left count le = omega (arith, decimal_longer left count le)

more_flat : (left count : ℕ) → left ≤ count → length (flat.more left) ≤ length (flat.more count)
more_flat left count le = more_longer left count le

more_json : (left count : ℕ) → left ≤ count → length (json.more left) ≤ length (json.more count)
more_json left count le = omega (
  arith,
  decimal_longer left count le,
  length-append (decimal left) (codes "}"),
  length-append (decimal count) (codes "}"),
)

-- ---- modes

line_known : {notation : Notation} {escape : ℕ} → AreTexts notation escape
    → ((left count : ℕ) → left ≤ count → length (notation.more left) ≤ length (notation.more count))
    → AreRooms (on_line notation escape)
line_known texts longer = record {
  texts = texts;
  parts = λ own parts. omega arith;
  joined = λ a b c d h g. omega (arith, h, g);
  line = λ start size m widest le lt. omega arith;
  array = λ i count le. omega arith;
  before = λ i count le. omega arith;
  moves = λ i count le. omega arith;
  more = λ left place from bits count m l p f b. omega (arith, longer left count l);
}

tree_known : AreRooms tree_rooms
tree_known = record {
  texts = flat_texts;
  parts = λ own parts. omega arith;
  joined = λ a b c d h g. omega (arith, h, g);
  line = λ start size m widest le lt. omega arith;
  array = λ i count le. brackets_longer i count le;
  before = λ i count le. omega (arith, brackets_longer i count le);
  moves = λ i count le. omega arith;
  more = λ left place from bits count m l p f b. omega (
    arith,
    more_longer left count l,
    length-append (indent_text 1) (more_text left ++ codes "\n"),
    length-append (indent_text 1) (more_text count ++ codes "\n"),
    length-append (more_text left) (codes "\n"),
    length-append (more_text count) (codes "\n"),
  );
}

lines_known : AreRooms lines_rooms
lines_known = record {
  texts = flat_texts;
  parts = λ own parts. omega arith;
  joined = λ a b c d h g. omega (arith, h, g);
  line = λ start size m widest le lt. cells_longer start size m widest le lt;
  array = λ i count le. omega arith;
  before = λ i count le. omega arith;
  moves = λ i count le. brackets_longer i count le;
  more = λ left place from bits count m l p f b. omega (
    arith,
    more_longer left count l,
    decimal_longer place count p,
    cells_longer from bits m m f b,
    length-append (decimal place) (codes "..]"),
    length-append (decimal count) (codes "..]"),
  );
}

pub are_rooms : (mode : Mode) → AreRooms (rooms_of mode)
are_rooms Flat = line_known flat_texts more_flat
are_rooms Tree = tree_known
are_rooms Json = line_known json_texts more_json
are_rooms Lines = lines_known

written_short : (style : Style) (notation : Notation) (escape : ℕ) (value : Value) →
    length (written_line notation style value) ≤ (size_by style (on_line notation escape) value).text + 1
written_short style notation escape value = omega (
  arith,
  line_short style notation escape value,
  length-append (written notation style value) (codes "\n"),
)

pub printed_short : (style : Style) (mode : Mode) (value : Value) →
    length (styled style mode value) ≤ (size_in (form_of style mode) value).text + (rooms_of mode).end
printed_short style Flat value = written_short style flat 4 value
printed_short style Tree value = omega (arith, tree_short style 0 [] value)
printed_short style Json value = written_short style json 6 value
printed_short style Lines value = omega (arith, all_lines_short style value)

pub any_mode_bounded : AnyModeIsBounded
unfolding most_text_in_any
any_mode_bounded style Flat ty m = omega arith
any_mode_bounded style Tree ty m = omega arith
any_mode_bounded style Json ty m = omega arith
any_mode_bounded style Lines ty m = omega arith
