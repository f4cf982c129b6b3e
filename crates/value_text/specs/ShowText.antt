-- A value as it is shown to the eye: a line for each part, with its place, name, type and value. This text may change
-- between versions.
use Rattle.std.specs.Prelude.{ℕ, suc, ◌+◌, ◌-◌, ◌*◌, ◌/◌, ◌%◌, Bool, true, false, ◌&&◌, List, [], ◌∷◌, ◌++◌, Option, Some, None, ◌==◌, nat_le, nat_lt, min, if◌then◌else◌, codes}
use Rattle.std.specs.List.{flat_map, range_with_len}
use Rattle.pickle_meaning.specs.Values.{Naming, Label, IntegerLabel, OffsetLabel, TextLabel, ArrayLabel, StructLabel, UnionLabel, Value, Mapped, Members, NoMembers, MemberThen, AbsentThen, label_of, start_of, end_of, members_of, member_count, member_at}
use Rattle.value_store.specs.Labels.{kind_of, member_name}
use Rattle.text_output.specs.Brackets.{in_brackets}
use Rattle.text_output.specs.HexDigits.{hex_digit}
use Rattle.text_output.specs.declared.style.Chars.TheVariants as chars
use Rattle.text_output.specs.declared.style.Chars.{Chars}
use Rattle.text_output.specs.declared.style.Look.{Look}
use Rattle.value_text.specs.CharTexts.{has_chars, char_of, chars_in, trimmed}
use Rattle.value_text.specs.LinesText.{any_present}
use Rattle.value_text.specs.PartTypes.{part_node}
use Rattle.value_text.specs.ShowWords.{place_text, size_cell, no_size_cell, FileBytes, file_cell, no_file_cell, shown_number, shown_offset, shown_string, left_out}
use Rattle.value_text.specs.ValueText.{string_text}
use Rattle.value_text.specs.TreeText.{indent_text, has_parts}
use Rattle.value_text.specs.TypeWords.{Known, is_byte, type_word}

-- how a value is shown, by which types, and beside which bytes of its file
pub record View : Type 0 where
  pub types : Known
  pub look : Look
  pub file : Option FileBytes

-- what a line of a part begins with
abbrev pub margin : Look → Option FileBytes → (level : ℕ) → Value → List ℕ
margin look file level value = place_text (start_of value)
    ++ (size_cell look.beside.sizes (end_of value - start_of value)
    ++ (file_cell look.beside.bytes file (start_of value) (end_of value - start_of value)
    ++ (indent_text level ++ codes " ")))

-- the same of a line for many parts, at the first of them
abbrev pub margin_of_many : Look → (level : ℕ) → Value → List ℕ
margin_of_many look level first = place_text (start_of first)
    ++ (no_size_cell look.beside.sizes ++ (no_file_cell look.beside.bytes ++ (indent_text level ++ codes " ")))

-- around what is written in a dim colour: ESC [ 2 m and ESC [ 22 m
abbrev pub dim_start : (dim : Bool) → List ℕ
dim_start false = []
dim_start true = 27 ∷ codes "[2m"

abbrev pub dim_end : (dim : Bool) → List ℕ
dim_end false = []
dim_end true = 27 ∷ codes "[22m"

abbrev pub type_cell : (dim : Bool) → Option (List ℕ) → List ℕ
type_cell dim None = []
type_cell dim (Some word) = codes " " ++ (dim_start dim ++ (word ++ dim_end dim))

-- the name of a part, if it has one
abbrev pub found_name : Naming → List ℕ
found_name None = []
found_name (Some name) = codes " " ++ name

-- the name before a part: the place of an element, the name of a field or an alternative
abbrev pub name_cell : Label → (place : ℕ) → List ℕ
name_cell ArrayLabel place = codes " " ++ in_brackets place
name_cell label place = found_name (member_name label place)

abbrev pub is_array : Label → Bool
is_array ArrayLabel = true
is_array label = false

-- whether a value of so many bits goes on the line of its name: a number, an offset, a string, a struct of at most
-- 64 bits whose fields all do, and a union whose alternative does
abbrev pub fits_line : Label → (size : ℕ) → (any all : Bool) → Bool
fits_line (IntegerLabel number type) size any all = true
fits_line (OffsetLabel magnitude type unit) size any all = true
fits_line (TextLabel bytes) size any all = true
fits_line ArrayLabel size any all = false
fits_line (StructLabel name fields) size any all = nat_le size 64 && any && all
fits_line (UnionLabel name index alternative) size any all = all

abbrev mutual
  pub is_inline : Value → Bool
  is_inline (Mapped label start end members) = fits_line label (end - start) (any_present members) (are_inline members)

  pub are_inline : Members → Bool
  are_inline NoMembers = true
  are_inline (AbsentThen rest) = are_inline rest
  are_inline (MemberThen value rest) = is_inline value && are_inline rest

abbrev pub separator : (first : Bool) → List ℕ
separator true = []
separator false = codes ", "

abbrev pub inline_name : Naming → List ℕ
inline_name None = []
inline_name (Some name) = name ++ codes " "

-- braces around a struct or a union inside another
abbrev pub opening : Value → List ℕ
opening value = if has_parts (kind_of (label_of value)) then codes "{" else []

abbrev pub closing : Value → List ℕ
closing value = if has_parts (kind_of (label_of value)) then codes "}" else []

abbrev mutual
  -- a value on the line of its name
  pub inline_text : Look → Value → List ℕ
  inline_text look (Mapped (IntegerLabel number type) start end _) = shown_number look.numbers number
  inline_text look (Mapped (OffsetLabel magnitude type unit) start end _) = shown_offset look.numbers unit magnitude
  inline_text look (Mapped (TextLabel bytes) start end _) = shown_string look.elements bytes
  inline_text look (Mapped ArrayLabel start end _) = []
  inline_text look (Mapped (StructLabel name fields) start end members) =
      inline_members look (StructLabel name fields) 0 true members
  inline_text look (Mapped (UnionLabel name index alternative) start end members) =
      inline_members look (UnionLabel name index alternative) 0 true members

  -- the present members from a place on, each after its name if it has one
  pub inline_members : Look → Label → (place : ℕ) (first : Bool) → Members → List ℕ
  inline_members look label place first NoMembers = []
  inline_members look label place first (AbsentThen rest) = inline_members look label (suc place) first rest
  inline_members look label place first (MemberThen value rest) =
      ((separator first ++ inline_name (member_name label place))
      ++ (opening value ++ (inline_text look value ++ closing value)))
      ++ inline_members look label (suc place) false rest

-- whether a value is an unsigned integer of 8 bits
abbrev pub is_byte_label : Label → Bool
is_byte_label (IntegerLabel number type) = is_byte type
is_byte_label label = false

abbrev pub is_some_byte : Option Value → Bool
is_some_byte None = false
is_some_byte (Some value) = is_byte_label (label_of value)

-- whether a value is a number or an offset
abbrev pub is_number_label : Label → Bool
is_number_label (IntegerLabel number type) = true
is_number_label (OffsetLabel magnitude type unit) = true
is_number_label (TextLabel bytes) = false
is_number_label ArrayLabel = false
is_number_label (StructLabel name fields) = false
is_number_label (UnionLabel name index alternative) = false

abbrev pub is_some_number : Option Value → Bool
is_some_number None = false
is_some_number (Some value) = is_number_label (label_of value)

-- whether none of so many elements is cut off
abbrev pub are_all : (most : Option ℕ) → (count : ℕ) → Bool
are_all None count = true
are_all (Some most) count = nat_le count most

-- whether an array is one of numbers, by its first element, that goes on the line of its name: at most 16 of at most
-- 320 bits together, if none is cut off
abbrev pub is_number_row : (most : Option ℕ) → Value → Bool
is_number_row most value =
    is_array (label_of value) && is_some_number (member_at (members_of value) 0)
    && nat_le (member_count (members_of value)) 16
    && nat_le (end_of value - start_of value) 320 && are_all most (member_count (members_of value))

-- whether parts at a level are left out
abbrev pub is_below : (most : Option ℕ) → (level : ℕ) → Bool
is_below None level = false
is_below (Some most) level = nat_lt most level

-- what stands for parts that are left out
abbrev pub left_below : List ℕ
left_below = codes " ..\n"

-- whether a value is an array of bytes, by its first element
abbrev pub is_bytes : Label → Members → Bool
is_bytes label members = is_array label && is_some_byte (member_at members 0)

-- two digits for the byte in a column, blanks if there is none
abbrev pub digits_of_byte : Option Value → List ℕ
digits_of_byte None = codes "  "
digits_of_byte (Some value) = hex_digit (char_of value / 16) ∷ hex_digit (char_of value % 16) ∷ []

-- a blank before the even ones of the 16 columns
abbrev pub gap : ℕ → List ℕ
gap i = if i % 2 == 0 then codes " " else []

abbrev pub column : Members → (from i : ℕ) → List ℕ
column members from i = gap i ++ digits_of_byte (member_at members (from + i))

-- a byte as text: itself from the space (32) to `~` (126), else a dot
abbrev pub letter : ℕ → ℕ
letter byte = if nat_le 32 byte && nat_le byte 126 then byte else 46

abbrev pub letter_at : Option Value → List ℕ
letter_at None = []
letter_at (Some value) = letter (char_of value) ∷ []

abbrev pub shown_letter : Members → (from i : ℕ) → List ℕ
shown_letter members from i = letter_at (member_at members (from + i))

unfoldable pub columns : Members → (from : ℕ) → List ℕ
columns members from = flat_map (column members from) (range_with_len 0 16)

unfoldable pub shown_letters : Members → (from : ℕ) → List ℕ
shown_letters members from = flat_map (shown_letter members from) (range_with_len 0 16)

-- up to 16 bytes, from an element on
abbrev pub row_text : Look → (level : ℕ) → Members → (from : ℕ) → Option Value → List ℕ
row_text look level _ from None = []
row_text look level members from (Some first) =
    margin_of_many look level first
    ++ (columns members from ++ (codes "  " ++ (shown_letters members from ++ codes "\n")))

abbrev pub row_at : Look → (level : ℕ) → Members → (row : ℕ) → List ℕ
row_at look level members row = row_text look level members (16 * row) (member_at members (16 * row))

abbrev pub at_most : Option ℕ → ℕ → ℕ
at_most None count = count
at_most (Some most) count = min count most

abbrev pub rows_text : Look → (level : ℕ) → (count : ℕ) → Members → List ℕ
rows_text look level count members = flat_map (row_at look level members) (range_with_len 0 count)

-- the line for elements that are left out, at the first of them
abbrev pub rest_line : Look → (level : ℕ) → (count : ℕ) → Option Value → List ℕ
rest_line look level count None = []
rest_line look level count (Some first) =
    margin_of_many look level first ++ (codes " " ++ (left_out count ++ codes "\n"))

-- the line for the elements from a place on
abbrev pub rest_from : Look → (level : ℕ) → Members → (place : ℕ) → List ℕ
rest_from look level members place = rest_line look level (member_count members - place) (member_at members place)

abbrev pub rest_of : Look → (level unit : ℕ) → (most : Option ℕ) → Members → List ℕ
rest_of look level unit None _ = []
rest_of look level unit (Some most) members = rest_from look level members (unit * most)

-- the lines of an array of bytes, 16 in a line
abbrev pub dump_text : Look → (level : ℕ) → (most : Option ℕ) → Members → List ℕ
dump_text look level most members =
    rows_text look level (at_most most ((member_count members + 15) / 16)) members
    ++ rest_of look level 16 most members

-- whether a part at a place isn't cut off
abbrev pub within : (most : Option ℕ) → (place : ℕ) → Bool
within None place = true
within (Some most) place = nat_lt place most

-- only arrays are cut
abbrev pub cut_of : (most : Option ℕ) → Label → Option ℕ
cut_of most ArrayLabel = most
cut_of most label = None

-- a text on the line of its name
abbrev pub value_cell : List ℕ → List ℕ
value_cell text = codes " = " ++ (text ++ codes "\n")

-- whether so many characters are shown as a text, and not as a dump that is cut
abbrev pub are_few : (most : Option ℕ) → (count : ℕ) → Bool
are_few None count = true
are_few (Some most) count = nat_le count (16 * most)

abbrev pub are_texts : Chars → Bool
are_texts chars.Numbers = false
are_texts chars.Text = true

-- whether an array of a type is shown as a text
abbrev pub is_text : Look → Known → (of : Option ℕ) → Label → Members → Bool
is_text look types of label members =
    are_texts look.chars && has_chars types.letters (part_node types.nodes of label 0) label
    && are_few look.elements (member_count members)

-- an array of characters as a text without the zeros at its end
abbrev pub text_of : Members → List ℕ
text_of members = string_text (trimmed (chars_in members))

-- an array of bytes: a text, or a dump
abbrev pub bytes_body : View → (level : ℕ) → (text : Bool) → Members → List ℕ
bytes_body view level true members = value_cell (text_of members)
bytes_body view level false members =
    if is_below view.look.depth (level + 1) then left_below
    else codes "\n" ++ dump_text view.look (level + 1) view.look.elements members

-- whether the parts of a value at a level are left out, if it has any
abbrev pub leaves_below : View → (level : ℕ) → Members → Bool
leaves_below view level members = is_below view.look.depth (level + 1) && any_present members

abbrev mutual
  -- what is after the name of a value, and the lines of its parts below it
  pub shown_rest : View → (level : ℕ) (inner : Bool) (of : Option ℕ) → Value → List ℕ
  shown_rest view level inner of (Mapped label start end members) =
      type_cell view.look.dim (type_word view.types inner of label (member_count members))
      ++ (if is_inline (Mapped label start end members)
      then value_cell (inline_text view.look (Mapped label start end members))
      else if is_bytes label members then bytes_body view level (is_text view.look view.types of label members) members
      else if is_number_row view.look.elements (Mapped label start end members)
      then value_cell (inline_members view.look label 0 true members)
      else if leaves_below view level members then left_below
      else codes "\n" ++ (shown_parts view (level + 1) of label 0 members
      ++ rest_of view.look (level + 1) 1 (cut_of view.look.elements label) members))

  -- the lines of the present members from a place on
  pub shown_parts : View → (level : ℕ) (of : Option ℕ) → Label → (place : ℕ) → Members → List ℕ
  shown_parts view level of label place NoMembers = []
  shown_parts view level of label place (AbsentThen rest) = shown_parts view level of label (suc place) rest
  shown_parts view level of label place (MemberThen value rest) =
      (if within (cut_of view.look.elements label) place
      then (margin view.look view.file level value ++ name_cell label place)
      ++ shown_rest view level (is_array label) (part_node view.types.nodes of label place) value
      else [])
      ++ shown_parts view level of label (suc place) rest

-- the whole output
abbrev pub show_text : View → (of : Option ℕ) → Value → List ℕ
show_text view of value = margin view.look view.file 0 value ++ shown_rest view 0 false of value
