-- A bound on the bytes of a printed value, from its type and the bits of the file alone.
use Rattle.std.specs.Prelude.{ℕ, ◌+◌, ◌-◌, ◌*◌, ◌/◌, ◌^◌, min, max, length, List, ℤ, pos, negsuc, if◌then◌else◌, Option, None, Some, codes, decimal}
use Rattle.pickle_types.specs.declared.integer.IntegerType.{IntegerType}
use Rattle.pickle_types.specs.Types.{PokeType, IntegerOf, OffsetOf, StringOf, ArrayOf, StructOf, IntegralOf, UnionOf, Fields, NoFields, FieldThen, Parts, NoParts, PartThen}
use Rattle.pickle_types.specs.Bounds.{least_width, count_of}
use Rattle.pickle_meaning.specs.Values.{Naming}
use Rattle.text_bounds.specs.declared.form.Form.{Form}
use Rattle.text_output.specs.declared.mode.Mode.{Mode}
use Rattle.text_output.specs.declared.mode.Mode.TheVariants.{Flat, Tree, Json, Lines}
use Rattle.text_output.specs.declared.style.Chars.{Chars}
use Rattle.text_output.specs.declared.style.Chars.TheVariants.{Numbers, Text}
use Rattle.text_output.specs.declared.style.Numbers.{Numbers as Digits}
use Rattle.text_output.specs.declared.style.Style.{Style}
use Rattle.poke_batch.specs.ValueText.{title_text, name_text}
use Rattle.text_output.specs.Brackets.{in_brackets}
use Rattle.poke_batch.specs.PathText.{field_step}
use Rattle.value_text.specs.CutArrays.{more_text, more_line}
use Rattle.value_text.specs.Notation.{Notation, flat, json}
use Rattle.value_text.specs.StyledLeaves.{more_step}

-- a bound on the bytes of a text, and one on the lines in it that get longer if it is the text of a part
pub record Size : Type 0 where
  pub text : ℕ
  pub lines : ℕ

-- the number of a type that is the longest when printed
abbrev pub longest_number : IntegerType → ℤ
longest_number type = if type.signed then negsuc (2 ^ (type.width - 1) - 1) else pos (2 ^ type.width - 1)

-- how many bytes a mode takes for what it writes
pub record Rooms : Type 0 where
  -- how numbers and strings are written, and the longest escape of a byte
  pub notation : Notation
  pub escape : ℕ
  -- what an array has beside its elements, and a struct or a union beside its members
  pub array : (count : ℕ) → ℕ
  pub titled : (sort : List ℕ) → Naming → ℕ
  -- what is around a printed value on a line that starts at most at a bit and has at most so many bits
  pub line : (start size : ℕ) → ℕ
  -- what is before an element, and before each line of it
  pub element_before : (place : ℕ) → ℕ
  pub element_moves : (place : ℕ) → ℕ
  -- what is before a field or an alternative, and before each line of it
  pub field_before : Naming → (place : ℕ) → ℕ
  pub field_moves : Naming → (place : ℕ) → ℕ
  -- what represents so many elements that are left out, from a place and a bit on and over so many bits
  pub more : (left place from bits : ℕ) → ℕ
  -- a value with so many bytes beside its parts
  pub joined : (own parts : ℕ) → ℕ
  -- what is after the whole text
  pub end : ℕ

-- of a mode on one line, which has a notation: commas are between members, and a line feed is at the end
abbrev pub on_line : Notation → (escape : ℕ) → Rooms
on_line notation escape = record {
  notation = notation;
  escape = escape;
  array = λ count. 2;
  titled = λ sort name. length (notation.title sort name) + (length notation.opens + 1);
  line = λ start size. 0;
  element_before = λ place. 1;
  element_moves = λ place. 0;
  field_before = λ name place. 1 + length (notation.key name place);
  field_moves = λ name place. 0;
  more = λ left place from bits. 1 + length (notation.more left);
  joined = λ own parts. own + parts;
  end = 1;
}

-- of the mode `tree`, in which each line of a part has two blanks more than that of the value
abbrev pub tree_rooms : Rooms
tree_rooms = record {
  notation = flat;
  escape = 4;
  array = λ count. length (in_brackets count);
  titled = λ sort name. length (title_text sort name);
  line = λ start size. 1;
  element_before = λ place. length (in_brackets place) + 1;
  element_moves = λ place. 2;
  field_before = λ name place. length (name_text name);
  field_moves = λ name place. 2;
  more = λ left place from bits. length (more_line 1 left);
  joined = λ own parts. own + parts;
  end = 0;
}

-- the cells of a line in the mode `lines`, and their tabs and line feed
abbrev pub cells_room : (start size : ℕ) → ℕ
cells_room start size = 8 + (length (decimal start) + length (decimal size))

-- of the mode `lines`, in which a value has its own line or those of its parts, each with a step of the path more. A
-- value without parts has a dot for its path.
abbrev pub lines_rooms : Rooms
lines_rooms = record {
  notation = flat;
  escape = 4;
  array = λ count. 2;
  titled = λ sort name. length (title_text sort name) + 3;
  line = cells_room;
  element_before = λ place. 0;
  element_moves = λ place. length (in_brackets place);
  field_before = λ name place. 0;
  field_moves = λ name place. length (field_step name place);
  more = λ left place from bits. length (more_step place) + (cells_room from bits + length (more_text left));
  joined = λ own parts. max own parts;
  end = 1;
}

abbrev pub rooms_of : Mode → Rooms
rooms_of Flat = on_line flat 4
rooms_of Tree = tree_rooms
rooms_of Json = on_line json 6
rooms_of Lines = lines_rooms

abbrev pub rooms_in : Form → Rooms
rooms_in form = rooms_of form.mode

-- the longest integer and the longest offset of a type
abbrev pub integer_room : Digits → Rooms → IntegerType → ℕ
integer_room numbers rooms type = length (rooms.notation.integer numbers type (longest_number type))

abbrev pub offset_room : Digits → Rooms → IntegerType → (unit : ℕ) → ℕ
offset_room numbers rooms type unit = length (rooms.notation.offset numbers type unit (longest_number type))

-- quotes, and the longest escape for each of so many bytes
abbrev pub quoted_room : Rooms → (count : ℕ) → ℕ
quoted_room rooms count = 2 + rooms.escape * count

-- the last byte of a string is the 0, which isn't printed
abbrev pub string_room : Rooms → (m : ℕ) → ℕ
string_room rooms m = quoted_room rooms (m / 8 - 1)

abbrev pub with_parts : Rooms → (own : ℕ) → Size → Size
with_parts rooms own parts = record { text = rooms.joined own parts.text; lines = rooms.joined 1 parts.lines }

-- a part, with what is before it
abbrev pub moved : (before moves : ℕ) → Size → Size
moved before moves part = record { text = before + moves * part.lines + part.text; lines = part.lines }

abbrev pub no_size : Size
no_size = record { text = 0; lines = 0 }

abbrev pub both : Size → Size → Size
both a b = record { text = a.text + b.text; lines = a.lines + b.lines }

abbrev pub greater : Size → Size → Size
greater a b = record { text = max a.text b.text; lines = max a.lines b.lines }

abbrev pub repeated : (count : ℕ) → Size → Size
repeated count each = record { text = count * each.text; lines = count * each.lines }

abbrev pub more_size : Rooms → (left place from bits : ℕ) → Size
more_size rooms left place from bits = record { text = rooms.more left place from bits; lines = 1 }

-- at most so many elements on m bits, of which a limit may leave some out; one always counts, since it may be requested
abbrev pub elements_size : Rooms → (limit : Option ℕ) → (m count : ℕ) → Size → Size
elements_size rooms None m count each = repeated count each
elements_size rooms (Some most) m count each =
    both (repeated (min (max 1 most) count) each) (more_size rooms count count m m)

-- an array that may be a text
abbrev pub or_text : Chars → (text array : Size) → Size
or_text Numbers text array = array
or_text Text text array = greater text array

-- a text of so many bytes, which starts at most at a bit and has at most so many bits
abbrev pub text_size : Rooms → (count from bits : ℕ) → Size
text_size rooms count from bits = with_parts rooms (quoted_room rooms count + rooms.line from bits) no_size

-- an array of at most so many elements
abbrev pub array_size : Form → (m count : ℕ) → Size → Size
array_size form m count element =
    or_text form.style.chars (text_size (rooms_in form) count m m)
    (with_parts (rooms_in form) ((rooms_in form).array count + (rooms_in form).line m m)
    (elements_size (rooms_in form) form.style.elements m count
    (moved ((rooms_in form).element_before count) ((rooms_in form).element_moves count) element)))

unfoldable mutual
  -- a bound on a printed value of the type on m bits
  pub size_of : Form → PokeType → (m : ℕ) → Size
  size_of form (IntegerOf type) m = with_parts (rooms_in form)
      (integer_room form.style.numbers (rooms_in form) type + (rooms_in form).line m type.width) no_size
  size_of form (OffsetOf type unit) m = with_parts (rooms_in form)
      (offset_room form.style.numbers (rooms_in form) type unit + (rooms_in form).line m type.width) no_size
  size_of form StringOf m =
      with_parts (rooms_in form) (string_room (rooms_in form) m + (rooms_in form).line m m) no_size
  size_of form (ArrayOf element bound) m = array_size form m (count_of m (least_width element)) (size_of form element m)
  size_of form (StructOf name pinned fields) m = with_parts (rooms_in form)
      ((rooms_in form).titled (codes "struct") name + (rooms_in form).line m m) (fields_size form 0 fields m)
  size_of form (IntegralOf name type fields) m = with_parts (rooms_in form)
      ((rooms_in form).titled (codes "struct") name + (rooms_in form).line m type.width) (parts_size form 0 fields m)
  size_of form (UnionOf name alternatives) m = with_parts (rooms_in form)
      ((rooms_in form).titled (codes "union") name + (rooms_in form).line m m) (greatest_size form alternatives m)

  -- of fields from a place on
  pub fields_size : Form → (place : ℕ) → Fields → (m : ℕ) → Size
  fields_size form place NoFields m = no_size
  fields_size form place (FieldThen name order type constraint label condition rest) m =
      both (moved ((rooms_in form).field_before name place) ((rooms_in form).field_moves name place)
      (size_of form type m)) (fields_size form (place + 1) rest m)

  pub parts_size : Form → (place : ℕ) → Parts → (m : ℕ) → Size
  parts_size form place NoParts m = no_size
  parts_size form place (PartThen name order type constraint rest) m =
      both (moved ((rooms_in form).field_before name place) ((rooms_in form).field_moves name place)
      (size_of form type m)) (parts_size form (place + 1) rest m)

  -- of one alternative, which is the only member of its union
  pub greatest_size : Form → Parts → (m : ℕ) → Size
  greatest_size form NoParts m = no_size
  greatest_size form (PartThen name order type constraint rest) m =
      greater (moved ((rooms_in form).field_before name 0) ((rooms_in form).field_moves name 0) (size_of form type m))
      (greatest_size form rest m)

-- the most bytes of a printed value of a type on m bits, in a style and a mode
unfoldable pub most_text : Style → Mode → PokeType → (m : ℕ) → ℕ
most_text style mode type m = (size_of (record { mode = mode; style = style }) type m).text + (rooms_of mode).end

-- the same, the most in any mode
unfoldable pub most_text_in_any : Style → PokeType → (m : ℕ) → ℕ
most_text_in_any style type m = max (most_text style Flat type m)
    (max (most_text style Tree type m) (max (most_text style Json type m) (most_text style Lines type m)))

-- in a mode if one is given, else the most in any mode
abbrev pub most_text_for : Style → Option Mode → PokeType → (m : ℕ) → ℕ
most_text_for style None type m = most_text_in_any style type m
most_text_for style (Some mode) type m = most_text style mode type m
