-- A shown value in the parts that are written one after the other.
use denote.Bor.{Bor}
use Rattle.std.specs.Prelude.{ℕ, ◌+◌, Bool, true, false, List, ◌++◌, Option, Some, None, option_map, if◌then◌else◌, codes}
use Rattle.pickle_types.specs.declared.node.Node.{Node}
use Rattle.pickle_meaning.specs.Values.{Label, Value, label_of, members_of, member_at, member_count}
use Rattle.value_store.specs.declared.value.ValueRef.{ValueRef}
use Rattle.value_store.specs.Refs.{value_shown}
use Rattle.text_output.specs.declared.style.Look.{Look}
use Rattle.text_output.specs.Brackets.{in_brackets}
use Rattle.value_text.specs.declared.print.show.bytes.FileBytes.{FileBytes as LentBytes}
use Rattle.value_text.specs.declared.print.show.Sight.{Sight}
use Rattle.value_text.specs.declared.typed.Types.{Types}
use Rattle.value_text.specs.declared.typed.Typed.{Typed}
use Rattle.value_text.specs.TypedValue.{nodes_in, char_node_in, types_in, node_in, mapped_in}
use Rattle.value_text.specs.PartTypes.{part_node}
use Rattle.value_text.specs.Lent.{lent_name}
use Rattle.value_text.specs.ShowText.{View, margin, type_cell, name_cell, found_name, is_array, is_inline, is_bytes, is_number_row, is_below, leaves_below, left_below, is_text, bytes_body, value_cell, inline_text, inline_members, separator, inline_name, opening, closing, dump_text, rows_text, row_text, rest_from, rest_line, rest_of, cut_of, shown_parts, show_text}
use Rattle.value_text.specs.ShowWords.{FileBytes}
use Rattle.value_text.specs.TypeWords.{Known, type_word, known_word, bare_word, inner_word}
use Rattle.value_text.specs.ValueText.{title_text}

abbrev pub known_of : Types → Known
known_of types = record { nodes = nodes_in types; letters = char_node_in types }

-- bytes of a file that are lent
abbrev pub bytes_lent : LentBytes → FileBytes
bytes_lent file = record { from = file.from; bytes = file.bytes.now }

-- how a value is shown, and beside which bytes of its file
pub record SightOf : Type 0 where
  pub look : Look
  pub file : Option FileBytes

abbrev pub sight_of : Sight → SightOf
sight_of sight = record { look = sight.look; file = option_map bytes_lent sight.file }

abbrev pub view_of : SightOf → Types → View
view_of sight types = record { types = known_of types; look = sight.look; file = sight.file }

abbrev pub sight_in : View → SightOf
sight_in view = record { look = view.look; file = view.file }

-- how a value is shown beside its type
abbrev pub look_at : SightOf → Typed → View
look_at sight value = view_of sight (types_in value)

abbrev pub view_at : Sight → Typed → View
view_at sight value = look_at (sight_of sight) value

-- a value as it is shown, by the nodes of a table, the node of `char` and that of its type
abbrev pub shown_in : SightOf → List Node → (chars node : Option ℕ) → Value → List ℕ
shown_in sight nodes chars node value =
    show_text (record {
      types = record { nodes = nodes; letters = chars };
      look = sight.look;
      file = sight.file;
    }) node value

-- the types beside a value
abbrev pub known_in : Typed → Known
known_in value = known_of (types_in value)

-- a value beside its type, as it is shown
abbrev pub shown_at : SightOf → Typed → List ℕ
shown_at sight value = show_text (look_at sight value) (node_in value) (mapped_in value)

-- the type after the name of a value
abbrev pub type_at : (dim : Bool) → Known → (inner : Bool) → (of : Option ℕ) → Value → List ℕ
type_at dim types inner of value =
    type_cell dim (type_word types inner of (label_of value) (member_count (members_of value)))

-- the same of an element, of a value of a type that isn't known, and of one that is known
abbrev pub inner_type : (dim : Bool) → Value → List ℕ
inner_type dim value = type_cell dim (inner_word (label_of value) (member_count (members_of value)))

abbrev pub bare_type : (dim : Bool) → Value → List ℕ
bare_type dim value = type_cell dim (bare_word (label_of value) (member_count (members_of value)))

abbrev pub known_at : Known → (of : ℕ) → Value → List ℕ
known_at types of value = known_word types of (label_of value) (member_count (members_of value))

abbrev pub known_type : (dim : Bool) → Known → (of : ℕ) → Value → List ℕ
known_type dim types of value = type_cell dim (Some (known_at types of value))

-- the number of an array's elements, and the name of a struct or a union
abbrev pub counted : (dim : Bool) → (count : ℕ) → List ℕ
counted dim count = type_cell dim (Some (in_brackets count))

abbrev pub titled : (dim : Bool) → (sort : List ℕ) → Option (Bor (List ℕ)) → List ℕ
titled dim sort name = type_cell dim (Some (title_text sort (lent_name name)))

-- the name of the part at a place
abbrev pub name_at : ValueRef → (place : ℕ) → List ℕ
name_at value place = name_cell (label_of (value_shown value)) place

abbrev pub lent_found : Option (Bor (List ℕ)) → List ℕ
lent_found name = found_name (lent_name name)

-- the lines of all parts of a value
abbrev pub all_parts_text : View → (level : ℕ) → (of : Option ℕ) → Value → List ℕ
all_parts_text view level of value = shown_parts view (level + 1) of (label_of value) 0 (members_of value)

abbrev pub below_text : View → (level : ℕ) → (of : Option ℕ) → Value → List ℕ
below_text view level of value =
    codes "\n" ++ (all_parts_text view level of value
    ++ rest_of view.look (level + 1) 1 (cut_of view.look.elements (label_of value)) (members_of value))

-- the members of a value on its line
abbrev pub all_inline_text : Look → Value → List ℕ
all_inline_text look value = inline_members look (label_of value) 0 true (members_of value)

-- an array of few numbers on its line, or else the lines of the parts, if they aren't left out
abbrev pub lines_text : View → (level : ℕ) → (of : Option ℕ) → Value → List ℕ
lines_text view level of value =
    if is_number_row view.look.elements value then value_cell (all_inline_text view.look value)
    else if leaves_below view level (members_of value) then left_below
    else below_text view level of value

-- the lines of an array of bytes, if they aren't left out
abbrev pub dump_at : View → (level : ℕ) → Value → List ℕ
dump_at view level value =
    if is_below view.look.depth (level + 1) then left_below
    else codes "\n" ++ dump_text view.look (level + 1) view.look.elements (members_of value)

-- an array of bytes
abbrev pub bytes_at : View → (level : ℕ) → (of : Option ℕ) → Value → List ℕ
bytes_at view level of value =
    bytes_body view level (is_text view.look view.types of (label_of value) (members_of value)) (members_of value)

-- the value on its line, or the lines below it
abbrev pub body_text : View → (level : ℕ) → (of : Option ℕ) → Value → List ℕ
body_text view level of value =
    if is_inline value then value_cell (inline_text view.look value)
    else if is_bytes (label_of value) (members_of value) then bytes_at view level of value
    else lines_text view level of value

abbrev pub rest_text : View → (level : ℕ) → (inner : Bool) → (of : Option ℕ) → Value → List ℕ
rest_text view level inner of value = type_at view.look.dim view.types inner of value ++ body_text view level of value

abbrev pub whole_text : View → (of : Option ℕ) → Value → List ℕ
whole_text view of value = margin view.look view.file 0 value ++ rest_text view 0 false of value

-- the start of the line of a part, and all its lines
abbrev pub start_text : SightOf → (level : ℕ) → Label → (place : ℕ) → Value → List ℕ
start_text sight level label place value = margin sight.look sight.file level value ++ name_cell label place

abbrev pub part_text : View → (level : ℕ) → (of : Option ℕ) → Label → (place : ℕ) → Value → List ℕ
part_text view level of label place value =
    start_text (sight_in view) level label place value
    ++ rest_text view level (is_array label) (part_node view.types.nodes of label place) value

abbrev pub lent_start : SightOf → (level : ℕ) → ValueRef → (place : ℕ) → ValueRef → List ℕ
lent_start sight level value place part = start_text sight level (label_of (value_shown value)) place (value_shown part)

abbrev pub lent_part : View → (level : ℕ) → Typed → (place : ℕ) → ValueRef → List ℕ
lent_part view level value place part =
    part_text view level (node_in value) (label_of (mapped_in value)) place (value_shown part)

-- whether a member goes on the line, if there is one
abbrev pub is_inline_if : Option Value → Bool
is_inline_if None = true
is_inline_if (Some value) = is_inline value

abbrev pub inline_title : (first : Bool) → Option (Bor (List ℕ)) → List ℕ
inline_title first name = separator first ++ inline_name (lent_name name)

abbrev pub lent_inline_name : Option (Bor (List ℕ)) → List ℕ
lent_inline_name name = inline_name (lent_name name)

abbrev pub braced_text : Look → Value → List ℕ
braced_text look value = opening value ++ (inline_text look value ++ closing value)

abbrev pub lent_inline : Look → (first : Bool) → Option (Bor (List ℕ)) → ValueRef → List ℕ
lent_inline look first name member = inline_title first name ++ braced_text look (value_shown member)

-- the lines of bytes
abbrev pub dump_of : Look → (level : ℕ) → (most : Option ℕ) → Value → List ℕ
dump_of look level most value = dump_text look level most (members_of value)

abbrev pub rows_of : Look → (level : ℕ) → (count : ℕ) → Value → List ℕ
rows_of look level count value = rows_text look level count (members_of value)

abbrev pub row_from : Look → (level : ℕ) → Value → (from : ℕ) → List ℕ
row_from look level value from = row_text look level (members_of value) from (member_at (members_of value) from)

abbrev pub lent_row : Look → (level : ℕ) → ValueRef → (from : ℕ) → ValueRef → List ℕ
lent_row look level value from first =
    row_text look level (members_of (value_shown value)) from (Some (value_shown first))

abbrev pub rest_at : Look → (level : ℕ) → Value → (place : ℕ) → List ℕ
rest_at look level value place = rest_from look level (members_of value) place

abbrev pub lent_rest_line : Look → (level : ℕ) → (count : ℕ) → ValueRef → List ℕ
lent_rest_line look level count first = rest_line look level count (Some (value_shown first))
