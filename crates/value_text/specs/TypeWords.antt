-- The words for types in a shown value.
use Rattle.std.specs.Prelude.{ℕ, zero, suc, Bool, true, false, not, ◌&&◌, List, [], ◌++◌, Option, Some, None, ◌==◌, slice_get, if◌then◌else◌, codes, decimal}
use Rattle.pickle_types.specs.declared.integer.IntegerType.{IntegerType}
use Rattle.pickle_types.specs.declared.node.Node.{Node}
use Rattle.pickle_types.specs.declared.node.Shape.{Shape}
use Rattle.pickle_types.specs.declared.node.Shape.TheVariants as shape
use Rattle.pickle_types.specs.NodeParts.{node_part}
use Rattle.pickle_types.specs.Table.{name_of as letters_of}
use Rattle.pickle_meaning.specs.Values.{Label, IntegerLabel, OffsetLabel, TextLabel, ArrayLabel, StructLabel, UnionLabel}
use Rattle.text_output.specs.Brackets.{in_brackets}
use Rattle.value_text.specs.ValueText.{unit_text, title_text}

-- what is known of a value's types: the nodes of its table, and which of them is `char`
pub record Known : Type 0 where
  pub nodes : List Node
  pub letters : Option ℕ

abbrev pub sign_word : (signed : Bool) → List ℕ
sign_word true = codes "int<"
sign_word false = codes "uint<"

abbrev pub integer_word : IntegerType → List ℕ
integer_word type = sign_word type.signed ++ (decimal type.width ++ codes ">")

-- `byte` for unsigned integers of 8 bits
abbrev pub is_byte : IntegerType → Bool
is_byte type = (type.width == 8) && not type.signed

abbrev pub number_word : IntegerType → List ℕ
number_word type = if is_byte type then codes "byte" else integer_word type

abbrev pub offset_word : IntegerType → (unit : ℕ) → List ℕ
offset_word type unit = codes "offset<" ++ (integer_word type ++ (codes "," ++ (unit_text unit ++ codes ">")))

-- whether a node is that of `char`
abbrev pub is_letter : (letters : Option ℕ) → (of : ℕ) → Bool
is_letter None of = false
is_letter (Some letters) of = of == letters

-- the word of a shape, given those of the elements of arrays
abbrev pub shape_word : (element : ℕ → List ℕ) → Shape → List ℕ
shape_word element (shape.Integer type) = number_word type
shape_word element (shape.Offset type unit) = offset_word type unit
shape_word element shape.String = codes "string"
shape_word element (shape.Array of bound) = element of ++ codes "[]"
shape_word element (shape.Struct name pinned fields) = title_text (codes "struct") (letters_of name)
shape_word element (shape.Integral name number fields) =
    title_text (codes "struct") (letters_of name) ++ (codes " " ++ integer_word number)
shape_word element (shape.Union name alternatives) = title_text (codes "union") (letters_of name)

abbrev pub found_word : (element : ℕ → List ℕ) → Option Node → List ℕ
found_word element None = []
found_word element (Some node) = shape_word element node.shape

-- the word of the type at a node, with at most so many levels of arrays inside one another
unfoldable pub node_word : (levels : ℕ) → Known → (of : ℕ) → List ℕ
node_word zero types of = codes ".."
node_word (suc levels) types of =
    if is_letter types.letters of then codes "char" else found_word (node_word levels types) (slice_get types.nodes of)

abbrev pub some_word : Known → Option ℕ → List ℕ
some_word types None = []
some_word types (Some of) = node_word 8 types of

-- the word of a value whose type is known: for an array that of its elements and their number
abbrev pub known_word : Known → (of : ℕ) → Label → (count : ℕ) → List ℕ
known_word types of ArrayLabel count = some_word types (node_part types.nodes of 0) ++ in_brackets count
known_word types of label count = node_word 8 types of

-- the word where the type isn't known: the name of a struct or a union, or the number of an array's elements
abbrev pub bare_word : Label → (count : ℕ) → Option (List ℕ)
bare_word (IntegerLabel number type) count = None
bare_word (OffsetLabel magnitude type unit) count = None
bare_word (TextLabel bytes) count = None
bare_word ArrayLabel count = Some (in_brackets count)
bare_word (StructLabel name fields) count = Some (title_text (codes "struct") name)
bare_word (UnionLabel name index alternative) count = Some (title_text (codes "union") name)

-- the word of an element, whose array has its type: only the number of elements, if it is an array itself
abbrev pub inner_word : Label → (count : ℕ) → Option (List ℕ)
inner_word ArrayLabel count = Some (in_brackets count)
inner_word label count = None

-- the word of a value, if it has one
abbrev pub type_word : Known → (inner : Bool) → (of : Option ℕ) → Label → (count : ℕ) → Option (List ℕ)
type_word types true of label count = inner_word label count
type_word types false None label count = bare_word label count
type_word types false (Some of) label count = Some (known_word types of label count)
