-- The cells of values.
use Rattle.std.specs.Prelude.{ℕ, ℤ, List, [], Option, Some, None}
use Rattle.std.specs.Fmt.{signed_decimal}
use Rattle.pickle_meaning.specs.Values.{Value, label_of}
use Rattle.value_store.specs.declared.value.Kind.{Kind}
use Rattle.value_store.specs.declared.value.Kind.TheVariants.{Integer, Offset, Text, Array, Struct, Union}
use Rattle.value_store.specs.Labels.{kind_of, number_of, bytes_of}
use Rattle.text_output.specs.declared.style.Numbers.{Numbers}
use Rattle.text_output.specs.declared.style.Numbers.TheVariants.{Decimal, Hexadecimal, Digits}
use Rattle.text_output.specs.declared.style.Style.{Style}
use Rattle.value_text.specs.declared.typed.Typed.{Typed}
use Rattle.value_text.specs.StyledNumbers.{signed_hex}
use Rattle.value_text.specs.Notation.{json}
use Rattle.value_text.specs.StyledValue.{written}
use Rattle.value_text.specs.Styled.{with_chars_in}
use Rattle.csv_text.specs.Escapes.{escaped}
use Rattle.csv_text.specs.Quotes.{in_quotes, cell_text}

-- a number without its type
abbrev pub number_text : Numbers → ℤ → List ℕ
number_text Decimal number = signed_decimal number
number_text Hexadecimal number = signed_hex number
number_text Digits number = signed_decimal number

-- a text with its escapes, in quotes if it needs them
abbrev pub text_cell : List ℕ → List ℕ
text_cell bytes = cell_text (escaped bytes)

-- JSON, always in quotes
abbrev pub json_cell : Style → Value → List ℕ
json_cell style value = in_quotes (written json style value)

-- the cell of a value of a kind: of an offset its magnitude
abbrev pub kind_cell : Style → Kind → Value → List ℕ
kind_cell style Integer value = number_text style.numbers (number_of (label_of value))
kind_cell style Offset value = number_text style.numbers (number_of (label_of value))
kind_cell style Text value = text_cell (bytes_of (label_of value))
kind_cell style Array value = json_cell style value
kind_cell style Struct value = json_cell style value
kind_cell style Union value = json_cell style value

-- the cell of a value; its arrays of chars are texts already
abbrev pub value_cell : Style → Value → List ℕ
value_cell style value = kind_cell style (kind_of (label_of value)) value

-- a value beside its type
abbrev pub typed_cell : Style → Typed → List ℕ
typed_cell style typed = value_cell style (with_chars_in style.chars typed)

-- nothing for a part that isn't there
abbrev pub part_cell : Style → Option Typed → List ℕ
part_cell style None = []
part_cell style (Some typed) = typed_cell style typed
