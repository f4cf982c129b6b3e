-- The laws of the cells of values.
use Rattle.std.specs.Prelude.{ℕ, List, Some}
use Rattle.pickle_meaning.specs.Values.{Value, label_of}
use Rattle.value_store.specs.declared.value.Kind.{Kind}
use Rattle.value_store.specs.declared.value.Kind.TheVariants.{Integer, Offset, Text, Array, Struct, Union}
use Rattle.value_store.specs.Labels.{kind_of, number_of, bytes_of}
use Rattle.text_output.specs.declared.style.Style.{Style}
use Rattle.value_text.specs.Notation.{json}
use Rattle.value_text.specs.StyledValue.{written}
use Rattle.csv_text.specs.Cells.{number_text, value_cell}
use Rattle.csv_text.specs.Escapes.{escaped}
use Rattle.csv_text.specs.Records.{IsCell}

-- what the cell of a value of a kind holds: a number, a text with its escapes, or JSON
abbrev pub kind_content : Style → Kind → Value → List ℕ
kind_content style Integer value = number_text style.numbers (number_of (label_of value))
kind_content style Offset value = number_text style.numbers (number_of (label_of value))
kind_content style Text value = escaped (bytes_of (label_of value))
kind_content style Array value = written json style value
kind_content style Struct value = written json style value
kind_content style Union value = written json style value

abbrev pub value_content : Style → Value → List ℕ
value_content style value = kind_content style (kind_of (label_of value)) value

-- the cell of a value reads as what it holds
abbrev pub CellsHoldValues : Type 0
CellsHoldValues = (style : Style) (value : Value) → IsCell (value_cell style value) (Some (value_content style value))
