-- The line of a value that was found among many types.
use Rattle.std.specs.Prelude.{ℕ, List, ◌++◌, codes, decimal}
use Rattle.bit_space.specs.declared.order.Order.{Order}
use Rattle.bit_space.specs.declared.order.Order.TheVariants as order
use Rattle.poke_batch.specs.FileLine.{shown_name}
use Rattle.poke_batch.specs.FileObject.{name_json}
use Rattle.searches.specs.Lines.{bit_text}
use Rattle.text_output.specs.declared.mode.Mode.{Mode}
use Rattle.text_output.specs.declared.mode.Mode.TheVariants as mode

abbrev pub order_word : Order → List ℕ
order_word order.Big = codes "big"
order_word order.Little = codes "little"

-- the name of a format as it is printed, and the order, after two tabs, and as two members
abbrev pub format_cells : (name : List ℕ) → Order → List ℕ
format_cells name order = codes "\t" ++ (name ++ (codes "\t" ++ (order_word order ++ codes "\n")))

abbrev pub format_members : (name : List ℕ) → Order → List ℕ
format_members name order =
    codes ",\"format\":" ++ (name ++ (codes ",\"endian\":\"" ++ (order_word order ++ codes "\"}\n")))

-- where a value starts, how many bits it has, its format and order, between tabs
abbrev pub found_cells : (name : List ℕ) → Order → (start size : ℕ) → List ℕ
found_cells name order start size =
    bit_text start ++ (codes "\t" ++ (bit_text size ++ format_cells name order))

-- the same as an object
abbrev pub found_object : (name : List ℕ) → Order → (start size : ℕ) → List ℕ
found_object name order start size =
    codes "{\"at\":" ++ (decimal start ++ (codes ",\"bits\":" ++ (decimal size ++ format_members name order)))

-- the line of a value of a format that has a name
abbrev pub found_line : Mode → (name : List ℕ) → Order → (start size : ℕ) → List ℕ
found_line mode.Json name order start size = found_object (name_json name) order start size
found_line mode name order start size = found_cells (shown_name name) order start size
