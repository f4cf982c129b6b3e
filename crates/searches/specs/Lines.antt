-- The line of a value that a search found.
use Rattle.std.specs.Prelude.{ℕ, Bool, ◌||◌, ◌==◌, ◌-◌, ◌/◌, ◌%◌, if◌then◌else◌, List, ◌++◌, Option, Some, None, codes, decimal, is_some, length, take}
use Rattle.command_line.specs.declared.terms.Terms.{Terms}
use Rattle.pickle_meaning.specs.Values.{Value, end_of, start_of}
use Rattle.text_output.specs.declared.mode.Mode.{Mode}
use Rattle.text_output.specs.declared.mode.Mode.TheVariants as mode
use Rattle.value_text.specs.StyledNumbers.{hexadecimal}

-- what is printed of a value is printed only if the terms request a part or a selection
abbrev pub has_parts : Terms → Bool
has_parts terms = is_some terms.part || is_some terms.selection

-- a number of bits: of whole bytes in hexadecimal, else as an offset in bits
abbrev pub bit_text : ℕ → List ℕ
bit_text bits = if bits % 8 == 0 then codes "0x" ++ hexadecimal (bits / 8) else decimal bits ++ codes "#b"

-- a printed value without its line feed
abbrev pub without_last : List ℕ → List ℕ
without_last text = take (length text - 1) text

abbrev pub cells_end : Option (List ℕ) → List ℕ
cells_end None = codes "\n"
cells_end (Some parts) = codes "\t" ++ parts

abbrev pub object_end : Option (List ℕ) → List ℕ
object_end None = codes "}\n"
object_end (Some parts) = codes ",\"value\":" ++ (without_last parts ++ codes "}\n")

-- where a value starts, how many bits it has, and what is printed of it, between tabs
abbrev pub hit_cells : (start size : ℕ) → Option (List ℕ) → List ℕ
hit_cells start size parts = bit_text start ++ (codes "\t" ++ (bit_text size ++ cells_end parts))

-- the same as an object
abbrev pub hit_object : (start size : ℕ) → Option (List ℕ) → List ℕ
hit_object start size parts =
    codes "{\"at\":" ++ (decimal start ++ (codes ",\"bits\":" ++ (decimal size ++ object_end parts)))

abbrev pub hit_line : Mode → (start size : ℕ) → Option (List ℕ) → List ℕ
hit_line mode.Json start size parts = hit_object start size parts
hit_line mode start size parts = hit_cells start size parts

-- the line of a value
abbrev pub value_line : Mode → Value → Option (List ℕ) → List ℕ
value_line mode value parts = hit_line mode (start_of value) (end_of value - start_of value) parts
