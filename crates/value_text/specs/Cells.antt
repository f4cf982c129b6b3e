-- The cells of a table.
use Rattle.std.specs.Prelude.{ℕ, List}
use Rattle.pickle_meaning.specs.Values.{Value}
use Rattle.text_output.specs.declared.mode.Mode.{Mode}
use Rattle.text_output.specs.declared.mode.Mode.TheVariants.{Json}
use Rattle.text_output.specs.declared.style.Style.{Style}
use Rattle.value_text.specs.declared.typed.Typed.{Typed}
use Rattle.value_text.specs.Notation.{flat, json}
use Rattle.value_text.specs.StyledValue.{written}
use Rattle.value_text.specs.Styled.{with_chars_in}

-- a value in JSON or, in any other mode, on one line; its arrays of chars are texts already
abbrev pub cell : Style → Mode → Value → List ℕ
cell style Json value = written json style value
cell style mode value = written flat style value

-- a value beside its type
abbrev pub typed_cell : Style → Mode → Typed → List ℕ
typed_cell style mode typed = cell style mode (with_chars_in style.chars typed)
