-- The whole output for a value in a style, in each mode.
use Rattle.std.specs.Prelude.{ℕ, List, Option}
use Rattle.pickle_types.specs.declared.node.Node.{Node}
use Rattle.pickle_meaning.specs.Values.{Value}
use Rattle.text_output.specs.declared.mode.Mode.{Mode}
use Rattle.text_output.specs.declared.mode.Mode.TheVariants.{Flat, Tree, Json, Lines}
use Rattle.text_output.specs.declared.style.Style.{Style}
use Rattle.text_output.specs.declared.style.Chars.{Chars}
use Rattle.text_output.specs.declared.style.Chars.TheVariants.{Numbers, Text}
use Rattle.value_text.specs.declared.typed.Typed.{Typed}
use Rattle.value_text.specs.CharTexts.{with_texts}
use Rattle.value_text.specs.TypedValue.{nodes_in, char_node_in, types_in, node_in, mapped_in}
use Rattle.value_text.specs.Notation.{flat, json}
use Rattle.value_text.specs.StyledValue.{written_line}
use Rattle.value_text.specs.StyledTree.{styled_tree}
use Rattle.value_text.specs.StyledLeaves.{styled_part_lines}

-- a value in which arrays of chars are texts already
abbrev pub styled : Style → Mode → Value → List ℕ
styled style Flat value = written_line flat style value
styled style Tree value = styled_tree style value
styled style Json value = written_line json style value
styled style Lines value = styled_part_lines style value

-- a value whose type has this node, with its arrays of chars as a style has them
abbrev pub with_chars : Chars → List Node → (chars of : Option ℕ) → Value → Value
with_chars Numbers nodes chars of value = value
with_chars Text nodes chars of value = with_texts nodes chars of value

abbrev pub styled_printed : List Node → (chars of : Option ℕ) → Style → Mode → Value → List ℕ
styled_printed nodes chars of style mode value = styled style mode (with_chars style.chars nodes chars of value)

-- the same for a value beside its type
abbrev pub with_chars_in : Chars → Typed → Value
with_chars_in chars typed =
    with_chars chars (nodes_in (types_in typed)) (char_node_in (types_in typed)) (node_in typed) (mapped_in typed)

abbrev pub typed_printed : Style → Mode → Typed → List ℕ
typed_printed style mode typed = styled_printed (nodes_in (types_in typed)) (char_node_in (types_in typed))
    (node_in typed) style mode (mapped_in typed)
