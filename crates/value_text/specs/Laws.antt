-- The laws of printed values.
use Rattle.std.specs.Prelude.{◌≡◌, ℕ, List, Option, IfSome}
use Rattle.pickle_types.specs.declared.node.Node.{Node}
use Rattle.text_output.specs.declared.mode.Mode.{Mode}
use Rattle.text_output.specs.Styles.{plain}
use Rattle.value_text.specs.Printed.{printed}
use Rattle.value_text.specs.Styled.{styled_printed, with_chars}
use Rattle.pickle_meaning.specs.Values.{Value}
use Rattle.value_text.specs.Json.{Reads, IsJson}
use Rattle.value_text.specs.JsonValue.{Json}
use Rattle.value_text.specs.SmallParts.{HasSmallParts, HasFewMembers}
use Rattle.text_output.specs.declared.mode.Mode.TheVariants as mode
use Rattle.text_output.specs.declared.style.Style.{Style}
use Rattle.value_text.specs.StyledJsonValue.{styled_json_of}
use Rattle.value_text.specs.LineParts.{NamesParts}

-- the plain style prints what is printed without a style, whatever the types are
abbrev pub PrintsPlain : Type 0
PrintsPlain = (nodes : List Node) (chars of : Option ℕ) (mode : Mode) (value : Value) →
    styled_printed nodes chars of plain mode value ≡ printed mode value

-- What is printed in JSON reads as the value that was printed. If a style may leave elements out, their count has to be
-- below 2^64.
abbrev pub JsonReadsBack : Type 0
JsonReadsBack = (nodes : List Node) (chars of : Option ℕ) (style : Style) (value : Value) → HasSmallParts value
    → IfSome style.elements (λ most. HasFewMembers value)
    → Reads (styled_printed nodes chars of style mode.Json value)
    (styled_json_of style (with_chars style.chars nodes chars of value))

-- so it is a JSON text
abbrev pub PrintsJson : Type 0
PrintsJson = (nodes : List Node) (chars of : Option ℕ) (style : Style) (value : Value) → HasSmallParts value
    → IfSome style.elements (λ most. HasFewMembers value)
    → IsJson (styled_printed nodes chars of style mode.Json value)

-- a text reads as one value only
abbrev pub HasOneReading : Type 0
HasOneReading = (text : List ℕ) (a b : Json) → Reads text a → Reads text b → a ≡ b

-- what is printed over lines has one line for each part that has no parts itself, in order, under the path to its part
abbrev pub LinesNameParts : Type 0
LinesNameParts = (value : Value) → NamesParts value (printed mode.Lines value)
