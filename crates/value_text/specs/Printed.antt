-- The whole output for a value without a style, in each mode.
use Rattle.std.specs.Prelude.{ℕ, List}
use Rattle.pickle_meaning.specs.Values.{Value}
use Rattle.text_output.specs.declared.mode.Mode.{Mode}
use Rattle.text_output.specs.Styles.{plain}
use Rattle.value_text.specs.Styled.{styled}

-- it is printed in the plain style
abbrev pub printed : Mode → Value → List ℕ
printed mode value = styled plain mode value
