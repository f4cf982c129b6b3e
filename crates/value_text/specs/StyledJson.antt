-- The printed value in a style, in JSON.
use Rattle.std.specs.Prelude.{ℕ, Bool, List, Option}
use Rattle.text_output.specs.declared.style.Style.{Style}
use Rattle.pickle_meaning.specs.Values.{Value, Members}
use Rattle.value_text.specs.Notation.{json}
use Rattle.value_text.specs.StyledValue.{written, written_members}

abbrev pub styled_json : Style → Value → List ℕ
styled_json style value = written json style value

abbrev pub styled_json_members : Style → (limit : Option ℕ) (before : (place : ℕ) → List ℕ) (place : ℕ) (first : Bool) →
    Members → List ℕ
styled_json_members style limit before place first members = written_members json style limit before place first members
