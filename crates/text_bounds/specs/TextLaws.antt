-- The laws of the bounds on printed values.
use Rattle.std.specs.Prelude.{◌≡◌, ◌≤◌, ℕ, List, Option, Some, None, Ok, length}
use Rattle.bit_space.specs.declared.order.Order.{Order}
use Rattle.bit_space.specs.Bits.{bits_of}
use Rattle.bit_space.specs.SpaceView.{SpaceView}
use Rattle.pickle_types.specs.declared.node.Node.{Node}
use Rattle.pickle_types.specs.Types.{PokeType}
use Rattle.pickle_meaning.specs.Fits.{Fits}
use Rattle.pickle_meaning.specs.Means.{Means}
use Rattle.pickle_meaning.specs.Values.{Value, Levels}
use Rattle.command_line.specs.declared.ask.Ask.{Ask}
use Rattle.text_output.specs.declared.mode.Mode.{Mode}
use Rattle.text_output.specs.declared.style.Style.{Style}
use Rattle.command_line.specs.declared.path.Path.{Path}
use Rattle.run_parts.specs.declared.status.Status.{Status}
use Rattle.command_line.specs.declared.terms.Terms.{Terms}
use Rattle.text_output.specs.Styles.{plain}
use Rattle.text_bounds.specs.OutputRoom.{OutputIsBounded}
use Rattle.value_text.specs.Printed.{printed}
use Rattle.value_text.specs.Styled.{styled_printed}
use Rattle.poke_batch.specs.PathParts.{part_at}
use Rattle.poke_batch.specs.Runs.{MapsAs}
use Rattle.poke_batch.specs.RunsUnder.{MapsRequested}
use Rattle.text_bounds.specs.TextRoom.{most_text, most_text_in_any}
use Rattle.run_parts.specs.Told.{Says}

-- a printed value that fits a type on m bits has at most so many bytes
abbrev pub TextsAreBounded : Type 0
TextsAreBounded = (mode : Mode) (m : ℕ) (ty : PokeType) (levels : Levels) (s : ℕ) (v : Value) → Fits m ty levels s v →
    length (printed mode v) ≤ most_text plain mode ty m

-- and so has each part of it
abbrev pub PartTextsAreBounded : Type 0
PartTextsAreBounded =
    (mode : Mode) (m : ℕ) (ty : PokeType) (levels : Levels) (s : ℕ) (value : Value) (path : Option Path) (part : Value)
    → Fits m ty levels s value → part_at path value ≡ Some part → length (printed mode part) ≤ most_text plain mode ty m

-- and so has a value that a type means on a file's bits
abbrev pub MeantTextsAreBounded : Type 0
MeantTextsAreBounded =
    (mode : Mode) (bytes : List ℕ) (ty : PokeType) (order : Order) (levels : Levels) (s : ℕ) (v : Value) (k j : ℕ)
    → Means (bits_of bytes) ty order levels s (Ok v) k j
    → length (printed mode v) ≤ most_text plain mode ty (length (bits_of bytes))

-- so has a part in every style, by the types of any table
abbrev pub StyledTextsAreBounded : Type 0
StyledTextsAreBounded = (nodes : List Node) (chars of : Option ℕ) (style : Style) (mode : Mode) (m : ℕ) (ty : PokeType)
    (levels : Levels) (s : ℕ) (value : Value) (path : Option Path) (part : Value)
    → Fits m ty levels s value → part_at path value ≡ Some part
    → length (styled_printed nodes chars of style mode part) ≤ most_text style mode ty m

-- the bound for any mode is one for each
abbrev pub AnyModeIsBounded : Type 0
AnyModeIsBounded =
    (style : Style) (mode : Mode) (ty : PokeType) (m : ℕ) → most_text style mode ty m ≤ most_text_in_any style ty m

-- a mapping that prints what it must print writes no more than that
abbrev pub OutputsAreBounded : Type 0
OutputsAreBounded =
    (pickle : List ℕ) (ask : Ask) (before after : SpaceView) (status : Status) (out out' err err' : Option (List ℕ))
    → Says (MapsAs pickle ask before after) status out out' err err'
    → OutputIsBounded pickle ask plain before.len out out'

-- nor does one under terms without a look and a selection, in any style, which may print a part
abbrev pub OutputsUnderTermsAreBounded : Type 0
OutputsUnderTermsAreBounded = (pickle : List ℕ) (ask : Ask) (terms : Terms) (before after : SpaceView) (status : Status)
    (out out' err err' : Option (List ℕ))
    → terms.look ≡ None → terms.selection ≡ None
    → Says (MapsRequested pickle ask terms before after) status out out' err err'
    → OutputIsBounded pickle ask terms.style before.len out out'
