-- The laws of what runs write.
use Rattle.std.specs.Prelude.{◌≡◌, ◌*◌, ◌^◌, ◌<◌, ◌⊎◌, ℕ, List, [], ◌∷◌, ◌++◌, map, Option, Some, None, Ok, codes}
use Rattle.std.specs.Io.KnownBytes.{Appends}
use Rattle.bit_space.specs.SpaceView.{SpaceView}
use Rattle.pickle_types.specs.declared.node.Node.{Node}
use Rattle.pickle_types.specs.declared.table.Table.{Table}
use Rattle.pickle_types.specs.declared.table.TypeId.{TypeId}
use Rattle.pickle_types.specs.NodeParts.{char_node_of}
use Rattle.pickle_types.specs.TypeTable.{nodes_of, type_named}
use Rattle.pickle_types.specs.Types.{PokeType}
use Rattle.pickle_meaning.specs.Fits.{Fits}
use Rattle.pickle_meaning.specs.Values.{Value, Levels, no_values}
use Rattle.command_line.specs.declared.ask.Ask.{Ask}
use Rattle.text_output.specs.declared.mode.Mode.{Mode}
use Rattle.text_output.specs.declared.mode.Mode.TheVariants as mode
use Rattle.text_output.specs.declared.style.Style.{Style}
use Rattle.text_output.specs.Styles.{plain}
use Rattle.command_line.specs.declared.path.Path.{Path}
use Rattle.command_line.specs.declared.pattern.PatternStep.{PatternStep}
use Rattle.command_line.specs.declared.pattern.PatternStep.TheVariants.{Exact}
use Rattle.command_line.specs.declared.selection.Absent.TheVariants as absent
use Rattle.command_line.specs.declared.selection.Column.{Column}
use Rattle.run_parts.specs.declared.status.Status.{Status}
use Rattle.run_parts.specs.declared.status.Status.TheVariants.{Done}
use Rattle.command_line.specs.declared.terms.Terms.{Terms}
use Rattle.value_text.specs.Json.{Reads}
use Rattle.value_text.specs.JsonValue.{Json}
use Rattle.value_text.specs.Styled.{with_chars}
use Rattle.value_text.specs.StyledJsonValue.{styled_json_of, json_of}
use Rattle.poke_batch.specs.PathParts.{part_at, node_at}
use Rattle.poke_batch.specs.Runs.{IsAsked, HasAnswer, MapsAs}
use Rattle.poke_batch.specs.RunsUnder.{MapsRequested, part_text}
use Rattle.poke_batch.specs.Selected.{Part, cell_of, each_text, is_there, lines_of, parts_through, path_part, pattern_lines, row_line, those}
use Rattle.value_text.specs.ShowParts.{SightOf}
use Rattle.value_text.specs.SmallParts.{HasSmallParts}
use Rattle.run_parts.specs.Told.{Says}

-- a value that fits a type of an accepted pickle has small parts
abbrev pub MappedPartsAreSmall : Type 0
MappedPartsAreSmall = (pickle name : List ℕ) (m : ℕ) (type : PokeType) (levels : Levels) (start : ℕ) (value : Value)
    → IsAsked pickle name type → Fits m type levels start value → HasSmallParts value

-- The bytes that were written are a text in JSON of the part at a path of a value. If the file's bits are known, that
-- is the value that the type means on them; over any space it is one that fits.
pub record WritesJson (pickle : List ℕ) (ask : Ask) (path : Option Path) (before : SpaceView)
    (out out' : Option (List ℕ)) : Type 0 where
  pub type : PokeType
  pub asked : IsAsked pickle ask.name.now type
  pub mapped : Value
  pub means : (bytes : List ℕ) → before.bytes ≡ Some bytes →
      HasAnswer bytes type ask.order ask.start ask.limit (Ok mapped)
  pub fits : Fits (8 * before.len) type no_values ask.start mapped
  pub part : Value
  pub found : part_at path mapped ≡ Some part
  pub text : List ℕ
  pub written : Appends out out' text
  pub reads : Reads text (json_of part)

-- a mapping in JSON that is done wrote the value that was mapped
abbrev pub MappedJsonReadsBack : Type 0
MappedJsonReadsBack =
    (pickle : List ℕ) (ask : Ask) (before after : SpaceView) (status : Status) (out out' err err' : Option (List ℕ))
    → ask.mode ≡ mode.Json → status ≡ Done → Says (MapsAs pickle ask before after) status out out' err err'
    → WritesJson pickle ask None before out out'

-- and under terms in the plain style, without a look and a selection, the part that they request
abbrev pub PartJsonReadsBack : Type 0
PartJsonReadsBack = (pickle : List ℕ) (ask : Ask) (terms : Terms) (before after : SpaceView) (status : Status)
    (out out' err err' : Option (List ℕ))
    → ask.mode ≡ mode.Json → terms.style ≡ plain → terms.look ≡ None → terms.selection ≡ None → status ≡ Done
    → Says (MapsRequested pickle ask terms before after) status out out' err err'
    → WritesJson pickle ask terms.part before out out'

-- the JSON value of a part of a mapped value in a style, by the types of a table
abbrev pub part_json : Table → TypeId → Terms → (mapped part : Value) → Json
part_json table id terms mapped part =
    styled_json_of terms.style (with_chars terms.style.chars (nodes_of table) (char_node_of table)
    (node_at (nodes_of table) terms.part (Some id.node) mapped) part)

-- The same as `WritesJson` in the style of terms: the text reads as the part in that style, by a table that has the
-- type.
pub record WritesStyledJson (pickle : List ℕ) (ask : Ask) (terms : Terms) (before : SpaceView)
    (out out' : Option (List ℕ)) : Type 0 where
  pub type : PokeType
  pub asked : IsAsked pickle ask.name.now type
  pub table : Table
  pub id : TypeId
  pub named : type_named table id ≡ type
  pub mapped : Value
  pub means : (bytes : List ℕ) → before.bytes ≡ Some bytes →
      HasAnswer bytes type ask.order ask.start ask.limit (Ok mapped)
  pub fits : Fits (8 * before.len) type no_values ask.start mapped
  pub part : Value
  pub found : part_at terms.part mapped ≡ Some part
  pub text : List ℕ
  pub written : Appends out out' text
  pub reads : Reads text (part_json table id terms mapped part)

-- in every style, without a selection, of a space of fewer than 2^60 bytes, as each space is
abbrev pub StyledPartJsonReadsBack : Type 0
StyledPartJsonReadsBack = (pickle : List ℕ) (ask : Ask) (terms : Terms) (before after : SpaceView) (status : Status)
    (out out' err err' : Option (List ℕ))
    → ask.mode ≡ mode.Json → terms.look ≡ None → terms.selection ≡ None → before.len < 2 ^ 60 → status ≡ Done
    → Says (MapsRequested pickle ask terms before after) status out out' err err'
    → WritesStyledJson pickle ask terms before out out'

-- a path leads to one part, or to none, whether it is a pattern or a path
abbrev pub PathsLeadToOnePart : Type 0
PathsLeadToOnePart = (nodes : List Node) (path : Path) (part : Part) →
    parts_through nodes (map Exact path.steps.items) part ≡ path_part nodes path part ∷ []

-- in flat and in JSON the cell of a part that is there is what the request of this part alone prints, but for the line
-- feed at its end
abbrev pub CellsAreParts : Type 0
CellsAreParts = (table : Table) (id : TypeId) (ask : Ask) (terms : Terms) (path : Path) (mapped part : Value)
    → (ask.mode ≡ mode.Flat) ⊎ (ask.mode ≡ mode.Json) → terms.look ≡ None → terms.selection ≡ None
    → terms.part ≡ Some path → part_at (Some path) mapped ≡ Some part
    → cell_of (nodes_of table) (char_node_of table) terms.style ask.mode
    (path_part (nodes_of table) path (record { node = Some id.node; value = mapped })) ++ codes "\n"
    ≡ part_text table id ask terms mapped part

-- where rows that lack a part are left out, the lines are those of the rows that have the parts of all columns, in
-- their order
abbrev pub PrintedRowsAreWhole : Type 0
PrintedRowsAreWhole = (nodes : List Node) (chars : Option ℕ) (sight : Option SightOf) (style : Style) (mode : Mode)
    (columns : List Column) (part : Part) (steps : List PatternStep)
    → pattern_lines nodes chars sight style mode (row_line absent.Skip columns) part steps
    ≡ each_text (lines_of nodes chars sight style mode (row_line absent.Fault columns))
    (those (is_there nodes (row_line absent.Fault columns)) (parts_through nodes steps part))
