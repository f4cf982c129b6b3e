-- The laws of the JSON objects of files.
use Rattle.std.specs.Prelude.{◌≡◌, ◌*◌, ◌^◌, ◌<◌, ℕ, pos, List, [], ◌∷◌, ◌++◌, Some, None, Ok, codes}
use Rattle.bit_space.specs.SpaceView.{SpaceView}
use Rattle.pickle_types.specs.declared.table.Table.{Table}
use Rattle.pickle_types.specs.declared.table.TypeId.{TypeId}
use Rattle.pickle_types.specs.TypeTable.{type_named}
use Rattle.pickle_types.specs.Types.{PokeType}
use Rattle.pickle_meaning.specs.Fits.{Fits}
use Rattle.pickle_meaning.specs.Values.{Value, no_values}
use Rattle.command_line.specs.declared.ask.Ask.{Ask}
use Rattle.command_line.specs.declared.terms.Terms.{Terms}
use Rattle.run_parts.specs.declared.outcome.Outcome.TheVariants.{Done}
use Rattle.text_output.specs.declared.mode.Mode.TheVariants as mode
use Rattle.value_text.specs.Json.{Reads, ReadsValue}
use Rattle.value_text.specs.JsonValue.{Json, JsonString, JsonList, JsonObject, Elements, NoElements, ElementThen, Entries, NoEntries, EntryThen, whole_number}
use Rattle.value_text.specs.SmallParts.{AreBytes}
use Rattle.poke_batch.specs.FileLine.{shown_name}
use Rattle.poke_batch.specs.FileObject.{HoldsRun, file_object, text_lines, without_indent}
use Rattle.poke_batch.specs.PathParts.{part_at}
use Rattle.poke_batch.specs.RunLaws.{part_json}
use Rattle.poke_batch.specs.Runs.{IsAsked, HasAnswer}
use Rattle.poke_batch.specs.RunsUnder.{MapsUnder}
use Rattle.poke_batch.specs.declared.each.Kept.{Kept}

-- a string for each line
abbrev pub strings_of : List (List ℕ) → Elements
strings_of [] = NoElements
strings_of (line ∷ lines) = ElementThen (JsonString (without_indent line)) (strings_of lines)

-- the member with the lines of reasons, if there are any
abbrev pub why_entries : (reasons : List ℕ) → Entries
why_entries [] = NoEntries
why_entries (byte ∷ reasons) = EntryThen (codes "why") (JsonList (strings_of (text_lines (byte ∷ reasons)))) NoEntries

-- an object with the name of a file as its line has it, the exit status 0, a value, and reasons
abbrev pub done_object : (name : List ℕ) (value : Json) (reasons : List ℕ) → Json
done_object name value reasons =
    JsonObject (EntryThen (codes "name") (JsonString (shown_name name))
    (EntryThen (codes "status") (whole_number (pos 0)) (EntryThen (codes "value") value (why_entries reasons))))

-- the object of a run that is done reads so, if its text without the line feed reads as the value
abbrev pub DoneObjectReads : Type 0
DoneObjectReads = (name text reasons : List ℕ) (value : Json) → AreBytes name → AreBytes reasons → ReadsValue text value
    → Reads (file_object name Done (text ++ codes "\n") reasons) (done_object name value reasons)

-- What is stored of a run that is done makes an object that reads as the requested part of the value that was mapped.
-- If the file's bits are known, that is the value that the type means on them; over any space it is one that fits.
pub record ReadsAsObject (pickle : List ℕ) (ask : Ask) (terms : Terms) (before : SpaceView) (kept : Kept)
    (name reasons : List ℕ) : Type 0 where
  pub type : PokeType
  pub asked : IsAsked pickle ask.name.now type
  pub table : Table
  pub id : TypeId
  pub named : type_named table id ≡ type
  pub mapped : Value
  pub means : (bytes : List ℕ) → before.bytes ≡ Some bytes →
      HasAnswer bytes type ask.order ask.start ask.limit (Ok mapped)
  pub fits : Fits (8 * before.len) type no_values ask.start mapped
  pub part : Value
  pub found : part_at terms.part mapped ≡ Some part
  pub reads : Reads (file_object name kept.outcome kept.text.items reasons)
      (done_object name (part_json table id terms mapped part) reasons)

-- a run in JSON without a selection, of a space of fewer than 2^60 bytes, as each space is
abbrev pub StoredObjectReadsBack : Type 0
StoredObjectReadsBack =
    (pickle : List ℕ) (ask : Ask) (terms : Terms) (before after : SpaceView) (kept : Kept) (name reasons : List ℕ)
    → ask.mode ≡ mode.Json → terms.look ≡ None → terms.selection ≡ None → before.len < 2 ^ 60 → AreBytes name
    → AreBytes reasons → kept.outcome ≡ Done
    → HoldsRun (MapsUnder pickle ask terms before after) kept → ReadsAsObject pickle ask terms before kept name reasons
