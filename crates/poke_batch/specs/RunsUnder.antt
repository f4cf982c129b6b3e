-- What a run must print for a pickle under terms.
use Rattle.std.specs.Prelude.{◌*◌, ◌-◌, ◌/◌, min, ◌<◌, ◌≤◌, ◌≡◌, ℕ, Bool, true, false, ◌&&◌, List, Option, Some, None, Ok, length, nat_le, nat_lt, if◌then◌else◌, codes}
use Rattle.bit_space.specs.SpaceView.{SpaceView, GivesRange}
use Rattle.pickle_types.specs.declared.table.Table.{Table}
use Rattle.pickle_types.specs.declared.table.TypeId.{TypeId}
use Rattle.pickle_types.specs.NodeParts.{char_node_of}
use Rattle.pickle_types.specs.TypeTable.{nodes_of, type_named}
use Rattle.pickle_types.specs.Types.{PokeType}
use Rattle.pickle_types.specs.Bounds.{room}
use Rattle.mapping_plans.specs.Kept.{KeepsBy}
use Rattle.mapping_plans.specs.Mapping.{plan}
use Rattle.bit_space.specs.Bits.{bits_of}
use Rattle.pickle_meaning.specs.Fits.{Fits}
use Rattle.value_store.specs.Slots.{Held, fixed, weighing, each_of}
use Rattle.value_store.specs.Moves.{IsWithin, no_state}
use Rattle.value_store.specs.Weights.{Covers}
use Rattle.pickle_map.specs.Weighed.{WeighsBy}
use Rattle.pickle_meaning.specs.declared.faults.MapFaultKind.{MapFaultKind}
use Rattle.pickle_meaning.specs.declared.faults.MapFaultKind.TheVariants as fault
use Rattle.value_store.specs.declared.store.room.Growth.TheVariants.{Free}
use Rattle.run_parts.specs.FaultLines.{fault_saying}
use Rattle.pickle_meaning.specs.Values.{Value, start_of, end_of, no_values}
use Rattle.text_output.specs.declared.style.Look.{Look}
use Rattle.value_text.specs.ShowWords.{FileBytes, byte_after}
use Rattle.command_line.specs.declared.ask.Ask.{Ask}
use Rattle.run_parts.specs.declared.status.Status.{Status}
use Rattle.run_parts.specs.declared.status.Status.TheVariants.{Fault, Outside}
use Rattle.command_line.specs.declared.terms.Terms.{Terms}
use Rattle.run_parts.specs.Lines.{fault_line, fault_at_line}
use Rattle.poke_batch.specs.PathParts.{part_at, node_at}
use Rattle.poke_batch.specs.Selected.{Part, text_under, has_selected}
pub use Rattle.poke_batch.specs.Selected.{text_in}
use Rattle.poke_batch.specs.Runs.{HasAnswer, HasNoType, IsAsked, MapsAs}
use Rattle.run_parts.specs.declared.outcome.Failure.TheVariants as failure
use Rattle.run_parts.specs.declared.outcome.Outcome.{Outcome}
use Rattle.run_parts.specs.declared.outcome.Outcome.TheVariants as outcome
use Rattle.run_parts.specs.Outcomes.{outcome_saying}
use Rattle.type_parts.specs.CanHave.{can_have_requested}
use Rattle.run_parts.specs.Told.{Saying, Text, Line}

-- a text if it has no more bytes than the most, else a fault at the first bit of the mapping
abbrev pub text_saying : (most : Option ℕ) (start : ℕ) → List ℕ → Saying
text_saying None start text = Text text
text_saying (Some most) start text =
    if nat_le (length text) most then Text text else Line Fault (fault_at_line (codes "Output") start)

-- whether a value must end with the last bit of its file, and ends before that
abbrev pub is_left : (whole : Bool) (end bits : ℕ) → Bool
is_left whole end bits = whole && nat_lt end bits

-- what is printed of the requested part, if the value has it and it has the parts that are selected
abbrev pub part_saying : Ask → (most : Option ℕ) → (has : Value → Bool) → (text : Value → List ℕ) →
    Option Value → Saying
part_saying ask most has text None = Line Fault (fault_line (codes "NoSuchPart"))
part_saying ask most has text (Some part) =
    if has part then text_saying most ask.start (text part) else Line Fault (fault_line (codes "NoSuchPart"))

-- the requested part of a value that has a type of a table
abbrev pub requested : Table → TypeId → Terms → (value part : Value) → Part
requested table id terms value part =
    record { node = node_at (nodes_of table) terms.part (Some id.node) value; value = part }

-- its text beside bytes of its file, if they are known, and without them; whether it has the parts that are selected
abbrev pub text_beside : Table → TypeId → Ask → Terms → Option FileBytes → (value part : Value) → List ℕ
text_beside table id ask terms file value part =
    text_under (nodes_of table) (char_node_of table) terms file ask.mode (requested table id terms value part)

abbrev pub part_text : Table → TypeId → Ask → Terms → (value part : Value) → List ℕ
part_text table id ask terms value part = text_beside table id ask terms None value part

abbrev pub part_has : Table → TypeId → Terms → (value part : Value) → Bool
part_has table id terms value part = has_selected (nodes_of table) terms.selection (requested table id terms value part)

-- what is printed of a value that ends where it must, with bytes of its file beside it, and without them
abbrev pub kept_beside : Table → TypeId → Ask → Terms → Option FileBytes → Value → Saying
kept_beside table id ask terms file value =
    part_saying ask terms.most_output (part_has table id terms value) (text_beside table id ask terms file value)
    (part_at terms.part value)

abbrev pub kept_saying : Table → TypeId → Ask → Terms → Value → Saying
kept_saying table id ask terms value = kept_beside table id ask terms None value

-- what is printed of a value mapped from a file of so many bits: the first term that it fails to meet, or its text
abbrev pub saying_beside : Table → TypeId → Ask → Terms → Option FileBytes → (bits : ℕ) → Value → Saying
saying_beside table id ask terms file bits value =
    if is_left terms.whole (end_of value) bits then Line Fault (fault_at_line (codes "Left") (end_of value))
    else kept_beside table id ask terms file value

abbrev pub value_saying : Table → TypeId → Ask → Terms → (bits : ℕ) → Value → Saying
value_saying table id ask terms bits value = saying_beside table id ask terms None bits value

-- whether a look shows the bytes of parts
abbrev pub shows_bytes : Option Look → Bool
shows_bytes None = false
shows_bytes (Some look) = look.beside.bytes

-- how many bytes a part takes of a file of such a length
abbrev pub bytes_taken : (len : ℕ) → Value → ℕ
bytes_taken len part = min (byte_after (start_of part) (end_of part - start_of part)) len - start_of part / 8

-- bytes are those that a part takes of a file
pub record AreTaken (before : SpaceView) (part : Value) (file : FileBytes) : Type 0 where
  pub from : file.from ≡ start_of part / 8
  pub bytes : GivesRange before file.from (bytes_taken before.len part) file.bytes

-- the same of the requested part of a value, if it is there
abbrev pub AreBeside : SpaceView → Terms → (mapped : Value) → FileBytes → Type 0
AreBeside before terms mapped file =
    (part : Value) → part_at terms.part mapped ≡ Some part → AreTaken before part file

-- that is printed, or that memory didn't suffice to print it
pub data SaysIt (saying : Saying) : Saying → Type 0 where
  said_so : SaysIt saying saying
  no_memory_for_it : SaysIt saying (Line Outside (fault_line (codes "Memory")))

-- so many slots of each kind are too few for what a mapping stores on the file's bits, if these are known
pub record AreTooFew (most : ℕ) (type : PokeType) (ask : Ask) (space : SpaceView) : Type 0 where
  pub lack : (bytes : List ℕ) → space.bytes ≡ Some bytes
      → KeepsBy (λ state. IsWithin state (each_of most)) false (bits_of bytes)
      (plan (8 * space.len) type ask.order no_values ask.start) ask.limit no_state → ⊥

-- what a mapping stores on a file's bytes, where arrays are packed, never weighs more than so many bytes
abbrev pub WeighsAtMost : (most : ℕ) → PokeType → Ask → (bits : ℕ) → (bytes : List ℕ) → Type 0
WeighsAtMost most type ask bits bytes =
    WeighsBy (λ weight. weight ≤ most) true (bits_of bytes) (plan bits type ask.order no_values ask.start) ask.limit
    no_state

-- what a mapping stores on the file's bits, if these are known, weighs more than so many bytes
pub record AreTooHeavy (most : ℕ) (type : PokeType) (ask : Ask) (space : SpaceView) : Type 0 where
  pub lack : (bytes : List ℕ) → space.bytes ≡ Some bytes → WeighsAtMost most type ask (8 * space.len) bytes → ⊥

-- under terms with a most of bytes, it never weighs more than these
pub record AreLightUnder (terms : Terms) (type : PokeType) (ask : Ask) (space : SpaceView) : Type 0 where
  pub light : (most : ℕ) → terms.most_bytes ≡ Some most → (bytes : List ℕ) → space.bytes ≡ Some bytes →
      WeighsAtMost most type ask (8 * space.len) bytes

-- what a mapping under terms prints
pub data MapsUnder (pickle : List ℕ) (ask : Ask) (terms : Terms) (before after : SpaceView) : Saying → Type 0 where
  -- what the terms make of the value that the type means on the file's bits, if these are known; over any space, of one
  -- that fits; it is printed by a table that has the type
  mapped_under : {type : PokeType} {mapped : Value} (table : Table) (id : TypeId) → type_named table id ≡ type
      → shows_bytes terms.look ≡ false → IsAsked pickle ask.name.now type
      → ((bytes : List ℕ) → before.bytes ≡ Some bytes → HasAnswer bytes type ask.order ask.start ask.limit (Ok mapped))
      → Fits (8 * before.len) type no_values ask.start mapped → AreLightUnder terms type ask before
      → MapsUnder pickle ask terms before after (value_saying table id ask terms (8 * before.len) mapped)
  -- the same where a look shows the bytes of parts: beside those that the requested part takes of the file
  shown_under : {type : PokeType} {mapped : Value} (table : Table) (id : TypeId) (file : FileBytes)
      → type_named table id ≡ type
      → shows_bytes terms.look ≡ true → AreBeside before terms mapped file → IsAsked pickle ask.name.now type
      → ((bytes : List ℕ) → before.bytes ≡ Some bytes → HasAnswer bytes type ask.order ask.start ask.limit (Ok mapped))
      → Fits (8 * before.len) type no_values ask.start mapped → AreLightUnder terms type ask before
      → MapsUnder pickle ask terms before after (saying_beside table id ask terms (Some file) (8 * before.len) mapped)
  -- without a value: what a mapping without terms prints
  ended_under : {status : Status} {line : List ℕ} → MapsAs pickle ask before after (Line status line)
      → MapsUnder pickle ask terms before after (Line status line)
  -- so many slots of each kind, fewer than the mapping's bound, don't suffice
  slots_under : {type : PokeType} {most : ℕ} → IsAsked pickle ask.name.now type → terms.most_slots ≡ Some most
      → most < room type (8 * before.len) → AreTooFew most type ask before
      → MapsUnder pickle ask terms before after (Line Fault (fault_at_line (codes "Slots") ask.start))
  -- the values take more than so many bytes
  storage_under : {type : PokeType} {most : ℕ} → IsAsked pickle ask.name.now type → terms.most_bytes ≡ Some most
      → AreTooHeavy most type ask before
      → MapsUnder pickle ask terms before after (Line Fault (fault_at_line (codes "Storage") ask.start))

-- why a type isn't mapped under terms: no value of it has a requested part, or memory didn't suffice to decide that
pub data LacksPart (type : PokeType) (terms : Terms) : Outcome → Type 0 where
  no_part : can_have_requested terms type ≡ false → LacksPart type terms outcome.ImpossiblePart
  undecided : LacksPart type terms (outcome.Failed failure.Memory)

-- why nothing is mapped: the pickle has no type of a name, or the type can't have a requested part
pub data HasNoRun (pickle name : List ℕ) (terms : Terms) (ended : Outcome) : Type 0 where
  lacks_type : HasNoType pickle name ended → HasNoRun pickle name terms ended
  lacks_part : {type : PokeType} → IsAsked pickle name type → LacksPart type terms ended →
      HasNoRun pickle name terms ended

-- what a requested mapping prints: what it prints under its terms, if values of its type can have the requested parts
pub data MapsRequested (pickle : List ℕ) (ask : Ask) (terms : Terms) (before after : SpaceView) : Saying → Type 0 where
  not_run : {ended : Outcome} → HasNoRun pickle ask.name.now terms ended
      → MapsRequested pickle ask terms before after (outcome_saying ended)
  is_run : {type : PokeType} {saying : Saying} → IsAsked pickle ask.name.now type → can_have_requested terms type ≡ true
      → MapsUnder pickle ask terms before after saying → MapsRequested pickle ask terms before after saying

-- a store for a mapping under terms: with a most it has exactly that capacity
abbrev pub IsStoreOf : (most : Option ℕ) → Held → Type 0
IsStoreOf None store = store.room.growth ≡ Free
IsStoreOf (Some most) store = store.room ≡ fixed most

-- a store whose values weigh at most so many bytes, and that has capacity for all of these
pub record IsStoreWeighing (most : ℕ) (store : Held) : Type 0 where
  pub room : store.room ≡ weighing most
  pub covers : Covers most store.capacity

-- a store for a mapping under terms with these most slots and most bytes: with a most of bytes, one for these
abbrev pub IsStoreUnder : (slots bytes : Option ℕ) → Held → Type 0
IsStoreUnder slots None store = IsStoreOf slots store
IsStoreUnder slots (Some most) store = IsStoreWeighing most store

-- what is printed of a fault of a mapping that began at a bit, in a store of the most slots: `Slots` for an allocation
-- failure
abbrev pub fixed_saying : (start : ℕ) → MapFaultKind → (at : ℕ) → Saying
fixed_saying start fault.Memory at = Line Fault (fault_at_line (codes "Slots") start)
fixed_saying start kind at = fault_saying kind at

-- the same, in a store of the most slots or in one that grows
abbrev pub end_saying : (most : Option ℕ) (start : ℕ) → MapFaultKind → (at : ℕ) → Saying
end_saying None start kind at = fault_saying kind at
end_saying (Some most) start kind at = fixed_saying start kind at

-- what is printed of a fault of a mapping that began at a bit, in a store for so many bytes: `Storage` for an
-- allocation failure
abbrev pub weighing_saying : (start : ℕ) → MapFaultKind → (at : ℕ) → Saying
weighing_saying start fault.Memory at = Line Fault (fault_at_line (codes "Storage") start)
weighing_saying start kind at = fault_saying kind at

-- the same under terms with these most slots and most bytes
abbrev pub end_under_saying : (slots bytes : Option ℕ) (start : ℕ) → MapFaultKind → (at : ℕ) → Saying
end_under_saying slots None start kind at = end_saying slots start kind at
end_under_saying slots (Some most) start kind at = weighing_saying start kind at
