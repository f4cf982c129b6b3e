-- Arrays of packed structs of fixed layout, which a store makes of values that were placed as others are.
use Rattle.std.specs.Prelude.{◌≡◌, ◌⊎◌, ℕ, ◌+◌, ◌-◌, ◌*◌, ◌^◌, ◌<◌, ◌≤◌, true, false, List, [], ◌∷◌, ◌++◌, Option, Some, length, slice_get}
use Rattle.pickle_meaning.specs.Values.{ArrayLabel, Value, Mapped, Levels, pushed, gathered, label_of, start_of, end_of}
use Rattle.value_store.specs.declared.store.slots.Marks.{Marks}
use Rattle.value_store.specs.declared.store.slots.Node.{Node}
use Rattle.value_store.specs.declared.store.slots.Place.{Place}
use Rattle.value_store.specs.declared.store.slots.Place.TheVariants as place
use Rattle.value_store.specs.declared.stored.StoredValue.{StoredValue}
use Rattle.value_store.specs.Gathering.{last_value, IsGathering}
use Rattle.value_store.specs.Layouts.{row_of, row_length, template_of, templates_upto, length_upto, value_size, template_size, packs_value, IsFixed, IsStructLabel}
use Rattle.value_store.specs.Lent.{place_value, IsPlace}
use Rattle.value_store.specs.Moves.{PacksRecord, Moves, Refuses, IsWithin, state_of, moved, needed, with_value, with_links, with_first_value, with_first_drafted}
use Rattle.value_store.specs.Names.{Names}
use Rattle.value_store.specs.Records.{instance}
use Rattle.value_store.specs.Refs.{value_of}
use Rattle.value_store.specs.Takes.{Vector, NodesOf, FamiliesOf, LinksOf, PendingOf, TextsOf, BytesOf, of_vector, value_takes, level_takes}
use Rattle.value_store.specs.Weights.{IsUnbounded, TakesWeight, RejectsWeight, weight}
use Rattle.value_store.specs.Slots.{Slots, Held, packs, levels, cut_to, marks_of, innermost, AreLevels, Adds, HasSlots, HoldsInRoom, IsComposite, IsTemplatePart, AreTemplateParts}
use Rattle.pickle_meaning.specs.Values.{members_of, value_at as part_value}

-- the bytes of structs, side by side
abbrev pub joined_rows : List (List ℕ) → List ℕ
joined_rows [] = []
joined_rows (row ∷ rows) = row ++ joined_rows rows

-- structs of a template with these bytes, `size` bits each, the first moved by `shift`
abbrev pub instances_from : Value → (size shift : ℕ) → List (List ℕ) → List (Option Value)
instances_from template size shift [] = []
instances_from template size shift (row ∷ rows) =
    Some (instance template shift row) ∷ instances_from template size (shift + size) rows

-- an array of them
abbrev pub packed_array : Value → (size start : ℕ) → List (List ℕ) → Value
packed_array template size start rows =
    Mapped ArrayLabel start (start + size * length rows) (gathered (instances_from template size 0 rows))

-- each of these has so many bytes
abbrev pub HaveLength : (stride : ℕ) → List (List ℕ) → Type 0
HaveLength stride [] = Unit {0}
HaveLength stride (row ∷ rows) = (length row ≡ stride) × HaveLength stride rows

-- the last family is that of the last node
pub record EndsWithFamily (s : Slots) : Type 0 where
  pub node : Node
  pub found : slice_get s.nodes (length s.nodes - 1) ≡ Some node
  pub last : node.content + 1 ≡ length s.families

-- the innermost open value is an array of packed structs, with this template and these bytes
pub record IsPackingLike (names : Names) (h : Held) (template : Value) (size start : ℕ) (rows : List (List ℕ))
    (outer : Levels) : Type 0 where
  pub is : levels names h ≡ (Some (packed_array template size start rows) ∷ []) ∷ outer
  pub before : Slots
  pub gathering : IsGathering h before size (row_length template) start (joined_rows rows)
  pub last : last_value names before ≡ template
  pub first : Value
  pub drafted : template ≡ template_of first 0
  pub family : EndsWithFamily before
  pub lengths : HaveLength (row_length template) rows
  pub few : row_length template ≤ 512

-- after such an array, the innermost open value has one more struct, which was placed as others are
pub record IsPackingNext (names : Names) (h : Held) (template : Value) (size start : ℕ) (rows : List (List ℕ))
    (value : Value) (outer : Levels) : Type 0 where
  pub is : levels names h ≡ (Some (packed_array template size start rows) ∷ Some value ∷ []) ∷ outer
  pub slots : Slots
  pub packing : IsPackingLike names (record h { slots = slots }) template size start rows outer
  pub rest : cut_to (marks_of slots) h.slots ≡ slots

-- the innermost open value has just a struct, which may be the first of an array of packed structs
pub record TakesFirst (h : Held) : Type 0 where
  pub names : Names
  pub value : Value
  pub outer : Levels
  pub is : levels names h ≡ (Some value ∷ []) ∷ outer
  pub fixed : IsFixed value
  pub label : IsStructLabel (label_of value)
  pub some : 1 ≤ row_length value
  pub few : row_length value ≤ 512
  pub small : end_of value < start_of value + 2 ^ 32
  pub short : end_of value < 2 ^ 64
  pub packs : packs h.room ≡ true

-- it is the first
abbrev pub PacksFirst : (before after : Held) → Type 0
PacksFirst before after = (names : Names) (value : Value) (outer : Levels) →
    levels names before ≡ (Some value ∷ []) ∷ outer → IsFixed value →
    IsPackingLike names after (template_of value 0) (end_of value - start_of value) (start_of value)
    (row_of value ∷ []) outer

-- the lengths after a template, its array, and a struct of so many bytes were placed instead of the struct
abbrev pub with_first : Value → (stride : ℕ) → Marks → Marks
with_first template stride k = record {
  nodes = k.nodes + value_takes false NodesOf template + 1;
  families = k.families + value_takes false FamiliesOf template;
  links = k.links + value_takes false LinksOf template;
  pending = k.pending;
  texts = k.texts + 1;
  bytes = k.bytes + stride;
}

-- the lengths with the node, the end and the bytes of such an array, and with so many pending children
abbrev pub with_array : (waiting stride : ℕ) → Marks → Marks
with_array waiting stride k = record k {
  nodes = k.nodes + 1;
  pending = k.pending + waiting;
  texts = k.texts + 1;
  bytes = k.bytes + stride;
}

-- these are the lengths of the vectors, and the open values stay
abbrev pub MovesFirst : (before after : Held) → Type 0
MovesFirst before after = (names : Names) (value : Value) (outer : Levels) →
    levels names before ≡ (Some value ∷ []) ∷ outer → IsFixed value →
    state_of after ≡ record {
      now = with_first (template_of value 0) (row_length value) (marks_of before.slots);
      frames = before.frames;
    }

-- the call makes the move of the struct
abbrev pub MovesAsFirst : (before after : Held) → Type 0
MovesAsFirst before after = (names : Names) (value : Value) (outer : Levels) →
    levels names before ≡ (Some value ∷ []) ∷ outer → IsFixed value → Moves before after (packs_value value)

-- there is capacity for the most that the move needs
abbrev pub HoldsFirst : (before after : Held) → Type 0
HoldsFirst before after = (names : Names) (value : Value) (outer : Levels) →
    levels names before ≡ (Some value ∷ []) ∷ outer → IsFixed value →
    IsWithin (needed (packs before.room) (packs_value value) (state_of before)) after.capacity

-- that move is refused
abbrev pub RefusesFirst : Held → Type 0
RefusesFirst before = (names : Names) (value : Value) (outer : Levels) →
    levels names before ≡ (Some value ∷ []) ∷ outer → IsFixed value → Refuses before (packs_value value)

-- the innermost open value has an array of packed structs and a struct, which may be the next
pub record TakesNext (h : Held) : Type 0 where
  pub names : Names
  pub template : Value
  pub size : ℕ
  pub start : ℕ
  pub rows : List (List ℕ)
  pub value : Value
  pub outer : Levels
  pub next : IsPackingNext names h template size start rows value outer
  pub fixed : IsFixed value
  pub is : value ≡ instance template (size * length rows) (row_of value)
  pub short : start + size * (length rows + 1) < 2 ^ 64

-- it is the next
abbrev pub PacksNext : (before after : Held) → Type 0
PacksNext before after =
    (names : Names) (template : Value) (size start : ℕ) (rows : List (List ℕ)) (value : Value) (outer : Levels) →
    IsPackingNext names before template size start rows value outer → IsFixed value →
    value ≡ instance template (size * length rows) (row_of value) → start + size * (length rows + 1) < 2 ^ 64 →
    IsPackingLike names after template size start (rows ++ row_of value ∷ []) outer

-- of the struct just the bytes stay: the lengths of the vectors are those before it, but for its bytes
abbrev pub KeepsRow : (before after : Held) → Type 0
KeepsRow before after =
    (names : Names) (template : Value) (size start : ℕ) (rows : List (List ℕ)) (value : Value) (outer : Levels)
    (next : IsPackingNext names before template size start rows value outer) → IsFixed value →
    value ≡ instance template (size * length rows) (row_of value) → start + size * (length rows + 1) < 2 ^ 64 →
    state_of after ≡ moved true (PacksRecord (row_length template))
    (record { now = marks_of next.slots; frames = before.frames })

-- where its weight isn't bounded: the array's bytes and those of the struct are more than the capacity
abbrev pub LacksRow : Held → Type 0
LacksRow before =
    (names : Names) (template : Value) (size start : ℕ) (rows : List (List ℕ)) (value : Value) (outer : Levels)
    (next : IsPackingNext names before template size start rows value outer) → IsFixed value →
    value ≡ instance template (size * length rows) (row_of value) → start + size * (length rows + 1) < 2 ^ 64 →
    IsUnbounded before.room → before.capacity.bytes < length next.slots.bytes + row_length template

-- where the struct takes all that was stored after the array, the call makes the move of the struct
abbrev pub MovesAsNext : (before after : Held) → Type 0
MovesAsNext before after =
    (names : Names) (template : Value) (size start : ℕ) (rows : List (List ℕ)) (value : Value) (outer : Levels)
    (next : IsPackingNext names before template size start rows value outer) → IsFixed value →
    value ≡ instance template (size * length rows) (row_of value) → start + size * (length rows + 1) < 2 ^ 64 →
    marks_of before.slots ≡ with_value (value_size value) (marks_of next.slots) →
    Moves before after (packs_value value)

-- where the struct takes all that was stored after the array, that move is refused
abbrev pub RefusesNext : Held → Type 0
RefusesNext before =
    (names : Names) (template : Value) (size start : ℕ) (rows : List (List ℕ)) (value : Value) (outer : Levels)
    (next : IsPackingNext names before template size start rows value outer) → IsFixed value →
    value ≡ instance template (size * length rows) (row_of value) → start + size * (length rows + 1) < 2 ^ 64 →
    marks_of before.slots ≡ with_value (value_size value) (marks_of next.slots) →
    Refuses before (packs_value value)

-- the array is one more member of the value around it
abbrev pub ClosesPacking : (before after : Held) → Type 0
ClosesPacking before after =
    (names : Names) (template : Value) (size start : ℕ) (rows : List (List ℕ)) (outer : Levels) →
    IsPackingLike names before template size start rows outer →
    levels names after ≡ pushed outer (Some (packed_array template size start rows))

-- a value of fixed layout whose bytes fit a row that has so many
pub record HasRow (value : StoredValue) (count : ℕ) : Type 0 where
  pub names : Names
  pub fixed : IsFixed (value_of names value)
  pub few : count + row_length (value_of names value) ≤ 512

-- a value of fixed layout is at a place, and the bytes of its numbers begin at the byte `at` of a struct
pub record IsCopied (s : Slots) (place : Place) (at : ℕ) : Type 0 where
  pub there : IsPlace s place
  pub names : Names
  pub fixed : IsFixed (place_value names s place)
  pub few : at + row_length (place_value names s place) ≤ 512

-- such a value is at a node
abbrev pub IsNodeCopied : Slots → (node at : ℕ) → Type 0
IsNodeCopied s node at = IsCopied s (place.Node node) at

-- a part of a struct of `size` bits and `stride` bytes
pub record IsInStruct (value : Value) (at size stride start : ℕ) : Type 0 where
  pub fixed : IsFixed value
  pub fits : at + row_length value ≤ stride
  pub within : end_of value ≤ start + size

-- the store has only more than before
pub record HasGrown (before after : Held) : Type 0 where
  pub values : Names → List (Option Value)
  pub adds : Adds before.room before.slots after.slots values
  pub same : HasSlots before after after.slots

-- The template of a value needs more of some vector than its capacity: at most as much as the value takes where nothing
-- is packed, and a pending child for each of its nodes.
abbrev pub drafts : Vector → Value → ℕ
drafts NodesOf v = value_takes false NodesOf v
drafts FamiliesOf v = value_takes false FamiliesOf v
drafts LinksOf v = value_takes false LinksOf v
drafts PendingOf v = value_takes false NodesOf v
drafts TextsOf v = 0
drafts BytesOf v = 0

abbrev pub CannotDraft : Held → Place → Type 0
CannotDraft before place = (names : Names) → IsFixed (place_value names before.slots place) → (vector : Vector)
    × (of_vector vector before.capacity
    < of_vector vector (marks_of before.slots) + drafts vector (place_value names before.slots place))

-- nor is there capacity for an array after it, with a struct of so many bytes
abbrev pub CannotDraftArray : Held → Place → (count : ℕ) → Type 0
CannotDraftArray before place count = (names : Names) → IsFixed (place_value names before.slots place) →
    (vector : Vector) × (of_vector vector before.capacity < of_vector vector
    (with_first_drafted (template_size (place_value names before.slots place)) count (marks_of before.slots)))

-- or that array and the template weigh more than the store takes
abbrev pub RefusesArray : Held → Place → (count : ℕ) → Type 0
RefusesArray before place count = CannotDraftArray before place count
    ⊎ ((names : Names) → IsFixed (place_value names before.slots place) → RejectsWeight before.room
    (weight (with_first_value (template_size (place_value names before.slots place)) count (marks_of before.slots))))

-- the pending children above a mark don't fit as links of one value
abbrev pub CannotJoin : Held → (mark : ℕ) → Type 0
CannotJoin before mark = (vector : Vector) × (of_vector vector before.capacity
    < of_vector vector (with_links (record (marks_of before.slots) { pending = mark }) (marks_of before.slots)))

-- an array of packed structs with a struct of so many bytes doesn't fit, or not so many pending children
abbrev pub CannotHoldArray : Held → (waiting count : ℕ) → Type 0
CannotHoldArray before waiting count = (vector : Vector) × (of_vector vector before.capacity
    < of_vector vector (with_array waiting count (marks_of before.slots)))

-- the template of a value is one more part of the innermost open value; its numbers have bytes up to `end`
pub record PlacesTemplate (before after : Held) (place : Place) (at end : ℕ) : Type 0 where
  pub adds : Adds before.room before.slots after.slots
      (λ names. Some (template_of (place_value names before.slots place) at) ∷ [])
  pub same : HasSlots before after after.slots
  pub takes : (names : Names) (vector : Vector) → of_vector vector (marks_of after.slots)
      ≡ of_vector vector (marks_of before.slots)
      + level_takes false vector (Some (template_of (place_value names before.slots place) at) ∷ [])
  pub ends : (names : Names) → end ≡ at + row_length (place_value names before.slots place)
  pub node : ℕ
  pub pending : after.slots.pending ≡ before.slots.pending ++ Some node ∷ []
  pub last : node + 1 ≡ length after.slots.nodes
  pub family : (own : Node) → slice_get after.slots.nodes node ≡ Some own → IsComposite own.shape →
      own.content + 1 ≡ length after.slots.families
  pub part : (names : Names) (size stride start : ℕ) →
      IsInStruct (place_value names before.slots place) at size stride start →
      IsTemplatePart after.slots size stride start [] node

-- the same of the first members of a value
pub record PlacesTemplates (before after : Held) (place : Place) (at count end : ℕ) : Type 0 where
  pub adds : Adds before.room before.slots after.slots
      (λ names. templates_upto (members_of (place_value names before.slots place)) count at)
  pub same : HasSlots before after after.slots
  pub takes : (names : Names) (vector : Vector) → of_vector vector (marks_of after.slots)
      ≡ of_vector vector (marks_of before.slots)
      + level_takes false vector (templates_upto (members_of (place_value names before.slots place)) count at)
  pub ends : (names : Names) → end ≡ at + length_upto (members_of (place_value names before.slots place)) count
  pub links : List (Option ℕ)
  pub pending : after.slots.pending ≡ before.slots.pending ++ links
  pub parts : (names : Names) (size stride start : ℕ) →
      IsInStruct (place_value names before.slots place) at size stride start →
      AreTemplateParts after.slots size stride start [] links

-- the pending children above a mark were added to a store
pub record IsAbove (h : Held) (mark : ℕ) : Type 0 where
  pub below : Slots
  pub values : Names → List (Option Value)
  pub own : AreLevels h.room h.frames below
  pub adds : Adds h.room below h.slots values
  pub is : mark ≡ length below.pending

-- the store also has capacity for an array after the template, with a struct of so many bytes, and for as many pending
-- children as the template has nodes
pub record DraftsTemplate (before after : Held) (place : Place) (count : ℕ) : Type 0 where
  pub end : ℕ
  pub placed : PlacesTemplate before after place 0 end
  pub nodes : length after.slots.nodes + 1 ≤ after.capacity.nodes
  pub pending : length after.slots.pending + (length after.slots.nodes - (length before.slots.nodes + 1))
      ≤ after.capacity.pending
  pub texts : length after.slots.texts + 1 ≤ after.capacity.texts
  pub bytes : length after.slots.bytes + count ≤ after.capacity.bytes
  pub within : HoldsInRoom after
  -- with the array's node, end and bytes, and without the pending child of the template
  pub light : TakesWeight before.room (weight (marks_of after.slots) + (24 + count))

-- the lengths of the vectors up to the open array of packed structs
abbrev pub AreArrayMarks : Held → Marks → Type 0
AreArrayMarks h k =
    (names : Names) (template : Value) (size start : ℕ) (rows : List (List ℕ)) (value : Value) (outer : Levels)
    (next : IsPackingNext names h template size start rows value outer) → k ≡ marks_of next.slots

-- a row has the bytes of the part at a place of the innermost open value
abbrev pub IsRowAt : Held → (i : ℕ) → List ℕ → Type 0
IsRowAt h i row = (names : Names) (value : Value) → part_value (levels names h) 0 i ≡ Some value → row ≡ row_of value

-- that part is a value of fixed layout, whose bytes fit a row
pub record HasRowAt (h : Held) (i : ℕ) : Type 0 where
  pub names : Names
  pub value : Value
  pub is : part_value (levels names h) 0 i ≡ Some value
  pub fixed : IsFixed value
  pub few : row_length value ≤ 512
