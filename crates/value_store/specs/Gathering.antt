-- Open arrays of packed structs.
use Rattle.std.specs.Prelude.{◌≡◌, ℕ, ◌+◌, ◌-◌, ◌*◌, ◌/◌, ◌^◌, ◌<◌, ◌≤◌, true, List, [], ◌∷◌, ◌++◌, Option, Some, None, length, take, drop}
use Rattle.value_store.specs.declared.store.slots.Shape.TheVariants.{Records}
use Rattle.value_store.specs.declared.store.slots.Shape.{Shape}
use Rattle.pickle_meaning.specs.Means.{value_of}
use Rattle.pickle_meaning.specs.Values.{ArrayLabel, Value, Mapped, Levels, outer_of, pushed, gathered}
use Rattle.value_store.specs.Closed.{struct_label}
use Rattle.value_store.specs.Names.{Names}
use Rattle.value_store.specs.Packed.{bytes_for}
use Rattle.value_store.specs.Records.{records}
use Rattle.value_store.specs.Slots.{Slots, Held, packs, value_at, number_bits, innermost, AreRecords, IsColumn, IsTemplate, AreLevels, levels}

-- an array of the structs that these bytes are
abbrev pub records_array : Value → (size stride start : ℕ) → List ℕ → Value
records_array template size stride start bytes =
    Mapped ArrayLabel start
    (start + size * (length bytes / stride)) (gathered (records template size stride 0 (length bytes / stride) bytes))

-- a new array of packed structs, which are these bytes, takes the place of the pending children above a mark; the last
-- node is its template
abbrev pub with_records : (size stride : ℕ) → List ℕ → (start mark : ℕ) → Slots → Slots
with_records size stride bytes start mark s = record {
  nodes = s.nodes ++ record { start = start; content = length s.texts; shape = Records stride size } ∷ [];
  families = s.families;
  links = s.links;
  pending = take mark s.pending ++ Some (length s.nodes) ∷ [];
  texts = s.texts ++ (length s.bytes + length bytes) ∷ [];
  bytes = s.bytes ++ bytes;
}

-- the value of the last node
abbrev pub last_value : Names → Slots → Value
last_value names s = value_at names s (length s.nodes - 1)

-- the last node is the template of structs of these bytes
abbrev pub EndsWithTemplate : Slots → (size stride start : ℕ) → List ℕ → Type 0
EndsWithTemplate s size stride start bytes = IsTemplate s (length s.nodes) size stride start bytes

-- the numbers of packed structs, whose bytes are side by side from `at` on
abbrev pub AreColumns : Slots → (size stride at start : ℕ) → (bytes : List ℕ) → (links : List (Option ℕ)) → Type 0
AreColumns s size stride at start bytes [] = at ≡ stride
AreColumns s size stride at start bytes (None ∷ ls) = ⊥
AreColumns s size stride at start bytes (Some j ∷ ls) =
    (column : IsColumn s size stride start bytes j) × (column.node.content ≡ at)
    × AreColumns s size stride (at + bytes_for (number_bits column.node.shape)) start bytes ls

-- the innermost open value has just numbers, those of the template of structs of `size` bits and so far `at` bytes
abbrev pub IsDraft : Held → (size start at : ℕ) → Type 0
IsDraft h size start at = AreColumns h.slots size at 0 start [] (drop (innermost h.frames).pending h.slots.pending)

-- the innermost open value is an array of packed structs, which are these bytes; before it took the place of its
-- template, the store held these slots
pub record IsGathering (h : Held) (before : Slots) (size stride start : ℕ) (bytes : List ℕ) : Type 0 where
  pub is : h.slots ≡ with_records size stride bytes start (innermost h.frames).pending before
  pub own : AreLevels h.room h.frames before
  pub template : EndsWithTemplate before size stride start bytes
  pub are : AreRecords size stride bytes start
  pub packs : packs h.room ≡ true

-- the frames with such an array, inside others
abbrev pub gathering_levels : Names → (before : Slots) → (size stride start : ℕ) → List ℕ → Levels → Levels
gathering_levels names before size stride start bytes outer =
    (Some (records_array (last_value names before) size stride start bytes) ∷ []) ∷ outer

-- the template has one more number, of a shape and from the bit `begin` on
abbrev pub AddsColumn : (before after : Held) → Shape → (begin at : ℕ) → Type 0
AddsColumn before after shape begin at =
    (size start : ℕ) → IsDraft before size start at → begin + number_bits shape ≤ start + size →
    IsDraft after size start (at + bytes_for (number_bits shape))

-- the numbers of the innermost open value became the template of an array without structs, which takes their place
pub record BeginsRecords (h n : Held) (of size stride start : ℕ) : Type 0 where
  pub before : Slots
  pub gathering : IsGathering n before size stride start []
  pub template : (names : Names) →
      last_value names before ≡ value_of (struct_label names of) start (start + size) (levels names h)
  pub levels : (names : Names) →
      levels names n ≡ gathering_levels names before size stride start [] (outer_of (levels names h))

-- the open array may have one more struct, of these bytes
pub record TakesRecord (h : Held) (more : List ℕ) : Type 0 where
  pub before : Slots
  pub size : ℕ
  pub stride : ℕ
  pub start : ℕ
  pub bytes : List ℕ
  pub gathering : IsGathering h before size stride start bytes
  pub whole : length more ≡ stride
  pub short : start + size * (length bytes / stride + 1) < 2 ^ 64
  pub fits : EndsWithTemplate before size stride start more

-- the array has one more struct
pub record OneMore (h n : Held) (before : Slots) (size stride start : ℕ) (bytes : List ℕ) : Type 0 where
  pub gathering : IsGathering n before size stride start bytes
  pub levels : (names : Names) →
      levels names n ≡ gathering_levels names before size stride start bytes (outer_of (levels names h))

abbrev pub Gathers : (before after : Held) → (more : List ℕ) → Type 0
Gathers h n more = (before : Slots) (size stride start : ℕ) (bytes : List ℕ) →
    IsGathering h before size stride start bytes → length more ≡ stride →
    start + size * (length bytes / stride + 1) < 2 ^ 64 → EndsWithTemplate before size stride start more →
    OneMore h n before size stride start (bytes ++ more)

-- the array is one more member of the value around it
abbrev pub ClosesRecords : (before after : Held) → Type 0
ClosesRecords h n = (names : Names) (before : Slots) (size stride start : ℕ) (bytes : List ℕ) →
    IsGathering h before size stride start bytes →
    levels names n
    ≡ pushed (outer_of (levels names h)) (Some (records_array (last_value names before) size stride start bytes))
