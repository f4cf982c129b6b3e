-- The JSON value that a mapped value means in a style.
use Rattle.std.specs.Prelude.{ℕ, suc, ℤ, pos, Option, if◌then◌else◌, codes}
use Rattle.text_output.specs.declared.style.Numbers.{Numbers}
use Rattle.text_output.specs.declared.style.Numbers.TheVariants.{Decimal, Hexadecimal, Digits}
use Rattle.text_output.specs.declared.style.Style.{Style}
use Rattle.text_output.specs.Styles.{plain}
use Rattle.pickle_meaning.specs.Values.{Label, IntegerLabel, OffsetLabel, TextLabel, ArrayLabel, StructLabel, UnionLabel, Value, Mapped, Members, NoMembers, MemberThen, AbsentThen, member_count}
use Rattle.value_store.specs.Labels.{member_name}
use Rattle.value_text.specs.JsonValue.{Json, JsonString, JsonList, JsonObject, Elements, NoElements, ElementThen, Entries, NoEntries, EntryThen, whole_number, key_of}
use Rattle.value_text.specs.StyledNumbers.{signed_hex}
use Rattle.value_text.specs.CutArrays.{is_past}

-- a number, or a string of hexadecimal digits
abbrev pub integer_json : Numbers → ℤ → Json
integer_json Decimal number = whole_number number
integer_json Hexadecimal number = JsonString (signed_hex number)
integer_json Digits number = whole_number number

-- a magnitude, and a unit in bits
abbrev pub styled_offset_json : Numbers → (magnitude : ℤ) (unit : ℕ) → Json
styled_offset_json numbers magnitude unit = JsonObject (EntryThen (codes "magnitude") (integer_json numbers magnitude)
    (EntryThen (codes "unit") (whole_number (pos unit)) NoEntries))

-- how many more elements there are
abbrev pub more_json : (left : ℕ) → Json
more_json left = JsonObject (EntryThen (codes "..") (whole_number (pos left)) NoEntries)

module _ (style : Style) where
  abbrev mutual
    -- a number or a string for an integer, a list for an array, an object for the others but strings, of which each
    -- byte is a character
    pub styled_json_of : Value → Json
    styled_json_of (Mapped (IntegerLabel number type) start end _) = integer_json style.numbers number
    styled_json_of (Mapped (OffsetLabel magnitude type unit) start end _) =
        styled_offset_json style.numbers magnitude unit
    styled_json_of (Mapped (TextLabel bytes) start end _) = JsonString bytes
    styled_json_of (Mapped ArrayLabel start end members) = JsonList (styled_elements style.elements 0 members)
    styled_json_of (Mapped (StructLabel name fields) start end members) =
        JsonObject (styled_entries (StructLabel name fields) 0 members)
    styled_json_of (Mapped (UnionLabel name index alternative) start end members) =
        JsonObject (styled_entries (UnionLabel name index alternative) 0 members)

    -- the present members from a place on, up to the limit
    pub styled_elements : (limit : Option ℕ) → (place : ℕ) → Members → Elements
    styled_elements limit place NoMembers = NoElements
    styled_elements limit place (AbsentThen rest) =
        if is_past limit place then ElementThen (more_json (suc (member_count rest))) NoElements
        else styled_elements limit (suc place) rest
    styled_elements limit place (MemberThen value rest) =
        if is_past limit place then ElementThen (more_json (suc (member_count rest))) NoElements
        else ElementThen (styled_json_of value) (styled_elements limit (suc place) rest)

    -- the present members from a place on, under their keys
    pub styled_entries : Label → (place : ℕ) → Members → Entries
    styled_entries label place NoMembers = NoEntries
    styled_entries label place (AbsentThen rest) = styled_entries label (suc place) rest
    styled_entries label place (MemberThen value rest) = EntryThen (key_of (member_name label place) place)
        (styled_json_of value) (styled_entries label (suc place) rest)

-- in the plain style
abbrev pub json_of : Value → Json
json_of value = styled_json_of plain value
