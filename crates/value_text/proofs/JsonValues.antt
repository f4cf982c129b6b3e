-- The texts of JSON values.
use Rattle.std.proofs.Common.{ℕ, zero, suc, ◌^◌, ◌<◌, List, [], ◌∷◌, ◌++◌, Some, None, codes, sym, subst, get_or}
use Rattle.std.proofs.lemmas.List.{append-nil, append_assoc}
use Rattle.std.proofs.lemmas.Option.{unwrap_or-slice_get}
use Rattle.pickle_meaning.specs.Values.{Naming, Label, StructLabel, UnionLabel}
use Rattle.value_store.specs.Labels.{member_name}
use Rattle.value_text.specs.JsonText.{key_text}
use Rattle.value_text.specs.Json.{no_blank, ReadsString, ReadsValue, empty_list, list, empty_object, object, Reads, json, ReadsElements, last_element, element, ReadsEntry, entry, ReadsEntries, last_entry, one_entry}
use Rattle.value_text.specs.JsonValue.{Json, JsonList, JsonObject, Elements, NoElements, ElementThen, Entries, NoEntries, EntryThen, key_of}
use Rattle.value_text.specs.SmallParts.{IsNameOfBytes, AreNamesOfBytes}
use Rattle.value_text.proofs.JsonWords.{string_is, place_is}

-- a value without blanks
pub bare : {text : List ℕ} {value : Json} → ReadsValue text value → Reads text value
bare {text} {value} h = subst (λ t. Reads t value) (append-nil text) (json no_blank h no_blank)

-- nothing, or a comma and more
pub data MoreElements : List ℕ → Elements → Type 0 where
  no_element : MoreElements [] NoElements
  more_elements : {text : List ℕ} {elements : Elements} → ReadsElements text elements →
      MoreElements (codes "," ++ text) elements

pub data MoreEntries : List ℕ → Entries → Type 0 where
  no_entry : MoreEntries [] NoEntries
  more_entries : {text : List ℕ} {entries : Entries} → ReadsEntries text entries →
      MoreEntries (codes "," ++ text) entries

-- what is in brackets
pub data InList : List ℕ → Elements → Type 0 where
  without_elements : InList [] NoElements
  with_elements : {text : List ℕ} {elements : Elements} → ReadsElements text elements → InList text elements

pub data InObject : List ℕ → Entries → Type 0 where
  without_entries : InObject [] NoEntries
  with_entries : {text : List ℕ} {entries : Entries} → ReadsEntries text entries → InObject text entries

pub element_then : {text more : List ℕ} {value : Json} {rest : Elements} → Reads text value → MoreElements more rest →
    ReadsElements (text ++ more) (ElementThen value rest)
element_then {text} {value = value} h no_element =
    subst (λ t. ReadsElements t (ElementThen value NoElements)) (sym (append-nil text)) (last_element h)
element_then h (more_elements more) = element h more

pub entry_then : {text more key : List ℕ} {value : Json} {rest : Entries} → ReadsEntry text key value →
    MoreEntries more rest → ReadsEntries (text ++ more) (EntryThen key value rest)
entry_then {text} {key = key} {value = value} h no_entry =
    subst (λ t. ReadsEntries t (EntryThen key value NoEntries)) (sym (append-nil text)) (last_entry h)
entry_then h (more_entries more) = one_entry h more

pub list_is : {text : List ℕ} {elements : Elements} → InList text elements →
    ReadsValue (codes "[" ++ (text ++ codes "]")) (JsonList elements)
list_is without_elements = empty_list no_blank
list_is (with_elements h) = list h

pub object_is : {text : List ℕ} {entries : Entries} → InObject text entries →
    ReadsValue (codes "{" ++ (text ++ codes "}")) (JsonObject entries)
object_is without_entries = empty_object no_blank
object_is (with_entries h) = object h

pub entry_is : {quoted text key : List ℕ} {value : Json} → ReadsString quoted key → ReadsValue text value →
    ReadsEntry ((quoted ++ codes ":") ++ text) key value
entry_is {quoted} {text} {key} {value} k h = subst (λ t. ReadsEntry t key value)
    (sym (append_assoc quoted (codes ":") text)) (entry no_blank k no_blank (bare h))

pub key_is : (name : Naming) (place : ℕ) → IsNameOfBytes name → place < 2 ^ 64 →
    ReadsString (key_text name place) (key_of name place)
key_is None place bytes small = place_is place small
key_is (Some name) place bytes small = string_is name bytes

name_is : (fields : List Naming) (place : ℕ) → AreNamesOfBytes fields → IsNameOfBytes (get_or fields place None)
name_is [] place h = tt
name_is (name ∷ names) zero h = h.0
name_is (name ∷ names) (suc place) h = name_is names place h.1

-- the names of members have bytes below 256
abbrev pub HasKeys : Label → Type 0
HasKeys label = (place : ℕ) → IsNameOfBytes (member_name label place)

pub struct_keys : (name : Naming) (fields : List Naming) → AreNamesOfBytes fields → HasKeys (StructLabel name fields)
struct_keys name fields h place =
    subst IsNameOfBytes (sym (unwrap_or-slice_get fields place None)) (name_is fields place h)

pub union_keys : (name : Naming) (index : ℕ) (alternative : Naming) → IsNameOfBytes alternative →
    HasKeys (UnionLabel name index alternative)
union_keys name index alternative h zero = h
union_keys name index alternative h (suc place) = tt
