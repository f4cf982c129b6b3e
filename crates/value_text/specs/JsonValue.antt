-- JSON values as data.
use Rattle.std.specs.Prelude.{ℕ, ℤ, pos, List, Some, None, decimal}
use Rattle.pickle_meaning.specs.Values.{Naming}

mutual
  pub data Json : Type 0 where
    JsonFalse : Json
    JsonTrue : Json
    JsonNull : Json
    -- an integer with so many digits after the point, times ten to a power
    JsonNumber : (digits : ℤ) (places : ℕ) (power : ℤ) → Json
    -- characters by their numbers; one beyond 65,535 is two of them, as in UTF-16
    JsonString : (characters : List ℕ) → Json
    JsonList : (elements : Elements) → Json
    JsonObject : (entries : Entries) → Json

  pub data Elements : Type 0 where
    NoElements : Elements
    ElementThen : (element : Json) (rest : Elements) → Elements

  -- keys and their values, in order
  pub data Entries : Type 0 where
    NoEntries : Entries
    EntryThen : (key : List ℕ) (value : Json) (rest : Entries) → Entries

-- the integer itself
abbrev pub whole_number : ℤ → Json
whole_number number = JsonNumber number 0 (pos 0)

-- the key of a field or an alternative: its name, or without one its place among the declared fields, from 0
abbrev pub key_of : Naming → (place : ℕ) → List ℕ
key_of None place = decimal place
key_of (Some name) place = name
