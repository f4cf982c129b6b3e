-- The type that is mapped: the one that is named, or one that the head of the pickle says.
use Rattle.std.specs.Prelude.{◌&&◌, ℕ, Bool, true, false, List, Option, Some, None, if◌then◌else◌, option_map, string_bytes}
use Rattle.bit_space.specs.declared.order.Order.{Order}
use Rattle.bit_space.specs.declared.order.Order.TheVariants.{Big}
use Rattle.command_line.specs.Subjects.{is_by_head}
use Rattle.command_line.specs.declared.subject.HeadType.{HeadType}
use Rattle.command_line.specs.declared.subject.HeadType.TheVariants.{Documented, Inside, Records}
use Rattle.command_line.specs.declared.subject.Subject.{Subject}
use Rattle.command_line.specs.declared.subject.Subject.TheVariants.{Named, ByHead, Identified}
use Rattle.jobs.specs.declared.by_head.Chosen.{Chosen}
use Rattle.pickle_heads.specs.Heads.{inside_of, main_of, options_of, records_of}
use Rattle.pickle_heads.specs.Inside.{Among, by_type, no_type}
use Rattle.pickle_heads.specs.Options.{given_or_none}

-- the name of a type, and what a head gives with it: a byte order, and whether a value must end where its file does
pub record ChosenType : Type 0 where
  pub name : List ℕ
  pub order : Option Order
  pub whole : Bool

abbrev pub chosen_type : Chosen → ChosenType
chosen_type chosen = record { name = chosen.name.now; order = chosen.order; whole = chosen.whole }

-- whole files alone have values that end where they do
abbrev pub is_whole : HeadType → Bool
is_whole Documented = true
is_whole Inside = false
is_whole Records = false

-- the path that a head says from the type with a list of records to that list
abbrev pub list_path : (pickle : List ℕ) → Option (List ℕ)
list_path pickle = option_map (λ listed. listed.path) (records_of pickle)

-- a type with the options of the head of its pickle
abbrev pub with_options : (pickle : List ℕ) → HeadType → (name : List ℕ) → ChosenType
with_options pickle part name = record {
  name = name;
  order = (given_or_none (options_of pickle)).order;
  whole = (given_or_none (options_of pickle)).whole && is_whole part;
}

abbrev pub type_among : Option Among → Option (List ℕ)
type_among None = None
type_among (Some (no_type reason)) = None
type_among (Some (by_type name)) = Some name

-- the type that a head says for whole files, for the format inside other bytes, and for the list of records
abbrev pub head_type : HeadType → (pickle : List ℕ) → Option (List ℕ)
head_type Documented pickle = main_of pickle
head_type Inside pickle = type_among (inside_of pickle)
head_type Records pickle = option_map (λ listed. listed.of) (records_of pickle)

-- a type that is named has no options of the head
abbrev pub chosen : Subject → (pickle : List ℕ) → Option ChosenType
chosen (Named _ name) pickle = Some (record { name = string_bytes name; order = None; whole = false })
chosen Identified pickle = None
chosen (ByHead _ part) pickle = option_map (with_options pickle part) (head_type part pickle)

-- the type of a bound, by the arguments for its pickle and for the type
abbrev pub bound_type : (word name pickle : List ℕ) → Option (List ℕ)
bound_type word name pickle = if is_by_head word (Some name) then head_type Documented pickle else Some name

-- the byte order that is given, or else that of the head, or else big-endian
abbrev pub first_order : (given head : Option Order) → Order
first_order (Some order) head = order
first_order None (Some order) = order
first_order None None = Big
