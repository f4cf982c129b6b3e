-- Names by their numbers.
use Rattle.std.specs.Prelude.{◌≡◌, ℕ, ◌≤◌, length, List, ◌++◌, map, Option, Some, None, option_map, nat_eq}
use Rattle.indexmap.specs.IndexMap.{IndexMap, values, get}
use Rattle.pickle_types.specs.declared.names.Declared.{Declared}
use Rattle.pickle_types.specs.declared.names.Named.{Named}
use Rattle.pickle_types.specs.declared.number_hasher.ByNumber.{ByNumber}
use Rattle.pickle_types.specs.declared.places_by_name.PlacesByName.{PlacesByName}
use Rattle.pickle_types.specs.FieldNames.{place_named, ArePlaced}
use Rattle.pickle_types.specs.Built.{declared_as}
use Rattle.pickle_types.specs.NamedTypes.{AreSingle}

-- names that are numbered, each by its place among them
abbrev pub numbered : List (List ℕ) → List (Option (List ℕ))
numbered = map (λ word. Some word)

-- the number of a name
abbrev pub number_in : List (List ℕ) → List ℕ → Option ℕ
number_in words word = place_named word (numbered words)

-- more names are numbered, and each name has the number that it had
pub record Extends (old new : List (List ℕ)) : Type 0 where
  pub more : List (List ℕ)
  pub is : new ≡ old ++ more

-- what is stored under the number of a name
abbrev pub at_number : {X : Type 0} → (ℕ → Option X) → Option ℕ → Option X
at_number at None = None
at_number at (Some number) = at number

-- the look-up by numbers finds what the look-up by names finds, and nothing is stored under a number that no name has
pub record IsNumbered {X : Type 0} (words : List (List ℕ)) (at : ℕ → Option X) (look : List ℕ → Option X) : Type 0 where
  pub kept : (word : List ℕ) → at_number at (number_in words word) ≡ look word
  pub unused : (number : ℕ) → length words ≤ number → at number ≡ None

-- what a map stores under a number
abbrev pub in_map : {X : Type 0} → IndexMap ℕ X ByNumber → ℕ → Option X
in_map kept number = get nat_eq kept number

abbrev pub declared_in : IndexMap ℕ Named ByNumber → ℕ → Option Declared
declared_in types number = option_map (λ d. d.declared) (in_map types number)

-- each name has its number, each type is stored under the number of its name, and no two types have the same name
pub record IsNaming (words : List (List ℕ)) (numbers : PlacesByName) (types : IndexMap ℕ Named ByNumber) : Type 0 where
  pub number : ArePlaced (numbered words) numbers
  pub type : IsNumbered words (declared_in types) (λ word. declared_as word (values types))
  pub single : AreSingle (values types)
