-- The place of the innermost field of each name.
use Rattle.std.specs.Prelude.{◌≡◌, ℕ, suc, List, [], ◌∷◌, map, take, slice_get, Option, Some, None, Bool, if◌then◌else◌}
use denote.Bor.{Bor}
use Rattle.pickle_types.specs.declared.scopes.Seen.{Seen}
use Rattle.pickle_types.specs.declared.many_fields.Entry.{Entry}
use Rattle.pickle_types.specs.declared.places_by_name.PlacesByName.{PlacesByName}
use Rattle.pickle_types.specs.PlacesByName.{place_at}
use Rattle.pickle_types.specs.Scopes.{is_named}
use Rattle.pickle_types.specs.Built.{bytes_now}

abbrev pub fields_of : List Entry → List Seen
fields_of = map (λ e. e.field)

abbrev pub or_here : Option ℕ → Bool → Option ℕ
or_here (Some later) here = Some (suc later)
or_here None here = if here then Some 0 else None

-- the place of the last field of a name
abbrev pub last_place : List ℕ → List Seen → Option ℕ
last_place word [] = None
last_place word (s ∷ seen) = or_here (last_place word seen) (is_named (bytes_now s.name) word)

-- the place of the last field is stored for each name, and with each field the place of the last one of its name before
-- it
pub record IsIndexed (entries : List Entry) (places : PlacesByName) : Type 0 where
  pub innermost : (word : List ℕ) → place_at places word ≡ last_place word (fields_of entries)
  pub hidden : (i : ℕ) (e : Entry) (name : Bor (List ℕ)) → slice_get entries i ≡ Some e → e.field.name ≡ Some name →
      e.hidden ≡ last_place name.now (take i (fields_of entries))
