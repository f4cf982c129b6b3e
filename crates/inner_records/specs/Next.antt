-- What the functions that map and write one element do.
use Rattle.std.specs.Prelude.{◌≡◌, ℕ, ◌+◌, ◌-◌, ◌<◌, ◌≤◌, List, Option, Some, Ok}
use Rattle.bit_space.specs.SpaceView.{SpaceView}
use Rattle.inner_records.specs.Elements.{EndsElements, IsElement, StopsElement, element_is}
use Rattle.inner_records.specs.Stored.{IsAtList, around_of, listed_of}
use Rattle.inner_records.specs.declared.elements.Elements.{Elements}
use Rattle.inner_records.specs.declared.stored.Stored.{Stored}
use Rattle.inner_lists.specs.declared.place.ListPlace.{ListPlace}
use Rattle.list_laws.specs.Meanings.{AreBytes, SpaceBytes, bytes_in, meaning_in}
use Rattle.list_laws.specs.Reaches.{Listed}
use Rattle.pickle_map.specs.declared.mapper.stop.Stop.{Stop}
use Rattle.pickle_meaning.specs.Values.{Value}
use Rattle.poke_batch.specs.declared.type_run.TypeRun.{TypeRun}
use Rattle.records.specs.Next.{EndsHereBy, GoesOnBy, held_value}
use Rattle.records.specs.declared.listing.Listing.{Listing}
use Rattle.records.specs.declared.listing.Progress.{Progress}
use Rattle.run_parts.specs.declared.outcome.Outcome.{Outcome}

-- an element is stored, which took so many steps
pub record HoldsElement (run : TypeRun) (list : Listed) (space : SpaceBytes) (at : Progress) (stored : Stored)
    (steps : ℕ) : Type 0 where
  pub value : Value
  pub there : held_value run stored.store ≡ Some value
  pub few : steps ≤ at.left - 1
  pub holds : (known : Option (List ℕ)) → AreBytes space known →
      element_is list at.place (meaning_in space known) (Ok value) steps

-- the frames of the list are as they were
pub record StaysAtList (run : TypeRun) (place : ListPlace) (stored stored' : Stored) : Type 0 where
  pub at_list : IsAtList run place stored'
  pub around : around_of run stored' ≡ around_of run stored

-- an element stopped after some steps
pub record IsStopped (list : Listed) (first last : SpaceView) (at : Progress) (stop : Stop) : Type 0 where
  pub after : ℕ
  pub stops : StopsElement list first last at after stop

-- one more element of a list was mapped, and what is due of it written
abbrev pub GoesOn : TypeRun → Listing → (first : SpaceView) → Listed → Progress → (out out' : Option (List ℕ)) →
    (next : Progress) → Type 0
GoesOn run listing first list at out out' next =
    GoesOnBy (IsElement list (bytes_in first)) run listing first at out out' next

-- the list ends here
abbrev pub EndsHere : TypeRun → Listing → (first last : SpaceView) → Listed → Elements → Progress →
    (out out' : Option (List ℕ)) → Outcome → Type 0
EndsHere run listing first last list elements at out out' ended =
    EndsHereBy (IsElement list (bytes_in first)) (EndsElements run listing first last list elements.last) run listing
    first at out out' ended
