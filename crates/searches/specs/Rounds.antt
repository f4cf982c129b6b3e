-- A search for many types: each start is tried for all of them.
use Rattle.std.specs.Prelude.{◌≡◌, ◌<◌, ◌≤◌, ◌+◌, ◌-◌, ◌*◌, ℕ, zero, suc, true, false, if◌then◌else◌, List, [], ◌∷◌, ◌++◌, Option, Some, None, length, slice_index, slice_index_or, slice_set}
use Rattle.std.specs.Io.KnownBytes.{Appends}
use Rattle.bit_space.specs.SpaceView.{SpaceView}
use Rattle.pickle_meaning.specs.declared.faults.MapFaultKind.TheVariants as fault
use Rattle.run_parts.specs.Told.{AppendsUpTo}
use Rattle.run_parts.specs.declared.outcome.Failure.TheVariants as failure
use Rattle.run_parts.specs.declared.outcome.Outcome.{Outcome}
use Rattle.run_parts.specs.declared.outcome.Outcome.TheVariants as outcome
use Rattle.searches.specs.Founds.{found_line}
use Rattle.searches.specs.Sought.{StopsType, TriesType, is_due, moved}
use Rattle.searches.specs.Starts.{first_of, goes_on, natural_end}
use Rattle.searches.specs.declared.hunt.Hunt.{Hunt}
use Rattle.searches.specs.declared.hunt.Tried.{Tried}
use Rattle.searches.specs.declared.search.Reach.{Reach}
use Rattle.searches.specs.declared.search.Search.{Search}
use Rattle.searches.specs.declared.sought.Sought.{Sought}
use Rattle.text_output.specs.declared.mode.Mode.{Mode}

-- ---- one start

-- one of a list
pub record IsNth (list : List Sought) (k : ℕ) (sought : Sought) : Type 0 where
  pub inside : k < length list
  pub is : slice_index_or list k sought ≡ sought

-- From where each type is tried again: from the file's beginning at first, and with `apart` from the end of its last
-- value.
abbrev pub first_places : (count : ℕ) → List ℕ
first_places zero = []
first_places (suc count) = first_places count ++ 0 ∷ []

abbrev pub places_after : Search → List ℕ → (k : ℕ) → (end : Option ℕ) → List ℕ
places_after search places k None = places
places_after search places k (Some end) = if search.apart then slice_set places k end else places

-- the line of a type's value, if it has one at a start
abbrev pub found_text : Mode → Sought → (start : ℕ) → (end : Option ℕ) → List ℕ
found_text mode sought start None = []
found_text mode sought start (Some end) = found_line mode sought.name.now sought.order start (end - start)

-- One type of the list is tried at a start, or passed over if it isn't due there.
pub data TriesNext (hunt : Hunt) (space : SpaceView) (k : ℕ) (at : Reach) (places : List ℕ) : Reach →
    (after text : List ℕ) → Type 0 where
  not_due : is_due hunt.search at (slice_index places k) ≡ false → TriesNext hunt space k at places at places []
  due : {sought : Sought} {tried : Tried} → is_due hunt.search at (slice_index places k) ≡ true
      → IsNth hunt.list.now k sought → TriesType hunt space at sought tried
      → TriesNext hunt space k at places tried.reach (places_after hunt.search places k tried.end)
      (found_text hunt.ask.now.mode sought at.place tried.end)

-- So many types of the list were tried at a start, one after the other. The search is now so far, and these are the
-- lines of the values.
pub data TriesTypes (hunt : Hunt) (space : SpaceView) (first : Reach) (places : List ℕ) : (count : ℕ) → Reach →
    (after text : List ℕ) → Type 0 where
  no_types : TriesTypes hunt space first places 0 first places []
  one_type : {k : ℕ} {at next : Reach} {before after text more : List ℕ}
      → TriesTypes hunt space first places k at before text → k < length hunt.list.now
      → TriesNext hunt space k at before next after more
      → TriesTypes hunt space first places (k + 1) next after (text ++ more)

-- all types were tried at a start
abbrev pub TriesAll : Hunt → SpaceView → (first : Reach) → (places : List ℕ) → Reach → (after text : List ℕ) → Type 0
TriesAll hunt space first places at after text =
    TriesTypes hunt space first places (length hunt.list.now) at after text

-- ---- all starts

-- the search goes on so far, with this text
pub data Rounds (hunt : Hunt) (space : SpaceView) : Reach → (places text : List ℕ) → Type 0 where
  no_rounds : Rounds hunt space (first_of hunt.ask.now) (first_places (length hunt.list.now)) []
  one_round : {at next : Reach} {places after text more : List ℕ} → Rounds hunt space at places text
      → goes_on hunt.search at (8 * space.len) ≡ true → TriesAll hunt space at places next after more
      → Rounds hunt space (moved hunt.search at.place next (8 * space.len)) after (text ++ more)

-- the search ends at one of the types
pub data EndsType (hunt : Hunt) (space last : SpaceView) (k : ℕ) (at : Reach) (places : List ℕ) : Outcome →
    Type 0 where
  stops : {sought : Sought} {ended : Outcome} → is_due hunt.search at (slice_index places k) ≡ true
      → IsNth hunt.list.now k sought → StopsType hunt space last at sought ended
      → EndsType hunt space last k at places ended
  lacks_memory : EndsType hunt space last k at places (outcome.Failed failure.Memory)

-- the search ends at a start, after so many types
pub data EndsStart (hunt : Hunt) (space last : SpaceView) (first : Reach) (places : List ℕ) : Outcome → Type 0 where
  after_types : {k : ℕ} {at : Reach} {before text : List ℕ} {ended : Outcome}
      → TriesTypes hunt space first places k at before text → EndsType hunt space last k at before ended
      → EndsStart hunt space last first places ended

-- How the search ends after so much: it starts past the file's end; it doesn't go on, since enough was found or the
-- file ends; it ends at the next start; memory didn't suffice.
pub data EndsRounds (hunt : Hunt) (space last : SpaceView) (at : Reach) (places : List ℕ) : Outcome → Type 0 where
  past_end : 8 * space.len < at.place →
      EndsRounds hunt space last at places (outcome.Fault (record { kind = fault.End; at = at.place }))
  finished : at.place ≤ 8 * space.len → goes_on hunt.search at (8 * space.len) ≡ false →
      EndsRounds hunt space last at places (natural_end hunt.search at)
  breaks : {ended : Outcome} → goes_on hunt.search at (8 * space.len) ≡ true
      → EndsStart hunt space last at places ended → EndsRounds hunt space last at places ended
  no_memory : EndsRounds hunt space last at places (outcome.Failed failure.Memory)

-- Written are the lines of the starts that were tried whole, in order, and the search ends as it must after them. If
-- the output fails, the first bytes of the next start's lines are written after them, or all.
pub data WritesTypes (hunt : Hunt) (space last : SpaceView) (out out' : Option (List ℕ)) (at : Reach) : Outcome →
    Type 0 where
  writes_all : {places text : List ℕ} {ended : Outcome} → Rounds hunt space at places text
      → EndsRounds hunt space last at places ended → Appends out out' text
      → WritesTypes hunt space last out out' at ended
  output_fails : {places text after more : List ℕ} {next : Reach} {out'' : Option (List ℕ)}
      → Rounds hunt space at places text → goes_on hunt.search at (8 * space.len) ≡ true
      → TriesAll hunt space at places next after more → Appends out out'' text → AppendsUpTo out'' out' more
      → WritesTypes hunt space last out out' at (outcome.Failed failure.Write)
