-- What is written of the elements of a list inside a type, and how the list ends.
use Rattle.std.specs.Prelude.{◌≡◌, ℕ, ◌-◌, ◌*◌, ◌≤◌, Bool, List, Option, Some, None}
use Rattle.std.specs.Io.KnownBytes.{Keeps as KeepsBytes}
use Rattle.bit_space.specs.SpaceView.{SpaceView, HasRisen}
use Rattle.inner_lists.specs.Calls.{Claim, Comes, StopsAt}
use Rattle.inner_records.specs.Elements.{EndsElements, IsElement}
use Rattle.list_laws.specs.Meanings.{SpaceBytes, bytes_in}
use Rattle.list_laws.specs.Paths.{Path, is_last}
use Rattle.list_laws.specs.Reaches.{Faulty, Found, Lacking, Listed, Reached, Reaches}
use Rattle.pickle_map.specs.Mapped.{fault_of}
use Rattle.pickle_map.specs.declared.mapper.stop.Stop.{Stop}
use Rattle.pickle_meaning.specs.Values.{no_values}
use Rattle.poke_batch.specs.RunsUnder.{end_under_saying}
use Rattle.poke_batch.specs.TypeRuns.{run_type}
use Rattle.poke_batch.specs.declared.type_run.TypeRun.{TypeRun}
use Rattle.records.specs.Records.{first_of}
use Rattle.records.specs.Written.{WritesFrom}
use Rattle.records.specs.declared.listing.Listing.{Listing}
use Rattle.records.specs.declared.listing.Progress.{Progress}
use Rattle.run_parts.specs.Outcomes.{outcome_saying}
use Rattle.run_parts.specs.declared.outcome.Failure.TheVariants as failure
use Rattle.run_parts.specs.declared.outcome.Outcome.{Outcome}
use Rattle.run_parts.specs.declared.outcome.Outcome.TheVariants as outcome

-- what a path leads to from the type of a run, where the run starts
abbrev pub run_reaches : TypeRun → Path → SpaceBytes → Claim Reached
run_reaches run path space = λ M r k.
    Reaches (8 * space.len) M (run_type run) path run.ask.now.order no_values run.ask.now.start 0 r k

-- it leads to a list, after which so many steps are left
pub record IsReached (run : TypeRun) (path : Path) (space : SpaceBytes) (list : Listed) (left : ℕ) : Type 0 where
  pub taken : ℕ
  pub few : taken ≤ run.ask.now.limit
  pub rest : left ≡ run.ask.now.limit - taken
  pub comes : Comes space (run_reaches run path space) 0 taken (Found list)

-- How a run ends before the list: a field on the path is absent; what is before the list stops; memory didn't suffice.
pub data HasNoList (run : TypeRun) (path : Path) (first last : SpaceView) : Outcome → Type 0 where
  lacks : {taken : ℕ} → taken ≤ run.ask.now.limit
      → Comes (bytes_in first) (run_reaches run path (bytes_in first)) 0 taken Lacking
      → HasNoList run path first last outcome.NoSuchPart
  stopped : (taken : ℕ) (stop : Stop) {ended : Outcome} → taken ≤ run.ask.now.limit
      → StopsAt (bytes_in first) (HasRisen first.failures last.failures) (run_reaches run path (bytes_in first)) Faulty
      run.ask.now.limit 0 taken stop
      → outcome_saying ended ≡ end_under_saying run.terms.now.most_slots run.terms.now.most_bytes run.ask.now.start
      (fault_of stop run.ask.now.start).kind (fault_of stop run.ask.now.start).at
      → HasNoList run path first last ended
  no_memory : HasNoList run path first last (outcome.Failed failure.Memory)

-- the run of an element's type, in the byte order of its list
pub record IsElementRun (run : TypeRun) (list : Listed) (inner : TypeRun) : Type 0 where
  pub table : inner.table ≡ run.table
  pub type : run_type inner ≡ list.element
  pub terms : inner.terms ≡ run.terms
  pub ask : inner.ask.now ≡ record run.ask.now { order = list.order }

-- where a list begins that was reached: at its start, or at the bit where it goes on
abbrev pub begin_at : (resume : Option ℕ) → (start left : ℕ) → Progress
begin_at None start left = record { place = start; count = 0; left = left }
begin_at (Some place) start left = record { place = place; count = 0; left = left }

-- what is written of the elements of a list, from some of them on
abbrev pub WritesOf : TypeRun → Listing → (first last : SpaceView) → Listed → (is_last : Bool) → (begin : Progress) →
    (out out' : Option (List ℕ)) → Progress → Outcome → Type 0
WritesOf run listing first last list is_last begin out out' at ended =
    WritesFrom (IsElement list (bytes_in first)) (EndsElements run listing first last list is_last) run listing first
    begin out out' at ended

-- Written is the text of the elements of a list, each whole and in order, and the list ends as it must after them. If
-- the output fails, the first bytes of the next element's text are written after them, or all.
pub record WritesElements (run : TypeRun) (list : Listed) (left : ℕ) (is_last : Bool) (resume : Option ℕ)
    (listing : Listing) (first last : SpaceView) (out out' : Option (List ℕ)) (at : Progress) (ended : Outcome) :
    Type 0 where
  pub inner : TypeRun
  pub is_inner : IsElementRun run list inner
  pub writes : WritesOf inner listing first last list is_last (begin_at resume list.start left) out out' at ended

-- Nothing is written before the list is reached.
pub data WritesInner (run : TypeRun) (path : Path) (resume : Option ℕ) (listing : Listing) (first last : SpaceView)
    (out out' : Option (List ℕ)) : Progress → Outcome → Type 0 where
  not_reached : {ended : Outcome} → HasNoList run path first last ended → KeepsBytes out out'
      → WritesInner run path resume listing first last out out' (first_of run.ask.now) ended
  reached : {list : Listed} {left : ℕ} {at : Progress} {ended : Outcome}
      → IsReached run path (bytes_in first) list left
      → WritesElements run list left (is_last (run_type run) path) resume listing first last out out' at ended
      → WritesInner run path resume listing first last out out' at ended
