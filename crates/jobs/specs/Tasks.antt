-- What is due of a task with a file: its records, the bytes of a part, or the places of values.
use Rattle.std.specs.Prelude.{◌≡◌, ◌<◌, ◌≤◌, ◌*◌, ◌-◌, ℕ, Bool, true, false, if◌then◌else◌, List, [], ◌∷◌, max, Option, Some, None, is_some, Ok, Err, String, string_bytes}
use Rattle.std.specs.declared.alloc.Global.{Global}
use Rattle.bit_space.specs.SpaceView.{HasRisen, SpaceView}
use Rattle.command_line.specs.Starts.{start_bit}
use Rattle.command_line.specs.declared.ask.Ask.{Ask}
use Rattle.command_line.specs.declared.fault_form.FaultForm.{FaultForm}
use Rattle.command_line.specs.Paths.{IsPath, steps_of}
use Rattle.command_line.specs.declared.path.Path.{Path}
use Rattle.command_line.specs.declared.request.FileNames.{FileNames}
use Rattle.command_line.specs.declared.request.Over.{Over}
use Rattle.command_line.specs.declared.request.Over.TheVariants.{Bytes, File, Files, Records, Search}
use Rattle.command_line.specs.declared.request.RecordList.{RecordList}
use Rattle.command_line.specs.declared.request.RecordsOf.{RecordsOf}
use Rattle.command_line.specs.declared.request.RecordsOf.TheVariants as of
use Rattle.command_line.specs.declared.selection.Selection.{Selection}
use Rattle.command_line.specs.declared.selection.Shape.{Shape}
use Rattle.command_line.specs.declared.selection.Shape.TheVariants as shape
use Rattle.command_line.specs.declared.request.ValueSearch.{ValueSearch}
use Rattle.command_line.specs.declared.terms.Terms.{Terms}
use Rattle.jobs.specs.Aims.{IsAskAt, Requested}
use Rattle.jobs.specs.Due.{DueAfter, End, Holds}
use Rattle.jobs.specs.Gives.{Gives}
use Rattle.jobs.specs.Chosen.{list_path}
use Rattle.jobs.specs.Growth.{bytes_from, grow_limit, places_in}
use Rattle.jobs.specs.PlaceNames.{place_names_due}
use Rattle.jobs.specs.declared.ending.Ending.TheVariants.{Run}
use Rattle.jobs.specs.declared.fault.FileFault.{FileFault}
use Rattle.jobs.specs.declared.fault.FileFault.TheVariants as fault
use Rattle.jobs.specs.declared.task.Task.{Task}
use Rattle.jobs.specs.declared.task.Task.TheVariants as task
use Rattle.jobs.specs.declared.task.Work.{Work}
use Rattle.jobs.specs.declared.task.Work.TheVariants as work
use Rattle.pickle_meaning.specs.Values.{Value}
use Rattle.pickle_types.specs.Types.{PokeType}
use Rattle.poke_batch.specs.Runs.{HasNoType, IsAsked}
use Rattle.poke_batch.specs.RunsUnder.{LacksPart}
use Rattle.poke_batch.specs.Selected.{header_text}
use Rattle.poke_batch.specs.TypeRuns.{run_type}
use Rattle.poke_batch.specs.declared.type_run.TypeRun.{TypeRun}
use Rattle.raw_parts.specs.Copied.{AreBytes, Breaks}
use Rattle.raw_parts.specs.Mapped.{HasNoValue, IsMapped}
use Rattle.raw_parts.specs.Places.{IsDue, LacksBytes, bytes_end, bytes_from as bytes_start}
use Rattle.inner_records.specs.Elements.{EndsElements, IsElement}
use Rattle.inner_records.specs.Find.{element_type, list_at}
use Rattle.inner_records.specs.Written.{HasNoList, IsElementRun, IsReached, begin_at}
use Rattle.list_laws.specs.Meanings.{bytes_in}
use Rattle.list_laws.specs.Paths.{Path as Fields, is_last, is_open}
use Rattle.list_laws.specs.Reaches.{Listed}
use Rattle.records.specs.Written.{EndsList, Lists, ListsFrom}
use Rattle.records.specs.declared.listing.Listing.{Listing}
use Rattle.records.specs.declared.listing.Progress.{Progress}
use Rattle.searches.specs.Written.{EndsSearch, Searches}
use Rattle.searches.specs.declared.search.Reach.{Reach}
use Rattle.searches.specs.declared.search.Search.{Search as PlaceSearch}
use Rattle.run_parts.specs.Outcomes.{outcome_saying}
use Rattle.run_parts.specs.declared.outcome.Failure.{Failure}
use Rattle.run_parts.specs.declared.outcome.Failure.TheVariants as failure
use Rattle.run_parts.specs.declared.outcome.Outcome.{Outcome}
use Rattle.run_parts.specs.declared.outcome.Outcome.TheVariants as outcome
use Rattle.spool.specs.Window.{seen}
use Rattle.type_parts.specs.CanHave.{can_have_requested}

-- ---- each task, by a run

-- what the list of a request says of its records
abbrev pub listing_of : RecordList → Listing
listing_of list = record { omit = list.omit; count = list.count; any_end = list.any_end; flush = list.flush }

-- the names of the columns of rows come before the records, if they are wanted
abbrev pub names_of_shape : Shape → List ℕ
names_of_shape (shape.Parts patterns) = []
names_of_shape (shape.Rows rows) = header_text true rows.columns.items

abbrev pub names_of : Option Selection → List ℕ
names_of None = []
names_of (Some selection) = names_of_shape selection.shape

abbrev pub names_due : RecordList → Terms → List ℕ
names_due list terms = if list.header then names_of terms.selection else []

-- the path to a list that the head of a pickle says
pub record IsHeadPath (pickle : List ℕ) (path : Path) : Type 0 where
  pub text : List ℕ
  pub said : list_path pickle ≡ Some text
  pub is : IsPath text (steps_of path.steps.items)

-- why there is none: the head says none, or memory didn't suffice
pub data LacksHeadPath (pickle : List ℕ) : Outcome → Type 0 where
  unsaid : ((path : Path) → ¬ (IsHeadPath pickle path)) → LacksHeadPath pickle outcome.ImpossiblePart
  no_room : LacksHeadPath pickle (outcome.Failed failure.Memory)

-- of the elements of the array to which fields lead: the text of each, and how the list ends, or how a mapping ends
-- before the array
pub data DueElements (run : TypeRun) (fields : Fields) (list : RecordList) (file after : SpaceView) :
    (lines : List (List ℕ)) → Option End → Type 0 where
  all_elements : {listed : Listed} {left : ℕ} {inner : TypeRun} {at : Progress}
      {lines : List (List ℕ)} {ended : Outcome}
      → IsReached run fields (bytes_in file) listed left → IsElementRun run listed inner
      → ListsFrom (IsElement listed (bytes_in file)) inner (listing_of list) file
      (begin_at list.resume listed.start left) at lines
      → EndsElements inner (listing_of list) file after listed (is_last (run_type run) fields) at ended
      → DueElements run fields list file after lines (Some (Ok (Run ended)))
  first_elements : {listed : Listed} {left : ℕ} {inner : TypeRun} {at : Progress} {lines : List (List ℕ)}
      → IsReached run fields (bytes_in file) listed left → IsElementRun run listed inner
      → ListsFrom (IsElement listed (bytes_in file)) inner (listing_of list) file
      (begin_at list.resume listed.start left) at lines
      → DueElements run fields list file after lines None
  no_elements : {ended : Outcome} → HasNoList run fields file after ended →
      DueElements run fields list file after [] (Some (Ok (Run ended)))
  only_names : DueElements run fields list file after [] None

-- of the records from a run's start on, from the view of a space before to its view after: the text of each, and how
-- the list ends
pub data DueList (pickle : List ℕ) (run : TypeRun) (list : RecordList) (file after : SpaceView) :
    (lines : List (List ℕ)) → Option End → Type 0 where
  all_records : {at : Progress} {lines : List (List ℕ)} {ended : Outcome} → Lists run (listing_of list) file at lines
      → EndsList pickle run (listing_of list) file after at ended
      → DueList pickle run list file after lines (Some (Ok (Run ended)))
  first_records : {at : Progress} {lines : List (List ℕ)} → Lists run (listing_of list) file at lines →
      DueList pickle run list file after lines None

-- Of the elements of the array at a path in a value of a run's type. Nothing if the path leads to no array, if no
-- element can have a requested part, if the array has a bound and is to go on, or if memory doesn't suffice; else the
-- names of columns, the text of each element, and how the list ends, or how a mapping ends before the array.
pub data DueInner (pickle : List ℕ) (run : TypeRun) (path : Path) (list : RecordList) (file after : SpaceView) :
    (lines : List (List ℕ)) → Option End → Type 0 where
  no_list : list_at path.steps.items (run_type run) ≡ None →
      DueInner pickle run path list file after [] (Some (Ok (Run outcome.ImpossiblePart)))
  no_part : {fields : Fields} {ended : Outcome} → list_at path.steps.items (run_type run) ≡ Some fields
      → LacksPart (element_type (run_type run) fields) run.terms.now ended
      → DueInner pickle run path list file after [] (Some (Ok (Run ended)))
  no_resume : {fields : Fields} → list_at path.steps.items (run_type run) ≡ Some fields
      → is_open (run_type run) fields ≡ false → is_some list.resume ≡ true
      → DueInner pickle run path list file after [] (Some (Ok (Run outcome.Offset)))
  no_space : DueInner pickle run path list file after [] (Some (Ok (Run (outcome.Failed failure.Memory))))
  elements_due : {fields : Fields} {lines : List (List ℕ)} {end : Option End}
      → list_at path.steps.items (run_type run) ≡ Some fields
      → can_have_requested run.terms.now (element_type (run_type run) fields) ≡ true
      → DueAfter (names_due list run.terms.now) (DueElements run fields list file after) lines end
      → DueInner pickle run path list file after lines end

-- what a list of a request is: values of the type, or elements of the array at a path that is given or that the head
-- says
pub data DueRecords (pickle : List ℕ) (run : TypeRun) (list : RecordList) (file after : SpaceView) :
    RecordsOf → (lines : List (List ℕ)) → Option End → Type 0 where
  values_due : {lines : List (List ℕ)} {end : Option End}
      → DueAfter (names_due list run.terms.now) (DueList pickle run list file after) lines end
      → DueRecords pickle run list file after of.Values lines end
  inner_due : {path : Path} {lines : List (List ℕ)} {end : Option End}
      → DueInner pickle run path list file after lines end
      → DueRecords pickle run list file after (of.«Path» path) lines end
  headed_due : {path : Path} {lines : List (List ℕ)} {end : Option End} → IsHeadPath pickle path
      → DueInner pickle run path list file after lines end → DueRecords pickle run list file after of.Head lines end
  no_head : {ended : Outcome} → LacksHeadPath pickle ended →
      DueRecords pickle run list file after of.Head [] (Some (Ok (Run ended)))

-- Of the bytes of the requested part of a value: all of them; or those before some place, since a read or the output
-- failed; nothing if there is no such part or no value, or memory didn't suffice.
pub data DueCopy (pickle : List ℕ) (run : TypeRun) (file after : SpaceView) : (lines : List (List ℕ)) → Option End →
    Type 0 where
  copied : {value part : Value} {text : List ℕ} → IsMapped run file value → IsDue run file.len value part
      → AreBytes file (bytes_start part) (bytes_end part) text
      → DueCopy pickle run file after (text ∷ []) (Some (Ok (Run outcome.Done)))
  copied_some : {value part : Value} {text : List ℕ} {place : ℕ} {why : Failure} → IsMapped run file value
      → IsDue run file.len value part → bytes_start part ≤ place → place < bytes_end part
      → AreBytes file (bytes_start part) place text → Breaks file after why
      → DueCopy pickle run file after (text ∷ []) (Some (Ok (Run (outcome.Failed why))))
  not_copied : {value : Value} {ended : Outcome} → IsMapped run file value → LacksBytes run file.len value ended →
      DueCopy pickle run file after [] (Some (Ok (Run ended)))
  no_value : {ended : Outcome} → HasNoValue pickle run file after (outcome_saying ended) →
      DueCopy pickle run file after [] (Some (Ok (Run ended)))
  no_memory : DueCopy pickle run file after [] (Some (Ok (Run (outcome.Failed failure.Memory))))

-- what the search of a request says of its places, of which two never are the same
abbrev pub search_of : ValueSearch → PlaceSearch
search_of search = record {
  step = max 1 search.step;
  attempt_limit = search.attempt_limit;
  count = search.count;
  apart = search.apart;
  flush = search.flush;
}

-- of the places at which a run's type has a value, from the run's start on: the line of each, and how the search ends
pub data DueSearch (run : TypeRun) (search : ValueSearch) (file after : SpaceView) : (lines : List (List ℕ)) →
    Option End → Type 0 where
  all_values : {at : Reach} {lines : List (List ℕ)} {ended : Outcome} → Searches run (search_of search) file at lines
      → EndsSearch run (search_of search) file after at ended
      → DueSearch run search file after lines (Some (Ok (Run ended)))
  first_values : {at : Reach} {lines : List (List ℕ)} → Searches run (search_of search) file at lines →
      DueSearch run search file after lines None

abbrev pub DueOf : (pickle : List ℕ) → TypeRun → Task → (file after : SpaceView) → (lines : List (List ℕ)) →
    Option End → Type 0
DueOf pickle run (task.List of list) = λ file after. DueRecords pickle run list file after of.now
DueOf pickle run task.Copy = DueCopy pickle run
DueOf pickle run (task.Search search faults) = λ file after.
    DueAfter (place_names_due search false run.terms.now) (DueSearch run search file after)

-- a run is of a type that a pickle has under the requested name
abbrev pub IsRunOf : (pickle : List ℕ) → TypeRun → Type 0
IsRunOf pickle run = IsAsked pickle run.ask.now.name.now (run_type run)

-- a task is done with a space whose view is so afterwards; the view at the run's end has no more failures
pub record DoesTask (pickle : List ℕ) (run : TypeRun) (task : Task) (space space' : SpaceView)
    (out out' : Option (List ℕ)) (ended : Outcome) : Type 0 where
  pub after : SpaceView
  pub failures : after.failures ≤ space'.failures
  pub holds : Holds (DueOf pickle run task space after) out out' (Ok (Run ended))

-- the same of one thing that is due of a run
pub record DoesDue (Due : (file after : SpaceView) → (lines : List (List ℕ)) → Option End → Type 0)
    (space space' : SpaceView) (out out' : Option (List ℕ)) (ended : Outcome) : Type 0 where
  pub after : SpaceView
  pub failures : after.failures ≤ space'.failures
  pub holds : Holds (Due space after) out out' (Ok (Run ended))

abbrev pub ListsSpace : (pickle : List ℕ) → TypeRun → RecordsOf → RecordList → (space space' : SpaceView) →
    (out out' : Option (List ℕ)) → Outcome → Type 0
ListsSpace pickle run of list = DoesDue (λ file after. DueRecords pickle run list file after of)

abbrev pub ListsValues : (pickle : List ℕ) → TypeRun → RecordList → (space space' : SpaceView) →
    (out out' : Option (List ℕ)) → Outcome → Type 0
ListsValues pickle run list =
    DoesDue (λ file after. DueAfter (names_due list run.terms.now) (DueList pickle run list file after))

abbrev pub ListsInside : (pickle : List ℕ) → TypeRun → Path → RecordList → (space space' : SpaceView) →
    (out out' : Option (List ℕ)) → Outcome → Type 0
ListsInside pickle run path list = DoesDue (DueInner pickle run path list)

-- the same of elements, after the names of columns
abbrev pub ListsElements : TypeRun → Fields → RecordList → (space space' : SpaceView) → (out out' : Option (List ℕ)) →
    Outcome → Type 0
ListsElements run fields list =
    DoesDue (λ file after. DueAfter (names_due list run.terms.now) (DueElements run fields list file after))

abbrev pub CopiesSpace : (pickle : List ℕ) → TypeRun → (space space' : SpaceView) → (out out' : Option (List ℕ)) →
    Outcome → Type 0
CopiesSpace pickle run = DoesTask pickle run task.Copy

abbrev pub SearchesSpace : (pickle : List ℕ) → TypeRun → ValueSearch → FaultForm → (space space' : SpaceView) →
    (out out' : Option (List ℕ)) → Outcome → Type 0
SearchesSpace pickle run search faults = DoesTask pickle run (task.Search search faults)

-- ---- by a pickle

-- the requested parts are those of values of the type, and not of elements of an array in them
abbrev pub are_values : RecordsOf → Bool
are_values of.Values = true
are_values (of.«Path» path) = false
are_values of.Head = false

abbrev pub has_own_parts : Task → Bool
has_own_parts (task.List of list) = are_values of.now
has_own_parts task.Copy = true
has_own_parts (task.Search search faults) = true

-- a run of the requested type of a pickle, of which values can have the requested parts
pub record IsTaskRun (pickle : List ℕ) (ask : Ask) (terms : Terms) (task : Task) (run : TypeRun) : Type 0 where
  pub asked : IsRunOf pickle run
  pub ask_is : run.ask.now ≡ ask
  pub terms_are : run.terms.now ≡ terms
  pub can_have : has_own_parts task ≡ true → can_have_requested terms (run_type run) ≡ true

-- of a task with a space; nothing if there is no such type, or no value of it can have a requested part
pub data DueIn (pickle : List ℕ) (ask : Ask) (terms : Terms) (task : Task) (file after : SpaceView) :
    (lines : List (List ℕ)) → Option End → Type 0 where
  no_type : {ended : Outcome} → HasNoType pickle ask.name.now ended →
      DueIn pickle ask terms task file after [] (Some (Ok (Run ended)))
  no_part : {type : PokeType} {ended : Outcome} → has_own_parts task ≡ true → IsAsked pickle ask.name.now type
      → LacksPart type terms ended → DueIn pickle ask terms task file after [] (Some (Ok (Run ended)))
  run_due : {run : TypeRun} {lines : List (List ℕ)} {end : Option End} → IsTaskRun pickle ask terms task run
      → DueOf pickle run task file after lines end → DueIn pickle ask terms task file after lines end

pub record DoesTaskIn (pickle : List ℕ) (ask : Ask) (terms : Terms) (task : Task) (space space' : SpaceView)
    (out out' : Option (List ℕ)) (ended : Outcome) : Type 0 where
  pub after : SpaceView
  pub failures : after.failures ≤ space'.failures
  pub holds : Holds (DueIn pickle ask terms task space after) out out' (Ok (Run ended))

-- what the run of a task is given over what is seen of a file: the limit of steps may grow with it
abbrev pub task_ask : Task → (seen : SpaceView) → Ask → Ask
task_ask (task.List of list) seen ask = grow_limit list.grows (bytes_from seen.len ask.start) ask
task_ask task.Copy seen ask = ask
task_ask (task.Search search faults) seen ask =
    grow_limit search.grows (places_in (8 * seen.len - ask.start) (max 1 search.step)) ask

abbrev pub DueSeenIn : (pickle : List ℕ) → Ask → Terms → Task → (seen after : SpaceView) →
    (lines : List (List ℕ)) → Option End → Type 0
DueSeenIn pickle ask terms task seen after = DueIn pickle (task_ask task seen ask) terms task seen after

-- of a task with the file at a path: nothing if it would start before the file's first byte, or if the file isn't
-- opened, or memory for its pages lacks. A read fails only of a file of which one may fail
pub data DueTask (gives : Gives) (requested : Requested) (task : Task) (path pickle : List ℕ) :
    (lines : List (List ℕ)) → Option End → Type 0 where
  no_start : {file : SpaceView} → gives.is_file path requested.spool file
      → start_bit requested.aim.start file.len ≡ None
      → DueTask gives requested task path pickle [] (Some (Ok (Run outcome.Offset)))
  does_task : {file after : SpaceView} {lines : List (List ℕ)} {end : Option End} (start : ℕ) (ask : Ask)
      → gives.is_file path requested.spool file → start_bit requested.aim.start file.len ≡ Some start
      → IsAskAt requested.aim start (seen requested.window start file).len ask
      → (HasRisen file.failures after.failures → gives.is_failing path)
      → DueSeenIn pickle ask requested.terms task (seen requested.window start file) after lines end
      → DueTask gives requested task path pickle lines end
  not_opened : {fault : FileFault} → gives.is_unopened path requested.spool fault →
      DueTask gives requested task path pickle [] (Some (Err fault))
  no_pages : DueTask gives requested task path pickle [] (Some (Err fault.Memory))

-- ---- by what a request is over

-- it is such of the one file of this name
pub record IsOverFile (such : String Global → Over) (over : Over) (path : List ℕ) : Type 0 where
  pub file : String Global
  pub over_is : over ≡ such file
  pub path_is : path ≡ string_bytes file

-- it is over files with these names
pub record IsOverFiles (over : Over) (names : FileNames) : Type 0 where
  pub flush : Bool
  pub over_is : over ≡ Files names flush

-- it says a task with the file of this name, of which attempts that were given up are reported in a form
abbrev pub IsTaskOver : Over → FaultForm → (path : List ℕ) → Task → Type 0
IsTaskOver over faults path (task.List of list) = IsOverFile (λ file. Records file of.now list) over path
IsTaskOver over faults path task.Copy = IsOverFile (λ file. Bytes file) over path
IsTaskOver over faults path (task.Search search form) =
    IsOverFile (λ file. Search file search) over path × (form ≡ faults)

-- what is done over it
abbrev pub IsWorkOver : Over → FaultForm → Work → Type 0
IsWorkOver over faults (work.Map path) = IsOverFile (λ file. File file) over path.now
IsWorkOver over faults (work.MapEach names) = IsOverFiles over names.now
IsWorkOver over faults (work.Do path task) = IsTaskOver over faults path.now task
