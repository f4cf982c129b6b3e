-- What each job is due to write to standard output, and how it ends then, by what an opener gives for its arguments.
use Rattle.std.specs.Prelude.{◌≡◌, ◌≢◌, ◌<◌, ℕ, Bool, true, List, [], ◌∷◌, ◌++◌, Option, Some, None, Ok, Err, String, length, codes, string_bytes}
use Rattle.std.specs.Io.KnownBytes.{Keeps}
use Rattle.std.specs.declared.alloc.Global.{Global}
use Rattle.bit_space.specs.SpaceView.{HasRisen, SpaceView}
use Rattle.command_line.specs.Found.{no_terms}
use Rattle.command_line.specs.Starts.{start_bit}
use Rattle.command_line.specs.Subjects.{pickle_of}
use Rattle.command_line.specs.declared.answer_form.AnswerForm.{AnswerForm}
use Rattle.command_line.specs.declared.answer_form.AnswerForm.TheVariants as answer
use Rattle.command_line.specs.declared.ask.Ask.{Ask}
use Rattle.command_line.specs.declared.identification.Identification.{Identification}
use Rattle.command_line.specs.declared.request.FileNames.{FileNames}
use Rattle.command_line.specs.declared.request.FileNames.TheVariants.{Words, EndedByZero}
use Rattle.command_line.specs.declared.request.Over.{Over}
use Rattle.command_line.specs.declared.request.Over.TheVariants.{File, Search}
use Rattle.command_line.specs.declared.request.Request.{Request}
use Rattle.command_line.specs.declared.words.Job.{Job}
use Rattle.command_line.specs.declared.words.Job.TheVariants as job
use Rattle.jobs.specs.Aims.{IsAskAt, Requested, of_request, plain_request}
use Rattle.jobs.specs.Chosen.{bound_type}
use Rattle.jobs.specs.Due.{DueOver, DueRun, End, Holds}
use Rattle.jobs.specs.Explained.{AreUnfinished, ExplainsFrom}
use Rattle.jobs.specs.Formats.{DueFormats}
use Rattle.jobs.specs.Files.{Every, IdentifiesFrom, MapsFrom, answer_form, file_form}
use Rattle.identification.specs.declared.format.Formats.{Formats}
use Rattle.jobs.specs.Gives.{Gives}
use Rattle.jobs.specs.Installed.{DueAmong, folder_of}
use Rattle.jobs.specs.Tasks.{DueTask, IsOverFile, IsOverFiles, IsTaskOver}
use Rattle.jobs.specs.declared.task.Task.{Task}
use Rattle.jobs.specs.Hunted.{DueHuntedFile}
use Rattle.jobs.specs.Identified.{DueIdentifiedFile}
use Rattle.jobs.specs.Spaces.{DueSpace}
use Rattle.jobs.specs.Lines.{StopsList, StopsWords, WritesList, WritesWords}
use Rattle.jobs.specs.declared.ending.Ending.TheVariants.{Run, Silent}
use Rattle.jobs.specs.declared.fault.FileFault.{FileFault}
use Rattle.jobs.specs.declared.fault.FileFault.TheVariants as fault
use Rattle.pickle_json.specs.Checks.{ChecksInJson}
use Rattle.pickle_json.specs.TypeObjects.{TypesInJson}
use Rattle.poke_batch.specs.FileObject.{lines_json, text_lines}
use Rattle.pickle_types.specs.Types.{PokeType}
use Rattle.part_lists.specs.PartRuns.{PartsAs}
use Rattle.poke_batch.specs.Runs.{ChecksAs, BoundsAs, IsAsked}
use Rattle.poke_batch.specs.RunsUnder.{HasNoRun}
use Rattle.type_parts.specs.CanHave.{can_have_requested}
use Rattle.run_parts.specs.Accepted.{Refuses}
use Rattle.run_parts.specs.DumpText.{dump_text}
use Rattle.run_parts.specs.Outcomes.{outcome_members, outcome_saying, outcome_status}
use Rattle.run_parts.specs.Told.{Saying, Text}
use Rattle.run_parts.specs.TypesText.{TypesAs}
use Rattle.run_parts.specs.declared.accept.Refusal.{Refusal}
use Rattle.run_parts.specs.declared.dump.DumpFault.TheVariants as dump
use Rattle.run_parts.specs.declared.outcome.Failure.{Failure}
use Rattle.run_parts.specs.declared.outcome.Failure.TheVariants as failure
use Rattle.run_parts.specs.declared.outcome.Outcome.{Outcome}
use Rattle.run_parts.specs.declared.outcome.Outcome.TheVariants as outcome
use Rattle.run_parts.specs.declared.status.Status.{Status}
use Rattle.run_parts.specs.declared.status.Status.TheVariants.{Done, Refused}
use Rattle.text_bounds.specs.TextRuns.{TextBoundsAs}
use Rattle.tight_bounds.specs.TightRuns.{TightBoundsAs}
use Rattle.memory_bounds.specs.MemoryRuns.{MemoryBoundAs}
use Rattle.jobs.specs.declared.pickles.BoundOf.{BoundOf}
use Rattle.jobs.specs.declared.pickles.BoundOf.TheVariants as bound
use Rattle.spool.specs.Window.{seen}

-- lines that explain an outcome, as a member of the object that reports it, if there are any
abbrev pub some_notes : (lines : List ℕ) → List ℕ
some_notes lines = codes ",\"notes\":[" ++ (lines_json true (text_lines lines) ++ codes "]")

abbrev pub notes_member : (lines : List ℕ) → List ℕ
notes_member [] = []
notes_member (byte ∷ bytes) = some_notes (byte ∷ bytes)

abbrev pub report_text : Outcome → (lines : List ℕ) → List ℕ
report_text ended lines = codes "{" ++ (outcome_members ended ++ (notes_member lines ++ codes "}\n"))

-- of an outcome that is reported in JSON: its object; nothing if the output failed before
pub data DueReport (ended : Outcome) (notes : List ℕ) : (lines : List (List ℕ)) → Option End → Type 0 where
  report_due : ended ≢ outcome.Failed failure.Write →
      DueReport ended notes (report_text ended notes ∷ []) (Some (Ok (Silent (outcome_status ended))))
  unreported : ended ≡ outcome.Failed failure.Write → DueReport ended notes [] (Some (Ok (Run ended)))

-- of a check in JSON: its answer
pub data DueCheck (why : Bool) (pickle : List ℕ) : (lines : List (List ℕ)) → Option End → Type 0 where
  answer_due : {status : Status} {text : List ℕ} → ChecksInJson pickle why status text →
      DueCheck why pickle (text ∷ []) (Some (Ok (Silent status)))

-- of a list of types in JSON: an object for each, or what a check answers for a refused pickle
pub data DueTypes (why : Bool) (pickle : List ℕ) : (lines : List (List ℕ)) → Option End → Type 0 where
  types_due : {text : List ℕ} → TypesInJson pickle (Text text) →
      DueTypes why pickle (text ∷ []) (Some (Ok (Silent Done)))
  refusal_due : {refusal : Refusal} {status : Status} {text : List ℕ} → Refuses pickle refusal
      → ChecksInJson pickle why status text → DueTypes why pickle (text ∷ []) (Some (Ok (Silent status)))
  failure_due : {ended : Outcome} {lines : List (List ℕ)} {end : Option End} → TypesInJson pickle (outcome_saying ended)
      → ended ≢ outcome.Done → ((refusal : Refusal) → ended ≢ outcome.Refused refusal)
      → DueReport ended [] lines end → DueTypes why pickle lines end

-- of a check and a list of types in a form
abbrev pub DueCheckIn : (why : Bool) → AnswerForm → (pickle : List ℕ) → (lines : List (List ℕ)) → Option End → Type 0
DueCheckIn why answer.Text pickle = DueRun (ChecksAs pickle)
DueCheckIn why answer.Json pickle = DueCheck why pickle

abbrev pub DueTypesIn : (why : Bool) → AnswerForm → (pickle : List ℕ) → (lines : List (List ℕ)) → Option End → Type 0
DueTypesIn why answer.Text pickle = DueRun (TypesAs pickle)
DueTypesIn why answer.Json pickle = DueTypes why pickle

-- what a mapping does with every file
abbrev pub every_for : (why : Bool) → Requested → (pickle : List ℕ) → Every
every_for why requested pickle = record {
  start = requested.aim.start;
  window = requested.window;
  spool = requested.spool;
  form = file_form requested.aim.mode requested.faults;
  why = why;
  runs = MapsFrom (record { pickle = pickle; aim = requested.aim; terms = requested.terms });
  explains = ExplainsFrom (record { pickle = pickle; aim = requested.aim; terms = requested.terms }) why;
}

-- what finding the formats of files does with every file
abbrev pub every_format : (why : Bool) → Identification → AnswerForm → Formats → Every
every_format why asked form formats = record {
  start = asked.start;
  window = asked.window;
  spool = asked.spool;
  form = answer_form form asked.faults;
  why = why;
  runs = IdentifiesFrom formats asked.all form;
  explains = λ start file. AreUnfinished formats;
}

-- of what the head of a pickle says: nothing but a usage error if it doesn't say that
pub data DueIfAny {A : Type 0} (Due : A → (lines : List (List ℕ)) → Option End → Type 0) : Option A →
    (lines : List (List ℕ)) → Option End → Type 0 where
  due_of : {found : A} {lines : List (List ℕ)} {end : Option End} → Due found lines end →
      DueIfAny Due (Some found) lines end
  usage_due : DueIfAny Due None [] (Some (Ok (Silent Refused)))
  usage_unwritten : DueIfAny Due None [] (Some (Ok (Run (outcome.Failed failure.Memory))))

-- what a run prints that is requested to print such bounds of a type of a pickle
abbrev pub BoundsOf : (pickle type : List ℕ) → BoundOf → Saying → Type 0
BoundsOf pickle type (bound.Plain bits) = BoundsAs pickle type bits
BoundsOf pickle type (bound.Tight bits) = TightBoundsAs pickle type bits
BoundsOf pickle type (bound.Memory bits) = MemoryBoundAs pickle type bits
BoundsOf pickle type (bound.Text texts) = TextBoundsAs pickle type texts.bits texts.style texts.mode

-- of bounds of a type, by the arguments for the pickle and for the type
abbrev pub DueBound : (word name : List ℕ) → BoundOf → (pickle : List ℕ) →
    (lines : List (List ℕ)) → Option End → Type 0
DueBound word name of pickle = DueIfAny (λ type. DueRun (BoundsOf pickle type of)) (bound_type word name pickle)

-- Of files: the lines of all of them, and the greatest exit status. A failure may stop them, and so does an output that
-- fails.
pub data DueFiles (WritesAll : Status → (lines : List (List ℕ)) → Type 0)
    (Stops : Option Failure → (lines : List (List ℕ)) → Type 0) : (lines : List (List ℕ)) → Option End → Type 0 where
  all_files : {lines : List (List ℕ)} {greatest : Status} → WritesAll greatest lines →
      DueFiles WritesAll Stops lines (Some (Ok (Silent greatest)))
  first_files : {lines : List (List ℕ)} {stop : Option Failure} → Stops stop lines → DueFiles WritesAll Stops lines None
  files_end : {lines : List (List ℕ)} {why : Failure} → Stops (Some why) lines →
      DueFiles WritesAll Stops lines (Some (Ok (Run (outcome.Failed why))))

-- of the files that arguments represent, and of those that a list names
abbrev pub DueWords : Gives → Every → (words : List (String Global)) → (lines : List (List ℕ)) → Option End → Type 0
DueWords gives every words = DueFiles (WritesWords gives every words) (StopsWords gives every words)

abbrev pub DueList : Gives → Every → (IsList : Option (List ℕ) → Type 0) → (lines : List (List ℕ)) → Option End → Type 0
DueList gives every IsList = DueFiles (WritesList gives every IsList) (StopsList gives every IsList)

abbrev pub DueNamed : Gives → Every → FileNames → (lines : List (List ℕ)) → Option End → Type 0
DueNamed gives every (Words words) = DueWords gives every words.items
DueNamed gives every (EndedByZero path) = DueList gives every (gives.is_list (string_bytes path))

-- What the jobs are due to write of what an opener gives. Reasons may be requested.
module _ (gives : Gives) (why : Bool) where
  -- of a requested mapping over the file at a path: nothing if it would start before the file's first byte, or if the
  -- file isn't opened, or memory for its pages lacks. A read fails only of a file of which one may fail
  pub data DueFile (requested : Requested) (path pickle : List ℕ) : (lines : List (List ℕ)) → Option End → Type 0 where
    starts_nowhere : {file : SpaceView} → gives.is_file path requested.spool file
        → start_bit requested.aim.start file.len ≡ None
        → DueFile requested path pickle [] (Some (Ok (Run outcome.Offset)))
    maps : {file after : SpaceView} {lines : List (List ℕ)} {end : Option End} (start : ℕ) (ask : Ask)
        → gives.is_file path requested.spool file → start_bit requested.aim.start file.len ≡ Some start
        → IsAskAt requested.aim start (seen requested.window start file).len ask
        → (HasRisen file.failures after.failures → gives.is_failing path)
        → DueSpace pickle ask requested.terms (seen requested.window start file) after why lines end
        → DueFile requested path pickle lines end
    unopened : {fault : FileFault} → gives.is_unopened path requested.spool fault →
        DueFile requested path pickle [] (Some (Err fault))
    no_pages : DueFile requested path pickle [] (Some (Err fault.Memory))

  -- of a requested mapping over many files: nothing if the pickle or the type is refused, or no value of the type can
  -- have a requested part
  pub data DueEach (requested : Requested) (files : FileNames) (pickle : List ℕ) :
      (lines : List (List ℕ)) → Option End → Type 0 where
    no_run_due : {ended : Outcome} → HasNoRun pickle requested.aim.name requested.terms ended →
        DueEach requested files pickle [] (Some (Ok (Run ended)))
    files_due : {type : PokeType} {lines : List (List ℕ)} {end : Option End} → IsAsked pickle requested.aim.name type
        → can_have_requested requested.terms type ≡ true
        → DueNamed gives (every_for why requested pickle) files lines end → DueEach requested files pickle lines end

  -- of the formats of many files
  abbrev pub DueIdentified : Identification → AnswerForm → (lines : List (List ℕ)) → Option End → Type 0
  DueIdentified asked form = DueAmong gives (folder_of asked)
      (λ pickles formats. DueNamed gives (every_format why asked form formats) asked.names)

  -- of a requested mapping over one file or over many, or of a task with one
  pub data DueMapping (requested : Requested) (over : Over) (pickle : List ℕ) :
      (lines : List (List ℕ)) → Option End → Type 0 where
    file_due : {path : List ℕ} {lines : List (List ℕ)} {end : Option End} → IsOverFile (λ file. File file) over path
        → DueFile requested path pickle lines end → DueMapping requested over pickle lines end
    each_due : {names : FileNames} {lines : List (List ℕ)} {end : Option End} → IsOverFiles over names
        → DueEach requested names pickle lines end → DueMapping requested over pickle lines end
    task_due : {lines : List (List ℕ)} {end : Option End} (path : List ℕ) (task : Task)
        → IsTaskOver over requested.faults path task → DueTask gives requested task path pickle lines end
        → DueMapping requested over pickle lines end

  -- of a request without a pickle: by all formats, or by the file's own
  abbrev pub DueUnnamed : Request → Over → (lines : List (List ℕ)) → Option End → Type 0
  DueUnnamed request (Search file search) = DueHuntedFile gives request search (string_bytes file)
  DueUnnamed request other = DueIdentifiedFile gives why request

  -- of a request: once its pickle says which type is mapped, or without one
  abbrev pub DueSubject : Request → Option (List ℕ) → (lines : List (List ℕ)) → Option End → Type 0
  DueSubject request (Some word) = DueOver gives word (λ pickle.
      DueIfAny (λ requested. DueMapping requested request.over pickle) (of_request request pickle))
  DueSubject request None = DueUnnamed request request.over

  abbrev pub DueRequest : Request → (lines : List (List ℕ)) → Option End → Type 0
  DueRequest request = DueSubject request (pickle_of request.subject)

  -- of each job that isn't a dump
  abbrev pub DueJob : Job → AnswerForm → (lines : List (List ℕ)) → Option End → Type 0
  DueJob (job.Map at order limit mode pickle name file) form =
      DueOver gives (string_bytes pickle)
      (DueFile (plain_request (string_bytes name) at order limit mode no_terms) (string_bytes file))
  DueJob (job.Request request) form = DueRequest request
  DueJob (job.Bound pickle name bits) form =
      DueOver gives (string_bytes pickle) (DueBound (string_bytes pickle) (string_bytes name) (bound.Plain bits))
  DueJob (job.TightBound pickle name bits) form =
      DueOver gives (string_bytes pickle) (DueBound (string_bytes pickle) (string_bytes name) (bound.Tight bits))
  DueJob (job.MemoryBound pickle name bits) form =
      DueOver gives (string_bytes pickle) (DueBound (string_bytes pickle) (string_bytes name) (bound.Memory bits))
  DueJob (job.BoundText pickle name bits mode style) form = DueOver gives (string_bytes pickle)
      (DueBound (string_bytes pickle) (string_bytes name)
      (bound.Text (record { bits = bits; style = style; mode = mode })))
  DueJob (job.Check pickle) form = DueOver gives (string_bytes pickle) (DueCheckIn why form)
  DueJob (job.Types pickle) form = DueOver gives (string_bytes pickle) (DueTypesIn why form)
  DueJob (job.Parts pickle name depth) form =
      DueOver gives (string_bytes pickle) (λ bytes. DueRun (PartsAs bytes (string_bytes name) depth form))
  DueJob (job.Identify asked) form = DueIdentified asked form
  DueJob job.Formats form = DueFormats gives form
  DueJob (job.Dump from size ruler file) form = λ lines end. ⊥

-- of a dump: its text; its first bytes before a read that failed
pub data DueDump (text : List ℕ) : (lines : List (List ℕ)) → Option End → Type 0 where
  dump_due : DueDump text (text ∷ []) (Some (Ok (Run outcome.Done)))
  front_due : {front : List ℕ} (rest : List ℕ) → front ++ rest ≡ text → 0 < length rest →
      DueDump text (front ∷ []) (Some (Err (fault.Dump dump.Device)))

-- how a dump over an open file ends: a read failed only if it could
pub data EndsDump (MayFail : Type 0) : End → Type 0 where
  dump_done : EndsDump MayFail (Ok (Run outcome.Done))
  dump_unwritten : EndsDump MayFail (Ok (Run (outcome.Failed failure.Write)))
  dump_unread : MayFail → EndsDump MayFail (Err (fault.Dump dump.Device))

-- What standard output holds of the dump of the file at a path: what is due of its bytes, if they are known; nothing if
-- the file isn't opened, or memory for its pages lacks.
pub data HoldsDump (gives : Gives) (path : List ℕ) (from size : ℕ) (ruler : Bool) (out out' : Option (List ℕ)) :
    End → Type 0 where
  dumps : {file : SpaceView} {end : End} → gives.is_file path None file → EndsDump (gives.is_failing path) end
      → ((bytes : List ℕ) → file.bytes ≡ Some bytes → Holds (DueDump (dump_text bytes from size ruler)) out out' end)
      → HoldsDump gives path from size ruler out out' end
  undumped : {fault : FileFault} → gives.is_unopened path None fault → Keeps out out' →
      HoldsDump gives path from size ruler out out' (Err fault)
  no_dump_pages : Keeps out out' → HoldsDump gives path from size ruler out out' (Err fault.Memory)

-- what standard output holds at the ending of a job
abbrev pub HoldsJob : Gives → (why : Bool) → Job → AnswerForm → (out out' : Option (List ℕ)) → End → Type 0
HoldsJob gives why (job.Dump from size ruler file) form = HoldsDump gives (string_bytes file) from size ruler
HoldsJob gives why other form = Holds (DueJob gives why other form)
