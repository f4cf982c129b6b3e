-- What is told of files aside, such as on standard error.
use Rattle.std.specs.Prelude.{◌≡◌, ◌≢◌, ◌<◌, ◌≤◌, Bool, true, ℕ, List, [], ◌∷◌, ◌++◌, Option, Some, None, Result, Ok, Err, String, codes, length, string_bytes}
use Rattle.std.specs.declared.alloc.Global.{Global}
use Rattle.std.specs.Io.KnownBytes.{Appends, Keeps}
use Rattle.bit_space.specs.SpaceView.{SpaceView}
use Rattle.command_line.specs.Starts.{start_bit}
use Rattle.command_line.specs.Subjects.{pickle_of}
use Rattle.command_line.specs.declared.answer_form.AnswerForm.{AnswerForm}
use Rattle.command_line.specs.declared.identification.Identification.{Identification}
use Rattle.command_line.specs.declared.request.FileNames.{FileNames}
use Rattle.command_line.specs.declared.request.FileNames.TheVariants.{Words, EndedByZero}
use Rattle.command_line.specs.declared.request.Over.{Over}
use Rattle.command_line.specs.declared.request.Over.TheVariants.{Files}
use Rattle.command_line.specs.declared.request.Request.{Request}
use Rattle.command_line.specs.declared.words.Job.{Job}
use Rattle.command_line.specs.declared.words.Job.TheVariants as job
use Rattle.identification.specs.declared.format.Formats.{Formats}
use Rattle.jobs.specs.Aims.{Requested, of_request, of_type}
use Rattle.jobs.specs.Chosen.{ChosenType, chosen, first_order}
use Rattle.jobs.specs.Endings.{is_mapped}
use Rattle.jobs.specs.Explained.{IsOpeningLine, SaysFrom}
use Rattle.jobs.specs.Files.{Every}
use Rattle.jobs.specs.Gives.{Gives, InstalledPickle}
use Rattle.jobs.specs.Installed.{HasFormats, folder_of}
use Rattle.jobs.specs.Jobs.{every_for, every_format}
use Rattle.jobs.specs.Mapped.{Mapped}
use Rattle.jobs.specs.Names.{IsNextName, IsRestOfName, ReadsNames, most_name}
use Rattle.jobs.specs.Opened.{FailsNamed}
use Rattle.jobs.specs.Reasons.{lines_of}
use Rattle.jobs.specs.declared.fault.FileFault.{FileFault}
use Rattle.jobs.specs.declared.file_run.FileForm.{FileForm}
use Rattle.jobs.specs.declared.file_run.FileForm.TheVariants.{Line, Object}
use Rattle.jobs.specs.declared.names.ListFault.{ListFault}
use Rattle.jobs.specs.declared.why.Reasons.{Reasons}
use Rattle.poke_batch.specs.FileLine.{shown_name}
use Rattle.run_parts.specs.Outcomes.{outcome_status}
use Rattle.run_parts.specs.declared.outcome.Outcome.{Outcome}
use Rattle.run_parts.specs.declared.status.Status.{Status}
use Rattle.spool.specs.Window.{seen}

-- the lines that explain how the run of a file ended, after its name; and what is told if memory lacks for that
abbrev pub aside_text : (name lines : List ℕ) → List ℕ
aside_text name lines = shown_name name ++ (codes ":\n" ++ lines)

abbrev pub aside_untold : List ℕ
aside_untold = codes "memory doesn't suffice for the reasons of a file\n"

-- lines are told of a file, if there are any
pub data TellsSome (name lines : List ℕ) (told told' : Option (List ℕ)) : Type 0 where
  no_lines : lines ≡ [] → Keeps told told' → TellsSome name lines told told'
  all_lines : lines ≢ [] → Appends told told' (aside_text name lines) → TellsSome name lines told told'
  lack_memory : lines ≢ [] → Appends told told' aside_untold → TellsSome name lines told told'

-- the same, after what the output has of the file; if the output fails nothing is told
abbrev pub TellsLines : {T E : Type 0} → (name lines : List ℕ) → (told told' : Option (List ℕ)) → Result T E → Type 0
TellsLines name lines told told' (Ok done) = TellsSome name lines told told'
TellsLines name lines told told' (Err fault) = Keeps told told'

-- the same of a file that has a line; an object has its lines in it
abbrev pub TellsInForm : {T E : Type 0} → FileForm → (name lines : List ℕ) → (told told' : Option (List ℕ)) →
    Result T E → Type 0
TellsInForm (Line faults) name lines told told' result = TellsLines name lines told told' result
TellsInForm Object name lines told told' result = Keeps told told'

-- the reasons of a mapping that ended with a value or a fault are told of a file that has a line
pub record TellsReasons (mapped : Mapped) (start : ℕ) (file after : SpaceView) (ended : Outcome) (name : List ℕ)
    (told told' : Option (List ℕ)) : Type 0 where
  pub reasons : Reasons
  pub says : SaysFrom mapped start file after ended reasons
  pub tells : TellsSome name (lines_of reasons) told told'

abbrev pub TellsOutcome : FileForm → Mapped → (start : ℕ) → (file after : SpaceView) → (ended : Outcome) →
    (name : List ℕ) → (told told' : Option (List ℕ)) → Type 0
TellsOutcome (Line faults) mapped start file after ended name told told' =
    is_mapped (outcome_status ended) ≡ true → TellsReasons mapped start file after ended name told told'
TellsOutcome Object mapped start file after ended name told told' = Unit {0}

-- a text is told, which is right; or none
pub data Tells (IsRight : (text : List ℕ) → Type 0) (told told' : Option (List ℕ)) : Type 0 where
  none_told : Keeps told told' → Tells IsRight told told'
  one_told : {text : List ℕ} → IsRight text → Appends told told' text → Tells IsRight told told'

-- one or none is told of each of these files, one file after the other
pub data TellsEach {A : Type 0} (IsRight : A → (text : List ℕ) → Type 0) (told : Option (List ℕ)) :
    (files : List A) → (told' : Option (List ℕ)) → Type 0 where
  no_file_told : {told' : Option (List ℕ)} → Keeps told told' → TellsEach IsRight told [] told'
  one_file_told : {files : List A} {file : A} {mid told' : Option (List ℕ)} → TellsEach IsRight told files mid
      → Tells (IsRight file) mid told' → TellsEach IsRight told (files ++ file ∷ []) told'

-- a text has lines that explain how the run of a file ended, or says that memory lacks for them
pub data TellsRun (name : List ℕ) (Explains : (lines : List ℕ) → Type 0) : (text : List ℕ) → Type 0 where
  tells_run : {lines : List ℕ} → lines ≢ [] → Explains lines → TellsRun name Explains (aside_text name lines)
  tells_untold : {lines : List ℕ} → lines ≢ [] → Explains lines → TellsRun name Explains aside_untold

-- lines that say why a file isn't opened, if reasons are requested
pub record IsUnopened (why : Bool) (lines : List ℕ) : Type 0 where
  pub asked : why ≡ true
  pub line : IsOpeningLine lines

module _ (gives : Gives) (every : Every) where
  -- lines that explain how the run of the file of a name ended
  pub data ExplainsName (name : List ℕ) : (lines : List ℕ) → Type 0 where
    unopened_name : {fault : FileFault} {lines : List ℕ} → FailsNamed gives name every.spool fault
        → IsUnopened every.why lines → ExplainsName name lines
    opened_name : {file : SpaceView} {lines : List ℕ} (start : ℕ) → gives.is_file name every.spool file
        → start_bit every.start file.len ≡ Some start
        → every.explains start (seen every.window start file) lines → ExplainsName name lines

  abbrev pub TellsName : (name text : List ℕ) → Type 0
  TellsName name = TellsRun name (ExplainsName name)

-- the same of a name that is too long to be opened, by its first bytes
abbrev pub TellsLong : Every → (start text : List ℕ) → Type 0
TellsLong every start = TellsRun start (IsUnopened every.why)

-- of a longer name once its rest is read to its end, and nothing before
pub data TellsEnded (every : Every) (start : List ℕ) (list list' told told' : Option (List ℕ)) : Type 0 where
  not_ended : Keeps told told' → TellsEnded every start list list' told told'
  tells_ended : {more text : List ℕ} → IsRestOfName list more list' → TellsLong every start text
      → Appends told told' text → TellsEnded every start list list' told told'

module _ (gives : Gives) (every : Every) where
  -- of the file that an argument represents
  pub data TellsWord (word text : List ℕ) : Type 0 where
    tells_word : {name : List ℕ} → gives.is_name word name → TellsName gives every name text → TellsWord word text

  -- of the file of a name in a list
  pub data TellsListed (name text : List ℕ) : Type 0 where
    tells_short : length name ≤ most_name → TellsName gives every name text → TellsListed name text
    tells_long : {start : List ℕ} (more : List ℕ) → name ≡ start ++ more → most_name < length start
        → TellsLong every start text → TellsListed name text

  -- what is told of the files that arguments represent: of the first ones or of all, in order
  pub record TellsWords (words : List (String Global)) (told told' : Option (List ℕ)) : Type 0 where
    pub first : List (String Global)
    pub rest : List (String Global)
    pub are : first ++ rest ≡ words
    pub tells : TellsEach (λ word. TellsWord (string_bytes word)) told first told'

  -- of the next name of a list
  pub record TellsNext (list list' told told' : Option (List ℕ)) : Type 0 where
    pub name : List ℕ
    pub is : IsNextName list name list'
    pub tells : Tells (TellsListed name) told told'

  -- the same, or nothing
  pub data TellsLast (list told told' : Option (List ℕ)) : Type 0 where
    no_last : Keeps told told' → TellsLast list told told'
    tells_last : {list' : Option (List ℕ)} → TellsNext list list' told told' → TellsLast list told told'

  -- by what came of reading it
  abbrev pub TellsRead : (list list' told told' : Option (List ℕ)) → Result (Option Status) ListFault → Type 0
  TellsRead list list' told told' (Ok (Some status)) = TellsNext list list' told told'
  TellsRead list list' told told' (Ok None) = Keeps told told'
  TellsRead list list' told told' (Err fault) = TellsLast list told told'

  -- of the first names of a list or of all, in order
  pub record TellsNames (list rest told told' : Option (List ℕ)) : Type 0 where
    pub names : List (List ℕ)
    pub read : ReadsNames list rest names
    pub tells : TellsEach TellsListed told names told'

  -- the same of a list that may not be opened
  pub data TellsList (IsList : Option (List ℕ) → Type 0) (told told' : Option (List ℕ)) : Type 0 where
    no_list : Keeps told told' → TellsList IsList told told'
    tells_list : {list rest : Option (List ℕ)} → IsList list → TellsNames list rest told told' →
        TellsList IsList told told'

  abbrev pub TellsFiles : FileNames → (told told' : Option (List ℕ)) → Type 0
  TellsFiles (Words words) = TellsWords words.items
  TellsFiles (EndedByZero path) = TellsList (gives.is_list (string_bytes path))

-- of a requested mapping, by what it is over: of many files alone
abbrev pub TellsOver : Gives → (why : Bool) → Requested → (pickle : List ℕ) → Over →
    (told told' : Option (List ℕ)) → Type 0
TellsOver gives why requested pickle (Files names flush) = TellsFiles gives (every_for why requested pickle) names
TellsOver gives why requested pickle other = Keeps

-- of a request, once its pickle says which type is mapped
pub data TellsRequest (gives : Gives) (why : Bool) (request : Request) (told told' : Option (List ℕ)) : Type 0 where
  no_request : Keeps told told' → TellsRequest gives why request told told'
  tells_request : {word pickle : List ℕ} {requested : Requested} → pickle_of request.subject ≡ Some word
      → gives.is_pickle word pickle → of_request request pickle ≡ Some requested
      → TellsOver gives why requested pickle request.over told told' → TellsRequest gives why request told told'

-- the same of a pickle that was read
pub data TellsSettled (gives : Gives) (why : Bool) (request : Request) (pickle : List ℕ)
    (told told' : Option (List ℕ)) : Type 0 where
  not_settled : Keeps told told' → TellsSettled gives why request pickle told told'
  tells_settled : {found : ChosenType} → chosen request.subject pickle ≡ Some found
      → TellsOver gives why (of_type request found.name (first_order request.order found.order) request.terms) pickle
      request.over told told' → TellsSettled gives why request pickle told told'

-- of files whose formats are found
pub data TellsFormats (gives : Gives) (why : Bool) (asked : Identification) (form : AnswerForm)
    (told told' : Option (List ℕ)) : Type 0 where
  no_formats : Keeps told told' → TellsFormats gives why asked form told told'
  tells_formats : {pickles : List InstalledPickle} {formats : Formats} → gives.is_installed (folder_of asked) pickles
      → HasFormats pickles formats → TellsFiles gives (every_format why asked form formats) asked.names told told'
      → TellsFormats gives why asked form told told'

-- of a job
abbrev pub TellsJob : Gives → (why : Bool) → Job → AnswerForm → (told told' : Option (List ℕ)) → Type 0
TellsJob gives why (job.Request request) form = TellsRequest gives why request
TellsJob gives why (job.Identify asked) form = TellsFormats gives why asked form
TellsJob gives why (job.Map at order limit mode pickle name file) form = Keeps
TellsJob gives why (job.Bound pickle name bits) form = Keeps
TellsJob gives why (job.TightBound pickle name bits) form = Keeps
TellsJob gives why (job.MemoryBound pickle name bits) form = Keeps
TellsJob gives why (job.BoundText pickle name bits mode style) form = Keeps
TellsJob gives why (job.Check pickle) form = Keeps
TellsJob gives why (job.Types pickle) form = Keeps
TellsJob gives why (job.Parts pickle name depth) form = Keeps
TellsJob gives why (job.Dump from size ruler file) form = Keeps
TellsJob gives why job.Formats form = Keeps
