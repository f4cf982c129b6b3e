-- What is written about many files.
use Rattle.std.specs.Prelude.{◌≡◌, ◌<◌, ◌≤◌, length, ℕ, Bool, false, List, [], ◌∷◌, ◌++◌, Option, Some, None, nat_lt, if◌then◌else◌, IsUtf8}
use Rattle.std.specs.List.{concat}
use Rattle.std.specs.Io.KnownBytes.{Appends}
use Rattle.bit_space.specs.SpaceView.{HasRisen, SpaceView}
use Rattle.command_line.specs.Starts.{start_bit}
use Rattle.command_line.specs.declared.answer_form.AnswerForm.{AnswerForm}
use Rattle.command_line.specs.declared.answer_form.AnswerForm.TheVariants as answer
use Rattle.command_line.specs.declared.ask.Ask.{Ask}
use Rattle.command_line.specs.declared.fault_form.FaultForm.{FaultForm}
use Rattle.command_line.specs.declared.start.Start.{Start}
use Rattle.identification.specs.declared.format.Formats.{Formats}
use Rattle.identity_text.specs.Identities.{IdentifiesFile}
use Rattle.jobs.specs.FaultNames.{failure_of}
use Rattle.jobs.specs.Gives.{Gives}
use Rattle.jobs.specs.Aims.{IsAskAt}
use Rattle.jobs.specs.Mapped.{Mapped}
use Rattle.jobs.specs.Names.{most_name}
use Rattle.jobs.specs.declared.fault.FileFault.{FileFault}
use Rattle.jobs.specs.declared.file_run.FileForm.{FileForm}
use Rattle.jobs.specs.declared.file_run.FileForm.TheVariants.{Line, Object}
use Rattle.poke_batch.specs.FileLine.{file_line, in_memory}
use Rattle.poke_batch.specs.FileObject.{file_object}
use Rattle.poke_batch.specs.RunsUnder.{MapsUnder}
use Rattle.run_parts.specs.Outcomes.{EndsAs, outcome_status}
use Rattle.run_parts.specs.declared.outcome.Failure.{Failure}
use Rattle.run_parts.specs.declared.outcome.Failure.TheVariants as failure
use Rattle.run_parts.specs.declared.outcome.Outcome.{Outcome}
use Rattle.run_parts.specs.declared.outcome.Outcome.TheVariants as outcome
use Rattle.text_output.specs.declared.mode.Mode.{Mode}
use Rattle.text_output.specs.declared.mode.Mode.TheVariants.{Json}
use Rattle.run_parts.specs.Told.{AppendsUpTo}
use Rattle.run_parts.specs.declared.status.Status.{Status}
use Rattle.run_parts.specs.declared.status.Status.TheVariants.{Done, Fault, Refused, Outside}
use Rattle.spool.specs.Window.{seen}

-- in JSON a file has an object, in other modes a line
abbrev pub file_form : Mode → FaultForm → FileForm
file_form Json faults = Object
file_form mode faults = Line faults

abbrev pub answer_form : AnswerForm → FaultForm → FileForm
answer_form answer.Json faults = Object
answer_form answer.Text faults = Line faults

-- the exit status as a number
abbrev pub rank : Status → ℕ
rank Done = 0
rank Fault = 1
rank Refused = 2
rank Outside = 3

abbrev pub greater : Status → Status → Status
greater a b = if nat_lt (rank a) (rank b) then b else a

-- what is done with every file: where it starts, after how many bytes the file ends, how many bytes of one without a
-- length are read, the form of what is written, whether reasons are requested, and how the run over what is seen of an
-- open file ends, of which a read may fail, and the text that it writes; and the lines that explain how it ended
pub record Every : Type 1 where
  pub start : Start
  pub window : Option ℕ
  pub spool : Option ℕ
  pub form : FileForm
  pub why : Bool
  pub runs : (start : ℕ) → (file : SpaceView) → (MayFail : Type 0) → Outcome → (text : List ℕ) → Type 0
  pub explains : (start : ℕ) → (file : SpaceView) → (lines : List ℕ) → Type 0

-- what is written of a file: its line, or its object with reasons, if they are requested
abbrev pub IsFormed : FileForm → (why : Bool) → (name : List ℕ) → Outcome → (text line : List ℕ) → Type 0
IsFormed (Line faults) why name ended text line = line ≡ file_line faults name ended text
IsFormed Object why name ended text line =
    (reasons : List ℕ) × (why ≡ false → reasons ≡ []) × (line ≡ file_object name ended text reasons)

-- how a mapping over what is seen of an open file ends, and the text that it writes; whether a read may fail
pub data MapsOver (mapped : Mapped) (ask : Ask) (file : SpaceView) (MayFail : Type 0) : Outcome →
    (text : List ℕ) → Type 0 where
  maps_over : {after : SpaceView} {ended : Outcome} {text : List ℕ}
      → (HasRisen file.failures after.failures → MayFail)
      → EndsAs (MapsUnder mapped.pickle ask mapped.terms file after) ended (Some []) (Some text)
      → MapsOver mapped ask file MayFail (in_memory ended) text

-- the same of what is mapped from a bit on
pub data MapsFrom (mapped : Mapped) (start : ℕ) (file : SpaceView) (MayFail : Type 0) : Outcome →
    (text : List ℕ) → Type 0 where
  maps_from : {ask : Ask} {ended : Outcome} {text : List ℕ} → IsAskAt mapped.aim start file.len ask
      → MapsOver mapped ask file MayFail ended text → MapsFrom mapped start file MayFail ended text

-- how a file is identified from a bit on, by what is seen of it
pub data IdentifiesFrom (formats : Formats) (all : Bool) (form : AnswerForm) (start : ℕ) (file : SpaceView)
    (MayFail : Type 0) : Outcome → (text : List ℕ) → Type 0 where
  identifies_from : {after : SpaceView} {ended : Outcome} {text unfinished : List ℕ}
      → (HasRisen file.failures after.failures → MayFail)
      → IdentifiesFile formats all form start file after ended text unfinished
      → IdentifiesFrom formats all form start file MayFail ended text

-- a line or an object is written of a run that is like this, with its exit status
pub record WritesRun (Runs : Outcome → (text : List ℕ) → Type 0) (every : Every) (name : List ℕ) (status : Status)
    (line : List ℕ) : Type 0 where
  pub ended : Outcome
  pub text : List ℕ
  pub run : Runs ended text
  pub status_is : status ≡ outcome_status ended
  pub formed : IsFormed every.form every.why name ended text line

module _ (gives : Gives) where
  -- how the run of a file ends, and the text that it writes
  pub data RunsFile (every : Every) (name : List ℕ) : Outcome → (text : List ℕ) → Type 0 where
    no_text : ¬ (IsUtf8 name) → RunsFile every name (outcome.Failed failure.Open) []
    unopened : {fault : FileFault} → gives.is_unopened name every.spool fault →
        RunsFile every name (outcome.Failed (failure_of fault)) []
    no_cache : RunsFile every name (outcome.Failed failure.Memory) []
    starts_nowhere : {file : SpaceView} → gives.is_file name every.spool file
        → start_bit every.start file.len ≡ None → RunsFile every name outcome.Offset []
    opened : {file : SpaceView} {start : ℕ} {ended : Outcome} {text : List ℕ} → gives.is_file name every.spool file
        → start_bit every.start file.len ≡ Some start
        → every.runs start (seen every.window start file) (gives.is_failing name) ended text
        → RunsFile every name ended text

-- a run that a failure ended, without a text
pub record EndsBy (why : Failure) (ended : Outcome) (text : List ℕ) : Type 0 where
  pub ended_is : ended ≡ outcome.Failed why
  pub text_is : text ≡ []

-- The line of the file that an argument represents. If memory for its name lacks, the line has the argument instead.
pub data WritesWord (gives : Gives) (every : Every) (word : List ℕ) : Status → (line : List ℕ) → Type 0 where
  named : {name line : List ℕ} {status : Status} → gives.is_name word name
      → WritesRun (RunsFile gives every name) every name status line → WritesWord gives every word status line
  unnamed : {line : List ℕ} {status : Status} → gives.is_unnamed word
      → WritesRun (EndsBy failure.Memory) every word status line → WritesWord gives every word status line

-- The line of the file of a name in a list. That of a longer name isn't opened.
pub data WritesName (gives : Gives) (every : Every) (name : List ℕ) : Status → (line : List ℕ) → Type 0 where
  short_name : {line : List ℕ} {status : Status} → length name ≤ most_name
      → WritesRun (RunsFile gives every name) every name status line → WritesName gives every name status line
  long_name : {line : List ℕ} {status : Status} → most_name < length name
      → WritesRun (EndsBy failure.Open) every name status line → WritesName gives every name status line

-- the lines that are written of files, one after the other, with the greatest exit status
pub data WritesEach {A : Type 0} (Writes : A → Status → (line : List ℕ) → Type 0) : (files : List A) → Status →
    (lines : List (List ℕ)) → Type 0 where
  no_files : WritesEach Writes [] Done []
  one_more : {files : List A} {lines : List (List ℕ)} {file : A} {line : List ℕ} {greatest status : Status}
      → WritesEach Writes files greatest lines → Writes file status line
      → WritesEach Writes (files ++ file ∷ []) (greater greatest status) (lines ++ line ∷ [])

-- a line is written after what is there
pub record AppendsLine (Writes : Status → (line : List ℕ) → Type 0) (out out' : Option (List ℕ)) (status : Status) :
    Type 0 where
  pub line : List ℕ
  pub written : Writes status line
  pub appends : Appends out out' line

-- the output failed at it: its first bytes are written, or all of them
pub record CutsLine (Writes : Status → (line : List ℕ) → Type 0) (out out' : Option (List ℕ)) : Type 0 where
  pub status : Status
  pub line : List ℕ
  pub written : Writes status line
  pub appends : AppendsUpTo out out' line

-- the same of the line of a run
abbrev pub AppendsRun : (Runs : Outcome → (text : List ℕ) → Type 0) → Every → (name : List ℕ) →
    (out out' : Option (List ℕ)) → Status → Type 0
AppendsRun Runs every name = AppendsLine (WritesRun Runs every name)

abbrev pub CutsRun : (Runs : Outcome → (text : List ℕ) → Type 0) → Every → (name : List ℕ) →
    (out out' : Option (List ℕ)) → Type 0
CutsRun Runs every name = CutsLine (WritesRun Runs every name)

-- what is written of many files, which are these, one after the other, with the greatest exit status
pub record AppendsFiles {A : Type 0} (Writes : A → Status → (line : List ℕ) → Type 0) (Are : List A → Type 0)
    (out out' : Option (List ℕ)) (greatest : Status) : Type 0 where
  pub files : List A
  pub are : Are files
  pub lines : List (List ℕ)
  pub written : WritesEach Writes files greatest lines
  pub appends : Appends out out' (concat lines)
