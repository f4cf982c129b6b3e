-- What is written about many files, by what their runs are given.
use Rattle.std.specs.Prelude.{Bool, ℕ, List, Option}
use Rattle.jobs.specs.Gives.{Gives}
use Rattle.jobs.specs.Explained.{AreUnfinished, ExplainsFrom}
use Rattle.jobs.specs.Files.{Every, AppendsRun, CutsRun, IdentifiesFrom, MapsFrom, RunsFile}
use Rattle.jobs.specs.Mapped.{Mapped}
use Rattle.jobs.specs.Aims.{aim_of}
use Rattle.jobs.specs.declared.file_run.FileForm.{FileForm}
use Rattle.jobs.specs.declared.file_run.FileForm.TheVariants.{Line, Object}
use Rattle.jobs.specs.declared.file_run.Task.{Task}
use Rattle.jobs.specs.declared.file_run.Typed.{Typed}
use Rattle.jobs.specs.declared.file_run.Work.{Work}
use Rattle.jobs.specs.declared.file_run.Work.TheVariants.{Identify, Map}
use Rattle.pickle_types.specs.TypeTable.{type_named, IsInTable, nodes_of}
use Rattle.poke_batch.specs.Ready.{IsReady}
use Rattle.poke_batch.specs.declared.each.Kept.{Kept}
use Rattle.bit_space.specs.SpaceView.{SpaceView}
use Rattle.poke_batch.specs.FileLine.{file_line}
use Rattle.poke_batch.specs.FileObject.{file_object}
use Rattle.poke_batch.specs.Runs.{IsAsked}
use Rattle.run_parts.specs.declared.outcome.Outcome.{Outcome}
use Rattle.run_parts.specs.declared.status.Status.{Status}

-- the type that is mapped is that of the requested name in the pickle
pub record IsTyped (typed : Typed) : Type 0 where
  pub known : IsInTable typed.table.now typed.id
  pub asked : IsAsked typed.pickle.now.bytes.items typed.mapping.name.now (type_named typed.table.now typed.id)

abbrev pub mapped_of : Typed → Mapped
mapped_of typed = record {
  pickle = typed.pickle.now.bytes.items;
  aim = aim_of typed.mapping;
  terms = typed.mapping.terms.now;
}

-- how the run of a task over what is seen of an open file ends
abbrev pub runs_of : Work → (start : ℕ) → (file : SpaceView) → (MayFail : Type 0) → Outcome → (text : List ℕ) → Type 0
runs_of (Map typed) = MapsFrom (mapped_of typed)
runs_of (Identify identity) = IdentifiesFrom identity.formats.now identity.all identity.form

-- the lines that explain how it ended, if reasons are requested
abbrev pub explains_of : (why : Bool) → Work → (start : ℕ) → (file : SpaceView) → (lines : List ℕ) → Type 0
explains_of why (Map typed) start file = ExplainsFrom (mapped_of typed) why start file
explains_of why (Identify identity) start file = AreUnfinished identity.formats.now

abbrev pub every_of : Task → Every
every_of task = record {
  start = task.start;
  window = task.window;
  spool = task.spool;
  form = task.form;
  why = task.explains;
  runs = runs_of task.work;
  explains = explains_of task.explains task.work;
}

-- what a task needs of its type, and of what is stored from file to file
abbrev pub IsSet : Work → Type 0
IsSet (Map typed) = IsTyped typed
IsSet (Identify identity) = Unit {0}

abbrev pub IsReadyFor : Work → Kept → Type 0
IsReadyFor (Map typed) kept = IsReady (nodes_of typed.table.now) typed.mapping.terms.now.most_slots kept
IsReadyFor (Identify identity) kept = Unit {0}

-- what is written of a run with a text, and with lines that explain it
abbrev pub run_text : FileForm → (name : List ℕ) → Outcome → (text lines : List ℕ) → List ℕ
run_text (Line faults) name ended text lines = file_line faults name ended text
run_text Object name ended text lines = file_object name ended text lines

-- the line or object of the file of a name, by what an opener gives
abbrev pub AppendsFile : Gives → Every → (name : List ℕ) → (out out' : Option (List ℕ)) → Status → Type 0
AppendsFile gives every name = AppendsRun (RunsFile gives every name) every name

-- the output failed at it
abbrev pub CutsFile : Gives → Every → (name : List ℕ) → (out out' : Option (List ℕ)) → Type 0
CutsFile gives every name = CutsRun (RunsFile gives every name) every name
