-- What is written about files.
use Rattle.std.proofs.Common.{◌≡◌, ◌∙◌, ℕ, List, [], Bool, false, Option, Some, Result, Ok, Err, IfOk, OnErr, OnOk, refl, sym, ap, subst}
use Rattle.std.specs.Io.KnownBytes.{Appends, Keeps}
use Rattle.bit_space.specs.SpaceView.{HasRisen, SpaceView}
use Rattle.command_line.specs.declared.ask.Ask.{Ask}
use Rattle.command_line.specs.declared.fault_form.FaultForm.{FaultForm}
use Rattle.jobs.specs.Aims.{IsAskAt}
use Rattle.command_line.specs.Starts.{start_bit}
use Rattle.jobs.specs.Every.{AppendsFile, CutsFile, run_text, runs_of}
use Rattle.jobs.specs.FaultNames.{failure_of}
use Rattle.jobs.specs.Mapped.{Mapped}
use Rattle.jobs.specs.Files.{Every, IsFormed, MapsFrom, maps_from, maps_over, identifies_from, RunsFile, no_text, unopened, opened, WritesRun, AppendsRun, CutsRun}
use Rattle.jobs.specs.Gives.{Gives}
use Rattle.jobs.specs.Opened.{FailsNamed, not_text, not_opened}
use Rattle.jobs.specs.declared.fault.FileFault.{FileFault}
use Rattle.jobs.specs.declared.file_run.FileForm.{FileForm}
use Rattle.jobs.specs.declared.file_run.Work.{Work}
use Rattle.jobs.specs.declared.file_run.Work.TheVariants.{Identify, Map}
use Rattle.jobs.specs.declared.file_run.FileForm.TheVariants.{Line, Object}
use Rattle.poke_batch.specs.FileLine.{TellsFile, file_line, in_memory}
use Rattle.poke_batch.specs.FileObject.{HoldsRun, file_object, kept_object}
use Rattle.poke_batch.specs.RunsUnder.{MapsUnder}
use Rattle.poke_batch.specs.declared.each.Kept.{Kept}
use Rattle.run_parts.specs.Outcomes.{outcome_status}
use Rattle.run_parts.specs.declared.outcome.Outcome.{Outcome}
use Rattle.run_parts.specs.declared.outcome.Outcome.TheVariants as outcome
use Rattle.run_parts.specs.declared.status.Status.{Status}
use Rattle.text_output.proofs.Parts.{Appends-keeps}
use Rattle.text_output.specs.Written.{AppendsPart}
use Rattle.jobs.proofs.Holding.{upto_part, upto_whole}
use Rattle.spool.specs.Window.{seen}

-- what is written of a run with its text, if its lines are quiet where no reasons are requested
pub text_formed : (form : FileForm) (why : Bool) (name : List ℕ) (ended : Outcome) (text lines : List ℕ) →
    (why ≡ false → lines ≡ []) → IsFormed form why name ended text (run_text form name ended text lines)
text_formed (Line faults) why name ended text lines quiet = refl
text_formed Object why name ended text lines quiet = (lines, quiet, refl)

pub text_written : {E : Type 0} (Runs : Outcome → (text : List ℕ) → Type 0) (every : Every) (name : List ℕ)
    (ended : Outcome) (text lines : List ℕ) (r : Result Status E) (out out' : Option (List ℕ))
    → (every.why ≡ false → lines ≡ []) → Runs ended text → IfOk r (λ status. status ≡ outcome_status ended)
    → OnOk r (Appends out out' (run_text every.form name ended text lines))
    → IfOk r (AppendsRun Runs every name out out')
text_written Runs every name ended text lines (Err e) out out' quiet run same whole = tt
text_written Runs every name ended text lines (Ok status) out out' quiet run same whole = record {
  line = run_text every.form name ended text lines;
  written = record {
    ended = ended;
    text = text;
    run = run;
    status_is = same;
    formed = text_formed every.form every.why name ended text lines quiet;
  };
  appends = whole;
}

-- a part of it
pub text_cut : {T E : Type 0} (Runs : Outcome → (text : List ℕ) → Type 0) (every : Every) (name : List ℕ)
    (ended : Outcome) (text lines : List ℕ) (r : Result T E) (out out' : Option (List ℕ))
    → (every.why ≡ false → lines ≡ []) → Runs ended text
    → OnErr r (AppendsPart out out' (run_text every.form name ended text lines))
    → OnErr r (CutsRun Runs every name out out')
text_cut Runs every name ended text lines (Ok status) out out' quiet run part = tt
text_cut Runs every name ended text lines (Err e) out out' quiet run part = record {
  status = outcome_status ended;
  line = run_text every.form name ended text lines;
  written = record {
    ended = ended;
    text = text;
    run = run;
    status_is = refl;
    formed = text_formed every.form every.why name ended text lines quiet;
  };
  appends = upto_part out out' _ part;
}

-- the line of a file that was mapped
line_of : {Takes : Option (List ℕ) → Option (List ℕ) → List ℕ → Type 0} (every : Every) (mapped : Mapped) (start : ℕ)
    (file after : SpaceView)
    (MayFail : Type 0) (ask : Ask) (faults : FaultForm) (name : List ℕ) (status : Status) (out out' : Option (List ℕ))
    → IsAskAt mapped.aim start file.len ask → every.form ≡ Line faults
    → (HasRisen file.failures after.failures → MayFail)
    → (h : TellsFile faults (MapsUnder mapped.pickle ask mapped.terms file after) Takes name status out out')
    → WritesRun (MapsFrom mapped start file MayFail) every name status
    (file_line faults name (in_memory h.ended) h.text)
line_of every mapped start file after MayFail ask faults name status out out' asked form may h = record {
  ended = in_memory h.ended;
  text = h.text;
  run = maps_from {ask = ask} asked (maps_over may h.ends);
  status_is = h.status_is;
  formed = subst
      (λ f. IsFormed f every.why name (in_memory h.ended) h.text (file_line faults name (in_memory h.ended) h.text))
      (sym form) refl;
}

pub line_written : (every : Every) (mapped : Mapped) (start : ℕ) (file after : SpaceView) (MayFail : Type 0) (ask : Ask)
    (faults : FaultForm)
    (name : List ℕ) (status : Status) (out out' out'' : Option (List ℕ))
    → IsAskAt mapped.aim start file.len ask → every.form ≡ Line faults
    → (HasRisen file.failures after.failures → MayFail)
    → TellsFile faults (MapsUnder mapped.pickle ask mapped.terms file after) Appends name status out out'
    → Keeps out' out''
    → AppendsRun (MapsFrom mapped start file MayFail) every name out out'' status
line_written every mapped start file after MayFail ask faults name status out out' out'' asked form may h keeps =
    record {
      line = file_line faults name (in_memory h.ended) h.text;
      written = line_of every mapped start file after MayFail ask faults name status out out' asked form may h;
      appends = Appends-keeps out out' out'' _ h.takes keeps;
    }

-- that line, and an output that failed after it, or in it
pub line_unflushed : (every : Every) (mapped : Mapped) (start : ℕ) (file after : SpaceView) (MayFail : Type 0)
    (ask : Ask) (faults : FaultForm)
    (name : List ℕ) (status : Status) (out out' out'' : Option (List ℕ))
    → IsAskAt mapped.aim start file.len ask → every.form ≡ Line faults
    → (HasRisen file.failures after.failures → MayFail)
    → TellsFile faults (MapsUnder mapped.pickle ask mapped.terms file after) Appends name status out out'
    → Keeps out' out''
    → CutsRun (MapsFrom mapped start file MayFail) every name out out''
line_unflushed every mapped start file after MayFail ask faults name status out out' out'' asked form may h keeps =
    record {
      status = status;
      line = file_line faults name (in_memory h.ended) h.text;
      written = line_of every mapped start file after MayFail ask faults name status out out' asked form may h;
      appends = upto_whole out out'' _ (Appends-keeps out out' out'' _ h.takes keeps);
    }

pub line_cut : (every : Every) (mapped : Mapped) (start : ℕ) (file after : SpaceView) (MayFail : Type 0) (ask : Ask)
    (faults : FaultForm)
    (name : List ℕ) (status : Status) (out out' : Option (List ℕ))
    → IsAskAt mapped.aim start file.len ask → every.form ≡ Line faults
    → (HasRisen file.failures after.failures → MayFail)
    → TellsFile faults (MapsUnder mapped.pickle ask mapped.terms file after) AppendsPart name status out out'
    → CutsRun (MapsFrom mapped start file MayFail) every name out out'
line_cut every mapped start file after MayFail ask faults name status out out' asked form may h = record {
  status = status;
  line = file_line faults name (in_memory h.ended) h.text;
  written = line_of every mapped start file after MayFail ask faults name status out out' asked form may h;
  appends = upto_part out out' _ h.takes;
}

-- the object of a file that was mapped
object_of : (every : Every) (mapped : Mapped) (start : ℕ) (file after : SpaceView) (MayFail : Type 0) (ask : Ask)
    (name lines : List ℕ) (kept : Kept)
    (status : Status) → IsAskAt mapped.aim start file.len ask → every.form ≡ Object → (every.why ≡ false → lines ≡ [])
    → (HasRisen file.failures after.failures → MayFail)
    → HoldsRun (MapsUnder mapped.pickle ask mapped.terms file after) kept → status ≡ outcome_status kept.outcome
    → WritesRun (MapsFrom mapped start file MayFail) every name status (kept_object kept name lines)
object_of every mapped start file after MayFail ask name lines kept status asked form quiet may h same = record {
  ended = in_memory h.ended;
  text = kept.text.items;
  run = maps_from {ask = ask} asked (maps_over may h.ends);
  status_is = same ∙ ap outcome_status h.outcome_is;
  formed = subst (λ f. IsFormed f every.why name (in_memory h.ended) kept.text.items (kept_object kept name lines))
      (sym form) (lines, quiet, ap (λ ended. file_object name ended kept.text.items lines) h.outcome_is);
}

pub object_written : {E : Type 0} (every : Every) (mapped : Mapped) (start : ℕ) (file after : SpaceView)
    (MayFail : Type 0) (ask : Ask)
    (name lines : List ℕ) (kept : Kept) (r : Result Status E) (out out' : Option (List ℕ))
    → IsAskAt mapped.aim start file.len ask → every.form ≡ Object → (every.why ≡ false → lines ≡ [])
    → (HasRisen file.failures after.failures → MayFail)
    → HoldsRun (MapsUnder mapped.pickle ask mapped.terms file after) kept
    → IfOk r (λ status. status ≡ outcome_status kept.outcome) → OnOk r (Appends out out' (kept_object kept name lines))
    → IfOk r (AppendsRun (MapsFrom mapped start file MayFail) every name out out')
object_written every mapped start file after MayFail ask name lines kept (Err e) out out' asked form quiet
    may h same whole = tt
object_written every mapped start file after MayFail ask name lines kept (Ok status) out out' asked form
    quiet may h same whole =
    record {
      line = kept_object kept name lines;
      written = object_of every mapped start file after MayFail ask name lines kept status asked form quiet may h same;
      appends = whole;
    }

pub object_cut : {E : Type 0} (every : Every) (mapped : Mapped) (start : ℕ) (file after : SpaceView)
    (MayFail : Type 0) (ask : Ask)
    (name lines : List ℕ) (kept : Kept) (r : Result Status E) (out out' : Option (List ℕ))
    → IsAskAt mapped.aim start file.len ask → every.form ≡ Object → (every.why ≡ false → lines ≡ [])
    → (HasRisen file.failures after.failures → MayFail)
    → HoldsRun (MapsUnder mapped.pickle ask mapped.terms file after) kept
    → OnErr r (AppendsPart out out' (kept_object kept name lines))
    → OnErr r (CutsRun (MapsFrom mapped start file MayFail) every name out out')
object_cut every mapped start file after MayFail ask name lines kept (Ok status) out out' asked form quiet may h part =
    tt
object_cut every mapped start file after MayFail ask name lines kept (Err e) out out' asked form quiet may h part =
    record {
      status = outcome_status kept.outcome;
      line = kept_object kept name lines;
      written =
          object_of every mapped start file after MayFail ask name lines kept (outcome_status kept.outcome) asked
          form quiet may h refl;
      appends = upto_part out out' _ part;
    }

-- a file that isn't opened
pub fails_run : (gives : Gives) (every : Every) (name : List ℕ) (fault : FileFault) →
    FailsNamed gives name every.spool fault → RunsFile gives every name (outcome.Failed (failure_of fault)) []
fails_run gives every name fault (not_text bad) = no_text bad
fails_run gives every name fault (not_opened h) = unopened h

-- a run over what is seen of a file that was opened, of which a read may fail
opened_run : (gives : Gives) (every : Every) (name line : List ℕ) (file sight : SpaceView) (start : ℕ)
    (MayFail : Type 0) (status : Status)
    → gives.is_file name every.spool file → start_bit every.start file.len ≡ Some start
    → sight ≡ seen every.window start file
    → ((ended : Outcome) (text : List ℕ) → every.runs start sight MayFail ended text →
    every.runs start sight (gives.is_failing name) ended text)
    → WritesRun (every.runs start sight MayFail) every name status line
    → WritesRun (RunsFile gives every name) every name status line
opened_run gives every name line file sight start MayFail status is from same may written = record {
  ended = written.ended;
  text = written.text;
  run = opened is from (subst
      (λ view. every.runs start view (gives.is_failing name) written.ended written.text) same
      (may written.ended written.text written.run));
  status_is = written.status_is;
  formed = written.formed;
}

pub opened_written : (gives : Gives) (every : Every) (name : List ℕ) (file sight : SpaceView) (start : ℕ)
    (MayFail : Type 0) (out out' : Option (List ℕ)) (status : Status) → gives.is_file name every.spool file
    → start_bit every.start file.len ≡ Some start → sight ≡ seen every.window start file
    → ((ended : Outcome) (text : List ℕ) → every.runs start sight MayFail ended text →
    every.runs start sight (gives.is_failing name) ended text)
    → AppendsRun (every.runs start sight MayFail) every name out out' status
    → AppendsFile gives every name out out' status
opened_written gives every name file sight start MayFail out out' status is from same may h = record {
  line = h.line;
  written = opened_run gives every name h.line file sight start MayFail status is from same may h.written;
  appends = h.appends;
}

pub opened_cut : (gives : Gives) (every : Every) (name : List ℕ) (file sight : SpaceView) (start : ℕ)
    (MayFail : Type 0) (out out' : Option (List ℕ)) → gives.is_file name every.spool file
    → start_bit every.start file.len ≡ Some start → sight ≡ seen every.window start file
    → ((ended : Outcome) (text : List ℕ) → every.runs start sight MayFail ended text →
    every.runs start sight (gives.is_failing name) ended text)
    → CutsRun (every.runs start sight MayFail) every name out out' → CutsFile gives every name out out'
opened_cut gives every name file sight start MayFail out out' is from same may h = record {
  status = h.status;
  line = h.line;
  written = opened_run gives every name h.line file sight start MayFail h.status is from same may h.written;
  appends = h.appends;
}

-- the runs of a task, of which a read may fail
pub may_more : (work : Work) (start : ℕ) (file : SpaceView) (A B : Type 0) → (A → B) → (ended : Outcome)
    (text : List ℕ) → runs_of work start file A ended text → runs_of work start file B ended text
may_more (Map typed) start file A B more _ _ (maps_from {ask = ask} asked (maps_over {after = after} may ends)) =
    maps_from {ask = ask} asked (maps_over {after = after} (λ risen. more (may risen)) ends)
may_more (Identify identity) start file A B more _ _ (identifies_from {after = after} may identifies) =
    identifies_from {after = after} (λ risen. more (may risen)) identifies

-- what is written stays where nothing more is written
pub run_kept : (Runs : Outcome → (text : List ℕ) → Type 0) (every : Every) (name : List ℕ)
    (out out' out'' : Option (List ℕ)) (status : Status) → AppendsRun Runs every name out out' status → Keeps out' out''
    → AppendsRun Runs every name out out'' status
run_kept Runs every name out out' out'' status h keeps =
    record { line = h.line; written = h.written; appends = Appends-keeps out out' out'' h.line h.appends keeps }

-- an output that failed after it
pub run_unflushed : (Runs : Outcome → (text : List ℕ) → Type 0) (every : Every) (name : List ℕ)
    (out out' out'' : Option (List ℕ)) (status : Status) → AppendsRun Runs every name out out' status → Keeps out' out''
    → CutsRun Runs every name out out''
run_unflushed Runs every name out out' out'' status h keeps = record {
  status = status;
  line = h.line;
  written = h.written;
  appends = upto_whole out out'' h.line (Appends-keeps out out' out'' h.line h.appends keeps);
}
