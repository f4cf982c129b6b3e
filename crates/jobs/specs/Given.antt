-- What jobs give to their runs, and what these write.
use Rattle.std.specs.Prelude.{◌≡◌, ◌≤◌, Bool, ℕ, List, Option, Result, Ok, Err, String, option_map, string_bytes}
use Rattle.std.specs.Borrow.{Bor}
use Rattle.std.specs.declared.alloc.Global.{Global}
use Rattle.std.specs.Io.KnownBytes.{Appends, Keeps}
use Rattle.bit_space.specs.SpaceView.{SpaceView}
use Rattle.command_line.specs.declared.ask.Ask.{Ask}
use Rattle.command_line.specs.declared.request.Request.{Request}
use Rattle.command_line.specs.declared.terms.Terms.{Terms}
use Rattle.command_line.specs.declared.answer_form.AnswerForm.{AnswerForm}
use Rattle.command_line.specs.declared.words.Job.{Job}
use Rattle.command_line.specs.declared.words.Job.TheVariants as job
use Rattle.jobs.specs.Aims.{of_type}
use Rattle.jobs.specs.Chosen.{chosen, first_order}
use Rattle.jobs.specs.Due.{DueRun, End, Holds}
use Rattle.jobs.specs.FaultNames.{list_failure}
use Rattle.jobs.specs.Gives.{Gives}
use Rattle.jobs.specs.Files.{Every}
use Rattle.jobs.specs.Jobs.{DueBound, DueCheckIn, DueIfAny, DueList, DueMapping, DueTypesIn, DueWords, HoldsDump}
use Rattle.jobs.specs.Spaces.{DueSpace, MayShow}
use Rattle.jobs.specs.declared.dumps.Range.{Range}
use Rattle.jobs.specs.declared.ending.Ending.{Ending}
use Rattle.jobs.specs.declared.ending.Ending.TheVariants.{Run, Silent}
use Rattle.jobs.specs.declared.fault.FileFault.TheVariants as fault
use Rattle.jobs.specs.declared.names.ListFault.{ListFault}
use Rattle.jobs.specs.declared.pickles.BoundOf.TheVariants as bound
use Rattle.jobs.specs.declared.pickles.Question.{Question}
use Rattle.jobs.specs.declared.pickles.Question.TheVariants as about
use Rattle.part_lists.specs.PartRuns.{PartsAs}
use Rattle.run_parts.specs.declared.dump.DumpFault.{DumpFault}
use Rattle.run_parts.specs.declared.dump.DumpFault.TheVariants as dump
use Rattle.run_parts.specs.declared.outcome.Failure.TheVariants as failure
use Rattle.run_parts.specs.declared.outcome.Outcome.{Outcome}
use Rattle.run_parts.specs.declared.outcome.Outcome.TheVariants as outcome
use Rattle.run_parts.specs.declared.status.Status.{Status}
use Rattle.text_output.specs.Written.{AppendsPart}
use Rattle.text_output.specs.declared.mode.Mode.{Mode}
use Rattle.text_output.specs.declared.style.Style.{Style}
use Rattle.text_output.specs.declared.write.WriteFault.{WriteFault}

-- what standard output holds of a dump of a range
abbrev pub HoldsRange : Gives → (path : List ℕ) → Range → (out out' : Option (List ℕ)) → End → Type 0
HoldsRange gives path range out out' = HoldsDump gives path range.from range.size range.ruler out out'

-- what is due of a question about a pickle
abbrev pub DueAnswer : (why : Bool) → (word : List ℕ) → Question → (pickle : List ℕ) → (lines : List (List ℕ)) →
    Option End → Type 0
DueAnswer why word (about.Check form) pickle = DueCheckIn why form pickle
DueAnswer why word (about.Types form) pickle = DueTypesIn why form pickle
DueAnswer why word (about.Parts name depth form) pickle = DueRun (PartsAs pickle name.now depth form)
DueAnswer why word (about.Bound name of) pickle = DueBound word name.now of pickle

-- what is due of a request whose terms are settled, once its pickle says which type is mapped
abbrev pub DueSettled : Gives → (why : Bool) → Request → (pickle : List ℕ) →
    (lines : List (List ℕ)) → Option End → Type 0
DueSettled gives why request pickle = DueIfAny (λ requested. DueMapping gives why requested request.over pickle)
    (option_map (λ found. of_type request found.name (first_order request.order found.order) request.terms)
    (chosen request.subject pickle))

-- that question is the one of a job, about the pickle that an argument names
pub data IsAskedAbout (form : AnswerForm) (word : List ℕ) : Job → Question → Type 0 where
  of_check : {pickle : String Global} → word ≡ string_bytes pickle →
      IsAskedAbout form word (job.Check pickle) (about.Check form)
  of_types : {pickle : String Global} → word ≡ string_bytes pickle →
      IsAskedAbout form word (job.Types pickle) (about.Types form)
  of_parts : {pickle name : String Global} {depth : Option ℕ} (given : Bor (List ℕ)) → word ≡ string_bytes pickle
      → given.now ≡ string_bytes name
      → IsAskedAbout form word (job.Parts pickle name depth) (about.Parts given depth form)
  of_bound : {pickle name : String Global} {bits : ℕ} (given : Bor (List ℕ)) → word ≡ string_bytes pickle
      → given.now ≡ string_bytes name
      → IsAskedAbout form word (job.Bound pickle name bits) (about.Bound given (bound.Plain bits))
  of_tight : {pickle name : String Global} {bits : ℕ} (given : Bor (List ℕ)) → word ≡ string_bytes pickle
      → given.now ≡ string_bytes name
      → IsAskedAbout form word (job.TightBound pickle name bits) (about.Bound given (bound.Tight bits))
  of_memory : {pickle name : String Global} {bits : ℕ} (given : Bor (List ℕ)) → word ≡ string_bytes pickle
      → given.now ≡ string_bytes name
      → IsAskedAbout form word (job.MemoryBound pickle name bits) (about.Bound given (bound.Memory bits))
  of_text : {pickle name : String Global} {bits : ℕ} {mode : Option Mode} {style : Style} (given : Bor (List ℕ))
      → word ≡ string_bytes pickle → given.now ≡ string_bytes name
      → IsAskedAbout form word (job.BoundText pickle name bits mode style)
      (about.Bound given (bound.Text (record { bits = bits; style = style; mode = mode })))

-- the jobs that have none
abbrev pub IsOverFiles : Job → Type 0
IsOverFiles (job.Map at order limit mode pickle name file) = Unit {0}
IsOverFiles (job.Request request) = Unit {0}
IsOverFiles (job.Identify files) = Unit {0}
IsOverFiles (job.Dump from size ruler file) = Unit {0}
IsOverFiles job.Formats = Unit {0}
IsOverFiles (job.Bound pickle name bits) = ⊥
IsOverFiles (job.TightBound pickle name bits) = ⊥
IsOverFiles (job.MemoryBound pickle name bits) = ⊥
IsOverFiles (job.BoundText pickle name bits mode style) = ⊥
IsOverFiles (job.Check pickle) = ⊥
IsOverFiles (job.Types pickle) = ⊥
IsOverFiles (job.Parts pickle name depth) = ⊥

-- those that request no bounds
abbrev pub HasNoBound : Job → Type 0
HasNoBound (job.Bound pickle name bits) = ⊥
HasNoBound (job.TightBound pickle name bits) = ⊥
HasNoBound (job.MemoryBound pickle name bits) = ⊥
HasNoBound (job.BoundText pickle name bits mode style) = ⊥
HasNoBound other = Unit {0}

-- a run over a space whose view is so afterwards; the view at the run's end has no more failures
pub record MapsSpace (pickle : List ℕ) (ask : Ask) (terms : Terms) (space space' : SpaceView) (why : Bool)
    (out out' : Option (List ℕ)) (ended : Outcome) : Type 0 where
  pub after : SpaceView
  pub failures : after.failures ≤ space'.failures
  pub holds : Holds (DueSpace pickle ask terms space after why) out out' (Ok (Run ended))

-- after a run of a value that is shown to the eye, what it had before its fault is added; the output may fail then
pub data AddsMet (terms : Terms) (ended : Outcome) (out out' : Option (List ℕ)) : Outcome → Type 0 where
  adds_none : Keeps out out' → AddsMet terms ended out out' ended
  adds_met : (met : List ℕ) → MayShow terms ended met → Appends out out' met → AddsMet terms ended out out' ended
  cuts_met : (met : List ℕ) → MayShow terms ended met → AppendsPart out out' met →
      AddsMet terms ended out out' (outcome.Failed failure.Write)

-- how a job ends that wrote its answer, or whose output failed
abbrev pub ending_of : Result Status WriteFault → Ending
ending_of (Ok status) = Silent status
ending_of (Err fault) = Run (outcome.Failed failure.Write)

-- how a dump ends, by what its call returned
abbrev pub dump_end : Result (Unit {0}) DumpFault → End
dump_end (Ok unit) = Ok (Run outcome.Done)
dump_end (Err dump.Write) = Ok (Run (outcome.Failed failure.Write))
dump_end (Err dump.Device) = Err (fault.Dump dump.Device)

-- how a job over many files ends
abbrev pub files_ending : Result Status ListFault → Ending
files_ending (Ok greatest) = Silent greatest
files_ending (Err fault) = Run (outcome.Failed (list_failure fault))

-- what standard output holds of files that arguments represent, and of files that a list names
abbrev pub HoldsWords : Gives → Every → List (String Global) → (out out' : Option (List ℕ)) →
    Result Status WriteFault → Type 0
HoldsWords gives every words out out' result = Holds (DueWords gives every words) out out' (Ok (ending_of result))

abbrev pub HoldsList : Gives → Every → (list : Option (List ℕ)) → (out out' : Option (List ℕ)) →
    Result Status ListFault → Type 0
HoldsList gives every list out out' result =
    Holds (DueList gives every (λ bytes. bytes ≡ list)) out out' (Ok (files_ending result))
