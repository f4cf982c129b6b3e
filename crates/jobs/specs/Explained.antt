-- What explains how the runs of files ended.
use Rattle.std.specs.Prelude.{◌≡◌, Bool, true, ℕ, List, [], ◌++◌, Some, codes, slice_get}
use Rattle.bit_space.specs.SpaceView.{Keeps, SpaceView}
use Rattle.command_line.specs.declared.ask.Ask.{Ask}
use Rattle.fault_report.specs.Why.{TellsWhy, run_of}
use Rattle.identification.specs.declared.format.Format.{Format}
use Rattle.identification.specs.declared.format.Formats.{Formats}
use Rattle.jobs.specs.Aims.{IsAskAt}
use Rattle.jobs.specs.Mapped.{Mapped}
use Rattle.jobs.specs.Reasons.{Says, lines_of, untold}
use Rattle.jobs.specs.declared.why.Reasons.{Reasons}
use Rattle.pickle_types.specs.Types.{PokeType}
use Rattle.poke_batch.specs.FileLine.{shown_name}
use Rattle.poke_batch.specs.Runs.{IsAsked}
use Rattle.poke_batch.specs.TypeRuns.{run_type}
use Rattle.poke_batch.specs.declared.type_run.TypeRun.{TypeRun}
use Rattle.run_parts.specs.declared.outcome.Outcome.{Outcome}

-- the line that says why a file isn't opened; or that memory lacks for it; or nothing
abbrev pub opening_text : (reason : List ℕ) → List ℕ
opening_text reason = codes "  " ++ (reason ++ codes "\n")

pub data IsOpeningLine (lines : List ℕ) : Type 0 where
  no_line : lines ≡ [] → IsOpeningLine lines
  is_untold : lines ≡ untold → IsOpeningLine lines
  is_reason : (reason : List ℕ) → lines ≡ opening_text reason → IsOpeningLine lines

-- the reasons of a run over a file, whose view is so after they were found
abbrev pub SaysRun : (file after : SpaceView) → TypeRun → Outcome → Reasons → Type 0
SaysRun file after run ended = Says (TellsWhy (run_of file after run.ask.now run.terms.now ended) (run_type run))

-- the reasons of a mapping over what is seen of a file from a bit on, which ended so; the file's view is so after they
-- were found
pub record SaysFrom (mapped : Mapped) (start : ℕ) (file after : SpaceView) (ended : Outcome) (reasons : Reasons) :
    Type 0 where
  pub ask : Ask
  pub type : PokeType
  pub read : SpaceView
  pub at : IsAskAt mapped.aim start file.len ask
  pub asked : IsAsked mapped.pickle ask.name.now type
  pub keeps : Keeps file read
  pub found : Keeps read after
  pub says : Says (TellsWhy (run_of read after ask mapped.terms ended) type) reasons

-- lines that explain how it ended, if reasons are requested
pub data ExplainsFrom (mapped : Mapped) (why : Bool) (start : ℕ) (file : SpaceView) : (lines : List ℕ) → Type 0 where
  explains_from : {after : SpaceView} {ended : Outcome} {reasons : Reasons} → why ≡ true
      → SaysFrom mapped start file after ended reasons → ExplainsFrom mapped why start file (lines_of reasons)

-- the line on a format of which an attempt took too many steps
abbrev pub unfinished_line : (name : List ℕ) → List ℕ
unfinished_line name = codes "  trying " ++ (shown_name name ++ codes " took more than 1000000000 steps\n")

-- the lines on some formats
pub data AreUnfinished (formats : Formats) : (lines : List ℕ) → Type 0 where
  none_unfinished : AreUnfinished formats []
  one_unfinished : {lines : List ℕ} {format : Format} (place : ℕ) → AreUnfinished formats lines
      → slice_get formats.list.items place ≡ Some format
      → AreUnfinished formats (lines ++ unfinished_line format.name.items)
