-- What is written of a search, and how it ends.
use Rattle.std.specs.Prelude.{◌≡◌, ◌≢◌, ◌<◌, ◌≤◌, ◌*◌, ℕ, true, false, List, [], ◌∷◌, ◌++◌, Option, Some, None}
use Rattle.std.specs.List.{concat}
use Rattle.std.specs.Io.KnownBytes.{Appends}
use Rattle.bit_space.specs.SpaceView.{HasRisen, Keeps, SpaceView}
use Rattle.pickle_meaning.specs.Values.{Value, end_of}
use Rattle.pickle_meaning.specs.declared.faults.MapFaultKind.{MapFaultKind}
use Rattle.pickle_meaning.specs.declared.faults.MapFaultKind.TheVariants as fault
use Rattle.poke_batch.specs.FileLine.{in_memory}
use Rattle.poke_batch.specs.RunsUnder.{end_saying}
use Rattle.poke_batch.specs.TypeRuns.{TellsValue}
use Rattle.poke_batch.specs.declared.type_run.TypeRun.{TypeRun}
use Rattle.run_parts.specs.Outcomes.{EndsAs, outcome_saying}
use Rattle.run_parts.specs.Told.{AppendsUpTo}
use Rattle.run_parts.specs.declared.outcome.Failure.TheVariants as failure
use Rattle.run_parts.specs.declared.outcome.Outcome.{Outcome}
use Rattle.run_parts.specs.declared.outcome.Outcome.TheVariants as outcome
use Rattle.searches.specs.Lines.{has_parts, value_line}
use Rattle.searches.specs.Starts.{IsHit, IsMiss, after_stop, after_value, ask_at, first_of, goes_on, natural_end}
use Rattle.searches.specs.declared.search.Reach.{Reach}
use Rattle.searches.specs.declared.search.Search.{Search}

-- the same run, whose mapping starts where the next attempt does, with the steps that it is allowed
pub record IsRunAt (run : TypeRun) (search : Search) (at : Reach) (next : TypeRun) : Type 0 where
  pub table : next.table ≡ run.table
  pub id : next.id ≡ run.id
  pub terms : next.terms ≡ run.terms
  pub ask : next.ask.now ≡ ask_at search at run.ask.now

-- how a run prints a value into memory
abbrev pub Gathers : TypeRun → (begun done : SpaceView) → Value → Outcome → (text : List ℕ) → Type 0
Gathers run begun done value ended text = EndsAs (TellsValue run begun done value) ended (Some []) (Some text)

-- what a line says of a value beside its place: what the run prints of it, if the terms request a part or a selection
pub data PrintsParts (run : TypeRun) (begun done : SpaceView) (value : Value) : Option (List ℕ) → Type 0 where
  no_parts : has_parts run.terms.now ≡ false → PrintsParts run begun done value None
  some_parts : {parts : List ℕ} → has_parts run.terms.now ≡ true → Gathers run begun done value outcome.Done parts →
      PrintsParts run begun done value (Some parts)

-- a run's line of a value
pub record IsLine (run : TypeRun) (begun done : SpaceView) (value : Value) (line : List ℕ) : Type 0 where
  pub parts : Option (List ℕ)
  pub prints : PrintsParts run begun done value parts
  pub is_line : line ≡ value_line run.ask.now.mode value parts

-- why a value has no line: the run has an outcome in place of what it prints of the value, or memory didn't suffice
pub data LacksLine (run : TypeRun) (begun done : SpaceView) (value : Value) : Outcome → Type 0 where
  has_outcome : {ended : Outcome} {text : List ℕ} → has_parts run.terms.now ≡ true → ended ≢ outcome.Done
      → Gathers run begun done value ended text → LacksLine run begun done value (in_memory ended)
  lacks_memory : LacksLine run begun done value (outcome.Failed failure.Memory)

-- a fact about the next attempt's run, over some time since the search began
pub record Meanwhile (run : TypeRun) (search : Search) (first : SpaceView) (at : Reach)
    (Holds : TypeRun → (begun done : SpaceView) → Type 0) : Type 0 where
  pub next : TypeRun
  pub is_next : IsRunAt run search at next
  pub begun : SpaceView
  pub done : SpaceView
  pub since : Keeps first begun
  pub during : Keeps begun done
  pub holds : Holds next begun done

-- the line of a value that the next attempt finds
abbrev pub WritesHit : TypeRun → Search → (first : SpaceView) → Reach → Value → (line : List ℕ) → Type 0
WritesHit run search first at value line =
    Meanwhile run search first at (λ next begun done. IsLine next begun done value line)

-- One start is tried, and the search goes on: a value is found, and its line written; or the attempt is stopped, and
-- nothing is written.
pub data Tries (run : TypeRun) (search : Search) (first : SpaceView) (at : Reach) : (next : Reach) →
    (more : List (List ℕ)) → Type 0 where
  finds : {value : Value} {steps : ℕ} {line : List ℕ} → IsHit run search first at value steps
      → WritesHit run search first at value line
      → Tries run search first at (after_value search at (end_of value) steps (8 * first.len)) (line ∷ [])
  misses : {kind : MapFaultKind} {place steps : ℕ} {next : Reach} → IsMiss run search first at kind place steps
      → after_stop search run.terms.now.most_bytes at kind steps (8 * first.len) ≡ Some next
      → Tries run search first at next []

-- the search goes on so far, with these lines
pub data Searches (run : TypeRun) (search : Search) (first : SpaceView) : Reach → (lines : List (List ℕ)) →
    Type 0 where
  no_starts : Searches run search first (first_of run.ask.now) []
  one_more : {at next : Reach} {lines more : List (List ℕ)} → Searches run search first at lines
      → goes_on search at (8 * first.len) ≡ true → Tries run search first at next more
      → Searches run search first next (lines ++ more)

-- How a search that goes on ends at the next start. The attempt is stopped by what ends a search; or it finds a value
-- that has no line.
pub data Breaks (run : TypeRun) (search : Search) (first last : SpaceView) (at : Reach) : Outcome → Type 0 where
  stopped : {kind : MapFaultKind} {place steps : ℕ} {ended : Outcome} → IsMiss run search first at kind place steps
      → after_stop search run.terms.now.most_bytes at kind steps (8 * first.len) ≡ None
      → (kind ≡ fault.Device → HasRisen first.failures last.failures)
      → outcome_saying ended ≡ end_saying run.terms.now.most_slots at.place kind place
      → Breaks run search first last at ended
  unwritten : {value : Value} {steps : ℕ} {ended : Outcome} → IsHit run search first at value steps
      → Meanwhile run search first at (λ next begun done. Keeps done last × LacksLine next begun done value ended)
      → Breaks run search first last at ended

-- How the search ends after so much: it starts past the file's end; it doesn't go on, since enough was found or the
-- file ends; it ends at the next start; memory didn't suffice.
pub data EndsSearch (run : TypeRun) (search : Search) (first last : SpaceView) (at : Reach) : Outcome → Type 0 where
  past_end : 8 * first.len < at.place →
      EndsSearch run search first last at (outcome.Fault (record { kind = fault.End; at = at.place }))
  finished : at.place ≤ 8 * first.len → goes_on search at (8 * first.len) ≡ false →
      EndsSearch run search first last at (natural_end search at)
  breaks : {ended : Outcome} → goes_on search at (8 * first.len) ≡ true → Breaks run search first last at ended →
      EndsSearch run search first last at ended
  no_memory : EndsSearch run search first last at (outcome.Failed failure.Memory)

-- Written are the lines of the values, each whole and in order, and the search ends as it must after them. If the
-- output fails, the first bytes of the next value's line are written after them, or all.
pub data WritesSearch (run : TypeRun) (search : Search) (first last : SpaceView) (out out' : Option (List ℕ))
    (at : Reach) : Outcome → Type 0 where
  writes_all : {lines : List (List ℕ)} {ended : Outcome} → Searches run search first at lines
      → EndsSearch run search first last at ended → Appends out out' (concat lines)
      → WritesSearch run search first last out out' at ended
  output_fails : {lines : List (List ℕ)} {value : Value} {steps : ℕ} {line : List ℕ} {out'' : Option (List ℕ)}
      → Searches run search first at lines → goes_on search at (8 * first.len) ≡ true
      → IsHit run search first at value steps → WritesHit run search first at value line
      → Appends out out'' (concat lines) → AppendsUpTo out'' out' line
      → WritesSearch run search first last out out' at (outcome.Failed failure.Write)
