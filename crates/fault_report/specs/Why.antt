-- What is printed about why a mapping stops.
use Rattle.std.specs.Prelude.{◌≡◌, ◌≢◌, ℕ, Bool, true, false, List, [], ◌++◌, Option, Some, None, Result, Vec, IfOk, codes}
use Rattle.std.specs.declared.alloc.Global.{Global}
use Rattle.bit_space.specs.SpaceView.{SpaceView, HasRisen}
use Rattle.pickle_tree.specs.Tree.{DeclarationTree}
use Rattle.pickle_types.specs.Names.{Names, find_type}
use Rattle.pickle_types.specs.Types.{PokeType}
use Rattle.pickle_meaning.specs.declared.faults.MapFault.{MapFault}
use Rattle.pickle_meaning.specs.declared.faults.MapFaultKind.TheVariants as faults
use Rattle.command_line.specs.declared.ask.Ask.{Ask}
use Rattle.command_line.specs.declared.path.Path.{Path}
use Rattle.command_line.specs.declared.selection.Selection.{Selection}
use Rattle.command_line.specs.declared.terms.Terms.{Terms}
use Rattle.run_parts.specs.Accepted.{IsAccepted, Refuses}
use Rattle.run_parts.specs.declared.accept.Refusal.{Refusal}
use Rattle.run_parts.specs.declared.accept.Refusal.TheVariants.{Memory}
use Rattle.run_parts.specs.declared.status.Status.TheVariants.{Fault as Faulty}
use Rattle.run_parts.specs.Outcomes.{fault_status, outcome_saying, outcome_status}
use Rattle.run_parts.specs.declared.outcome.Outcome.{Outcome}
use Rattle.run_parts.specs.declared.outcome.Outcome.TheVariants.{Done, Fault, Slots, Storage, Left, NoSuchPart, Output}
use Rattle.poke_batch.specs.Runs.{IsAsked}
use Rattle.poke_batch.specs.RunsUnder.{end_under_saying}
use Rattle.pickle_source.specs.declared.text.Text.{Text}
use Rattle.fault_report.specs.declared.cause.Fault.{Fault as Part}
use Rattle.fault_report.specs.declared.scene.Scene.{Scene}
use Rattle.fault_report.specs.Found.{IsKept, scene_type}
use Rattle.fault_report.specs.Meant.{HasFault, HasValue, IsFaultAt, IsUnfound}
use Rattle.fault_report.specs.Ways.{IsWayTo, LacksPart}

-- lines on the part of a type to which places lead, which begin with its path
pub data TellsPart (type : PokeType) (places : List ℕ) : List ℕ → Type 0 where
  tells_part : {path text : List ℕ} {part : PokeType} (rest : List ℕ) → IsWayTo type places path part
      → text ≡ codes "  in " ++ (path ++ (codes ", " ++ rest)) → TellsPart type places text

-- these; or none, if the places lead to no part
pub data ShowsPart (type : PokeType) (places : List ℕ) : List ℕ → Type 0 where
  shows_part : {text : List ℕ} → TellsPart type places text → ShowsPart type places text
  shows_none : LacksPart type places → ShowsPart type places []

-- a line on an array, which begins with its path, or on the value itself; or none
pub data TellsArray (type : PokeType) : List ℕ → Type 0 where
  no_array : TellsArray type []
  tells_value : {text : List ℕ} (rest : List ℕ) → text ≡ codes "  the value" ++ (codes " ended after " ++ rest) →
      TellsArray type text
  tells_array : {places path text : List ℕ} {part : PokeType} (rest : List ℕ) → IsWayTo type places path part
      → text ≡ codes "  " ++ (path ++ (codes " ended after " ++ rest)) → TellsArray type text

-- how arrays end whose next element begins otherwise
abbrev pub planned_ending : List ℕ
planned_ending = codes " ended where the next element's first number doesn't match\n"

-- lines on arrays that ended early, how many more did, and how many ended where the next element begins otherwise
pub data TellsArrays (type : PokeType) : List ℕ → Type 0 where
  no_more : TellsArrays type []
  one_more : {lines line : List ℕ} → TellsArrays type lines → TellsArray type line → TellsArrays type (lines ++ line)
  uncounted : {lines : List ℕ} (count : List ℕ) → TellsArrays type lines
      → TellsArrays type (lines ++ (codes "  " ++ (count ++ codes " ended early before these\n")))
  planned : {lines : List ℕ} (count : List ℕ) → TellsArrays type lines →
      TellsArrays type (lines ++ (codes "  " ++ (count ++ planned_ending)))

-- a line on how far the path to the requested part leads
pub data TellsMissing (text : Text) : Type 0 where
  tells_missing : (path rest : List ℕ) →
      text.bytes.items ≡ codes "  " ++ (path ++ (codes " is there" ++ rest)) → TellsMissing text

-- a line on the rest of the file after the value
pub data TellsRoom (text : Text) : Type 0 where
  tells_room : (room : List ℕ) → text.bytes.items ≡ codes "  " ++ (room ++ (codes "\n" ++ [])) → TellsRoom text

-- a line on how many bytes the text of the value has
pub data TellsSize (text : Text) : Type 0 where
  tells_size : (count : List ℕ) →
      text.bytes.items ≡ codes "  the text has " ++ (count ++ (codes " bytes\n" ++ [])) → TellsSize text

-- the same; or that the value lacks the requested part
pub data TellsOutput (terms : Terms) (text : Text) : Type 0 where
  of_size : TellsSize text → TellsOutput terms text
  of_missing : {path : Path} → terms.part ≡ Some path → TellsMissing text → TellsOutput terms text

-- For a run whose value fails to meet a term, a line on that term. Nothing for one that is done, or that requests no
-- part.
pub data TellsTerm (terms : Terms) : Outcome → Text → Type 0 where
  tells_done : {text : Text} → text.bytes.items ≡ [] → TellsTerm terms Done text
  tells_part : {path : Path} {text : Text} → terms.part ≡ Some path → TellsMissing text →
      TellsTerm terms NoSuchPart text
  tells_selected : {selection : Selection} {text : Text} → terms.selection ≡ Some selection →
      TellsTerm terms NoSuchPart text
  requests_none : {text : Text} → terms.part ≡ None → terms.selection ≡ None → TellsTerm terms NoSuchPart text
  tells_left : {end : ℕ} {text : Text} → TellsRoom text → TellsTerm terms (Left end) text
  tells_output : {start : ℕ} {text : Text} → TellsOutput terms text → TellsTerm terms (Output start) text

-- whether a run with a value may end so
abbrev pub is_of_value : Outcome → Bool
is_of_value Done = true
is_of_value (Left end) = true
is_of_value NoSuchPart = true
is_of_value (Output start) = true
is_of_value ended = false

-- a finished run: the file, and its state after the run was explained; what the run was given, its terms, and its
-- outcome
pub record Run : Type 0 where
  pub space : SpaceView
  pub after : SpaceView
  pub ask : Ask
  pub terms : Terms
  pub outcome : Outcome

-- the run that has these
abbrev pub run_of : (space after : SpaceView) → Ask → Terms → Outcome → Run
run_of space after ask terms outcome =
    record { space = space; after = after; ask = ask; terms = terms; outcome = outcome }

-- lines on the part that has a fault of the run's type; or none, where it isn't found
pub data TellsFault (run : Run) (type : PokeType) (fault : MapFault) : List ℕ → Type 0 where
  tells_unfound : IsUnfound run.space run.after type run.ask fault → TellsFault run type fault []
  tells_fault : {places text : List ℕ} → IsFaultAt run.space type run.ask fault places → TellsPart type places text →
      TellsFault run type fault text

-- for the fault Device, a read of the file failed
abbrev pub FailsRead : Run → MapFault → Type 0
FailsRead run fault = fault.kind ≡ faults.Device → HasRisen run.space.failures run.after.failures

-- an outcome is the one of a fault, with exit status 1: the fault itself or, in a store of the most slots or for so
-- many bytes, that these don't suffice
pub data IsOutcomeOf (start : ℕ) (slots bytes : Option ℕ) (fault : MapFault) : Outcome → Type 0 where
  itself : fault_status fault.kind ≡ Faulty → IsOutcomeOf start slots bytes fault (Fault fault)
  too_few_slots : {most : ℕ} → bytes ≡ None → slots ≡ Some most → fault.kind ≡ faults.Memory →
      IsOutcomeOf start slots bytes fault (Slots start)
  too_many_bytes : {most : ℕ} → bytes ≡ Some most → fault.kind ≡ faults.Memory →
      IsOutcomeOf start slots bytes fault (Storage start)

-- What is printed about a finished run: for a fault the part and the arrays, for a value the term that it fails to
-- meet, if any, and the arrays. The outcome is that of the fault which the type has on the file's bits.
--
-- Nothing is printed where the mapping ends otherwise than the run when it is done again: with a fault or a value of
-- which the outcome isn't, or by a read that failed.
pub data TellsWhy (run : Run) (type : PokeType) : List ℕ → Type 0 where
  of_fault : {fault : MapFault} {part arrays : List ℕ} → HasFault run.space type run.ask fault
      → end_under_saying run.terms.most_slots run.terms.most_bytes run.ask.start fault.kind fault.at
      ≡ outcome_saying run.outcome
      → outcome_status run.outcome ≡ Faulty
      → TellsFault run type fault part → TellsArrays type arrays → TellsWhy run type (part ++ arrays)
  of_value : {term : Text} {arrays : List ℕ} → HasValue run.space type run.ask
      → TellsTerm run.terms run.outcome term → TellsArrays type arrays → TellsWhy run type (term.bytes.items ++ arrays)
  another_fault : {fault : MapFault} → HasFault run.space type run.ask fault → fault_status fault.kind ≡ Faulty
      → (IsOutcomeOf run.ask.start run.terms.most_slots run.terms.most_bytes fault run.outcome → ⊥)
      → TellsWhy run type []
  another_value : HasValue run.space type run.ask → is_of_value run.outcome ≡ false → TellsWhy run type []
  failed_read : HasRisen run.space.failures run.after.failures → TellsWhy run type []

-- the text is about a run's fault, if what is stored for it is right
abbrev pub TellsOfPart : {E : Type 0} → PokeType → Option Part → Result Text E → Type 0
TellsOfPart type kept made =
    (run : Run) (fault : MapFault) → IsKept run.space run.after type run.ask fault kept →
    IfOk made (λ text. TellsFault run type fault text.bytes.items)

-- the text is about the run, if its type has this fault on the file's bytes, for which the right part is stored, and if
-- a read failed for the fault Device
abbrev pub TellsOfFault : {E : Type 0} → Run → Scene → MapFault → Option Part → Result (Vec ℕ Global) E → Type 0
TellsOfFault run scene fault kept made =
    HasFault run.space (scene_type scene) run.ask fault
    → IsKept run.space run.after (scene_type scene) run.ask fault kept → FailsRead run fault
    → IfOk made (λ text. TellsWhy run (scene_type scene) text.items)

-- the same, if its type has a value there
abbrev pub TellsOfValue : {E : Type 0} → Run → Scene → Result (Vec ℕ Global) E → Type 0
TellsOfValue run scene made =
    HasValue run.space (scene_type scene) run.ask → IfOk made (λ text. TellsWhy run (scene_type scene) text.items)

-- What is printed about a run from its pickle: the above for the type of the requested name. Nothing where the pickle
-- is refused for another reason than an allocation failure, or has no such type.
pub data ExplainsRun (pickle : List ℕ) (run : Run) : List ℕ → Type 0 where
  explains : {type : PokeType} {text : List ℕ} → IsAsked pickle run.ask.name.now type → TellsWhy run type text →
      ExplainsRun pickle run text
  of_refused : {refusal : Refusal} → refusal ≢ Memory → Refuses pickle refusal → ExplainsRun pickle run []
  of_no_type : {declarations : List DeclarationTree} {types : Names} → IsAccepted pickle declarations types
      → find_type run.ask.name.now types ≡ None
      → ExplainsRun pickle run []
