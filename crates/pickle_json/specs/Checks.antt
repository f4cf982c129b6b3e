-- The answer of a check as a JSON object, on a line.
use Rattle.std.specs.Prelude.{◌≡◌, ◌≢◌, ℕ, Bool, true, false, List, [], ◌∷◌, ◌++◌, Option, None, Some, codes}
use Rattle.std.specs.Io.KnownBytes.{Appends}
use Rattle.pickle_tree.specs.Tree.{DeclarationTree}
use Rattle.pickle_types.specs.Names.{Names}
use Rattle.pickle_source.specs.declared.note.Note.{Note}
use Rattle.run_parts.specs.Accepted.{IsAccepted, Refuses}
use Rattle.run_parts.specs.Outcomes.{outcome_members, outcome_status}
use Rattle.run_parts.specs.declared.accept.Refusal.{Refusal}
use Rattle.run_parts.specs.declared.accept.Refusal.TheVariants as refusal
use Rattle.run_parts.specs.declared.outcome.Outcome.TheVariants as outcome
use Rattle.run_parts.specs.declared.status.Status.{Status}
use Rattle.run_parts.specs.declared.status.Status.TheVariants.{Done}
use Rattle.text_output.specs.Written.{AppendsPart}
use Rattle.pickle_json.specs.Notes.{note_members}

-- what begins the object of a note among others
abbrev pub lead : (first : Bool) → List ℕ
lead true = codes "{"
lead false = codes ",{"

-- an object for each note, with commas between them
abbrev pub notes_json : (pickle : List ℕ) (first : Bool) → List Note → List ℕ
notes_json pickle first [] = []
notes_json pickle first (note ∷ notes) =
    (lead first ++ (note_members pickle note ++ codes "}")) ++ notes_json pickle false notes

-- the answer for an accepted pickle with notes about it
abbrev pub warnings_json : (pickle : List ℕ) → List Note → List ℕ
warnings_json pickle notes = codes "{\"accepted\":true,\"warnings\":[" ++ (notes_json pickle true notes ++ codes "]}\n")

-- the answer for an accepted pickle, with the notes about it, if there are any
abbrev pub accepted_json : (pickle : List ℕ) → List Note → List ℕ
accepted_json pickle [] = codes "{\"accepted\":true}\n"
accepted_json pickle (note ∷ notes) = warnings_json pickle (note ∷ notes)

-- the members of a note after others, if there is one
abbrev pub more_members : (pickle : List ℕ) → Option Note → List ℕ
more_members pickle None = []
more_members pickle (Some note) = codes "," ++ note_members pickle note

-- the answer for a refused pickle: the refusal and its place as `--faults json` has them, and the note about it
abbrev pub refused_json : (pickle : List ℕ) → Refusal → Option Note → List ℕ
refused_json pickle refusal note =
    codes "{" ++ (outcome_members (outcome.Refused refusal) ++ (more_members pickle note ++ codes "}\n"))

-- the same where a note was requested that couldn't be made
abbrev pub untold_json : Refusal → List ℕ
untold_json refusal = codes "{" ++ (outcome_members (outcome.Refused refusal) ++ codes ",\"says\":null}\n")

-- a note is there if it is requested; a refusal for want of memory has none
abbrev pub IsAsked : (explains : Bool) → Refusal → Option Note → Type 0
IsAsked false refused note = note ≡ None
IsAsked true refused note = refused ≢ refusal.Memory → note ≢ None

-- the right answers with their exit statuses; notes are there if they are requested, or are null
pub data ChecksInJson (pickle : List ℕ) (explains : Bool) : Status → List ℕ → Type 0 where
  accepted : {declarations : List DeclarationTree} {types : Names} (notes : List Note)
      → IsAccepted pickle declarations types
      → (explains ≡ false → notes ≡ []) → ChecksInJson pickle explains Done (accepted_json pickle notes)
  refused : {refusal : Refusal} (note : Option Note) → Refuses pickle refusal
      → IsAsked explains refusal note
      → ChecksInJson pickle explains (outcome_status (outcome.Refused refusal)) (refused_json pickle refusal note)
  unnoted : {declarations : List DeclarationTree} {types : Names} → IsAccepted pickle declarations types
      → explains ≡ true → ChecksInJson pickle explains Done (codes "{\"accepted\":true,\"warnings\":null}\n")
  unexplained : {refusal : Refusal} → Refuses pickle refusal → explains ≡ true
      → ChecksInJson pickle explains (outcome_status (outcome.Refused refusal)) (untold_json refusal)

-- a right answer is written whole
pub record Answers (pickle : List ℕ) (explains : Bool) (status : Status) (old new : Option (List ℕ)) : Type 0 where
  pub text : List ℕ
  pub right : ChecksInJson pickle explains status text
  pub written : Appends old new text

-- a failing writer accepted a part of a right answer
pub record AnswersPart (pickle : List ℕ) (explains : Bool) (old new : Option (List ℕ)) : Type 0 where
  pub status : Status
  pub text : List ℕ
  pub right : ChecksInJson pickle explains status text
  pub written : AppendsPart old new text
