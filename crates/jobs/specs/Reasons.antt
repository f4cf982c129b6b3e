-- What is written as the reasons of a job.
use Rattle.std.specs.Prelude.{◌≡◌, ◌⊎◌, Bool, true, false, ℕ, List, [], Option, Some, None, Result, Ok, Err, Vec, codes, string_bytes, if◌then◌else◌}
use Rattle.std.specs.declared.alloc.AllocError.{AllocError}
use Rattle.std.specs.declared.alloc.Global.{Global}
use Rattle.command_line.specs.Subjects.{pickle_of}
use Rattle.command_line.specs.declared.words.Job.{Job}
use Rattle.command_line.specs.declared.words.Job.TheVariants as job
use Rattle.jobs.specs.Due.{End}
use Rattle.jobs.specs.Gives.{Gives}
use Rattle.jobs.specs.declared.ending.Ending.TheVariants.{Run}
use Rattle.jobs.specs.declared.opener.NamedPickle.{NamedPickle}
use Rattle.jobs.specs.declared.why.Reasons.{Reasons}
use Rattle.pickle_reasons.specs.Places.{TellsNoType}
use Rattle.pickle_source.specs.Places.{TellsPlace, called_by}
use Rattle.pickle_warnings.specs.Warnings.{AreNotes}
use Rattle.run_parts.specs.declared.accept.Refusal.{Refusal}
use Rattle.run_parts.specs.declared.outcome.Outcome.{Outcome}
use Rattle.run_parts.specs.declared.outcome.Outcome.TheVariants.{NoSuchType, Refused}

-- reasons stay as they are, or are other ones, if reasons are requested and there is something to explain
abbrev pub Gains : (why : Bool) → (Explained : Type 0) → (reasons reasons' : Reasons) → Type 0
Gains why Explained reasons reasons' = (reasons' ≡ reasons) ⊎ ((why ≡ true) × Explained)

-- why a pickle, or the name of a type in it, is refused: a place in the pickle, or the types that it has
pub data SaysRefusal (pickle : NamedPickle) : Outcome → List ℕ → Type 0 where
  says_place : {refusal : Refusal} {text : List ℕ}
      → TellsPlace pickle.bytes.items (called_by (string_bytes pickle.path)) text
      → SaysRefusal pickle (Refused refusal) text
  says_types : {text : List ℕ} → TellsNoType text → SaysRefusal pickle NoSuchType text

-- the outcomes that these explain
pub data IsExplained : Outcome → Type 0 where
  refused_pickle : {refusal : Refusal} → IsExplained (Refused refusal)
  no_type : IsExplained NoSuchType

-- the line that says that memory lacks for reasons
abbrev pub untold : List ℕ
untold = codes "  memory doesn't suffice for the reasons\n"

-- that line if memory lacks, and otherwise nothing or the text
abbrev pub untold_line : (lack_memory : Bool) → List ℕ
untold_line lack_memory = if lack_memory then untold else []

abbrev pub lines_of : Reasons → List ℕ
lines_of reasons = if reasons.lack_memory then untold else reasons.text.items

-- memory lacks for reasons, and nothing is left of them
pub record AreLost (reasons : Reasons) : Type 0 where
  pub text : reasons.text.items ≡ []
  pub lack : reasons.lack_memory ≡ true

-- reasons that were made, or weren't for want of memory
abbrev pub IsMade : Result (Vec ℕ Global) AllocError → Reasons → Type 0
IsMade (Ok text) reasons = (reasons.text ≡ text) × (reasons.lack_memory ≡ false)
IsMade (Err fault) reasons = AreLost reasons

-- reasons are right, or memory lacks for them
pub data Says (Right : List ℕ → Type 0) (reasons : Reasons) : Type 0 where
  said : Right reasons.text.items → reasons.lack_memory ≡ false → Says Right reasons
  unsaid : AreLost reasons → Says Right reasons

-- the reasons of a job over a pickle that ended with a refusal which these explain
pub record SaysOf (IsPickle : NamedPickle → Type 0) (ended : Outcome) (reasons : Reasons) : Type 0 where
  pub pickle : NamedPickle
  pub is : IsPickle pickle
  pub says : Says (SaysRefusal pickle ended) reasons

-- A job that ends so has these reasons, if reasons are requested.
abbrev pub Explains : (IsPickle : NamedPickle → Type 0) → (why : Bool) → Reasons → End → Type 0
Explains IsPickle why reasons end =
    (ended : Outcome) → end ≡ Ok (Run ended) → why ≡ true → IsExplained ended → SaysOf IsPickle ended reasons

-- the reasons of a job that ended otherwise stay as they are
abbrev pub KeepsOthers : End → (reasons reasons' : Reasons) → Type 0
KeepsOthers end reasons reasons' =
    (ended : Outcome) → end ≡ Ok (Run ended) → (IsExplained ended → ⊥) → reasons' ≡ reasons

-- the argument of a job that names its pickle, if there is one
abbrev pub word_of : Job → Option (List ℕ)
word_of (job.Map at order limit mode pickle name file) = Some (string_bytes pickle)
word_of (job.Request request) = pickle_of request.subject
word_of (job.Bound pickle name bits) = Some (string_bytes pickle)
word_of (job.TightBound pickle name bits) = Some (string_bytes pickle)
word_of (job.MemoryBound pickle name bits) = Some (string_bytes pickle)
word_of (job.BoundText pickle name bits mode style) = Some (string_bytes pickle)
word_of (job.Check pickle) = Some (string_bytes pickle)
word_of (job.Types pickle) = Some (string_bytes pickle)
word_of (job.Parts pickle name depth) = Some (string_bytes pickle)
word_of (job.Identify asked) = None
word_of (job.Dump from size ruler file) = None
word_of job.Formats = None

-- of a job over the pickle that such an argument names
abbrev pub ExplainsWord : Gives → Option (List ℕ) → (why : Bool) → Reasons → End → Type 0
ExplainsWord gives None why reasons end = Unit {0}
ExplainsWord gives (Some word) why reasons end =
    Explains (λ pickle. gives.is_pickle word pickle.bytes.items) why reasons end

-- what an accepted pickle says and can't mean
abbrev pub SaysNotes : NamedPickle → List ℕ → Type 0
SaysNotes pickle text = AreNotes pickle.bytes.items (called_by (string_bytes pickle.path)) text
