-- What a run must print, and what its writers accepted of it: values and answers go to `out`, lines to `err`.
use Rattle.std.specs.Prelude.{◌≡◌, ◌⊎◌, ℕ, List, ◌++◌, Option, codes}
use Rattle.std.specs.Io.KnownBytes.{Appends, Keeps}
use Rattle.run_parts.specs.declared.status.Status.{Status}
use Rattle.run_parts.specs.declared.status.Status.TheVariants.{Done, Outside}
use Rattle.run_parts.specs.Lines.{fault_line}
use Rattle.text_output.specs.Written.{AppendsPart}

-- known bytes grow by the first bytes of a text, or by all of it
pub record AppendsUpTo (old new : Option (List ℕ)) (text : List ℕ) : Type 0 where
  pub taken : List ℕ
  pub rest : List ℕ
  pub appends : Appends old new taken
  pub whole : taken ++ rest ≡ text

-- a text for `out`, or a line for `err` with its exit status
pub data Saying : Type 0 where
  Text : (text : List ℕ) → Saying
  Line : (status : Status) (line : List ℕ) → Saying

-- a line is printed whole, with its exit status, or in part, with the exit status of a failing writer
abbrev pub IsTold : Status → List ℕ → Status → Option (List ℕ) → Option (List ℕ) → Type 0
IsTold line_status line status err err' =
    ((status ≡ line_status) × Appends err err' line) ⊎ ((status ≡ Outside) × AppendsPart err err' line)

-- a text is written whole, or in part, which a line reports
abbrev pub IsWritten : List ℕ → Status → (out out' err err' : Option (List ℕ)) → Type 0
IsWritten text status out out' err err' =
    ((status ≡ Done) × Appends out out' text × Keeps err err')
    ⊎ ((status ≡ Outside) × AppendsPart out out' text × AppendsUpTo err err' (fault_line (codes "Write")))

abbrev pub IsSaid : Saying → Status → (out out' err err' : Option (List ℕ)) → Type 0
IsSaid (Text text) status out out' err err' = IsWritten text status out out' err err'
IsSaid (Line line_status line) status out out' err err' = Keeps out out' × IsTold line_status line status err err'

-- a run prints what is right, and nothing else
pub record Says (IsRight : Saying → Type 0) (status : Status) (out out' err err' : Option (List ℕ)) : Type 0 where
  pub saying : Saying
  pub right : IsRight saying
  pub said : IsSaid saying status out out' err err'
