-- The line of a name of a list that is too long to be opened: it is written as the name is read.
use Rattle.std.specs.Prelude.{ℕ, List, [], ◌++◌, Option, codes}
use Rattle.std.specs.Io.KnownBytes.{Appends}
use Rattle.jobs.specs.Files.{AppendsRun, CutsRun, EndsBy, Every}
use Rattle.jobs.specs.Names.{BeginsName, IsRestOfName}
use Rattle.jobs.specs.declared.file_run.FileForm.{FileForm}
use Rattle.jobs.specs.declared.file_run.FileForm.TheVariants.{Line, Object}
use Rattle.jobs.specs.declared.long_name.Rest.{Rest}
use Rattle.jobs.specs.declared.long_name.Rest.TheVariants.{Ended, Unread}
use Rattle.poke_batch.specs.FileLine.{after_name, shown_name}
use Rattle.poke_batch.specs.FileObject.{later_members}
use Rattle.run_parts.specs.Told.{AppendsUpTo}
use Rattle.run_parts.specs.declared.outcome.Failure.{Failure}
use Rattle.run_parts.specs.declared.outcome.Failure.TheVariants as failure
use Rattle.run_parts.specs.declared.outcome.Outcome.{Outcome}
use Rattle.run_parts.specs.declared.status.Status.TheVariants.{Outside}
use Rattle.value_text.specs.JsonText.{json_escape}
use Rattle.value_text.specs.ValueText.{spelled}

-- what is written before a name, what of its bytes, and what after it
abbrev pub before_name : FileForm → List ℕ
before_name (Line faults) = []
before_name Object = codes "{\"name\":\""

abbrev pub name_part : FileForm → (bytes : List ℕ) → List ℕ
name_part (Line faults) bytes = shown_name bytes
name_part Object bytes = spelled json_escape (shown_name bytes)

abbrev pub end_of_name : FileForm → Outcome → (lines : List ℕ) → List ℕ
end_of_name (Line faults) ended lines = after_name faults ended []
end_of_name Object ended lines = codes "\"" ++ later_members ended [] lines

-- the bytes that were read of a name, and whether those are all
abbrev pub IsRead : (list list' : Option (List ℕ)) → Rest → (more : List ℕ) → Type 0
IsRead list list' Ended more = IsRestOfName list more list'
IsRead list list' Unread more = BeginsName list more

-- the rest of a name is written as far as it is read
pub record CopiesRest (form : FileForm) (list list' out out' : Option (List ℕ)) (rest : Rest) : Type 0 where
  pub more : List ℕ
  pub read : IsRead list list' rest more
  pub appends : Appends out out' (name_part form more)

-- the output failed at it
pub record CutsRest (form : FileForm) (list out out' : Option (List ℕ)) : Type 0 where
  pub more : List ℕ
  pub begins : BeginsName list more
  pub appends : AppendsUpTo out out' (name_part form more)

-- the failure by which the line of a name ends
abbrev pub rest_failure : Rest → Failure
rest_failure Ended = failure.Open
rest_failure Unread = failure.Read

-- the line of a name with this start is written
pub record WritesLong (every : Every) (start : List ℕ) (list list' out out' : Option (List ℕ)) (rest : Rest) :
    Type 0 where
  pub more : List ℕ
  pub read : IsRead list list' rest more
  pub written : AppendsRun (EndsBy (rest_failure rest)) every (start ++ more) out out' Outside

-- the output failed at it
pub record CutsLong (every : Every) (start : List ℕ) (list out out' : Option (List ℕ)) : Type 0 where
  pub rest : Rest
  pub list' : Option (List ℕ)
  pub more : List ℕ
  pub read : IsRead list list' rest more
  pub written : CutsRun (EndsBy (rest_failure rest)) every (start ++ more) out out'
