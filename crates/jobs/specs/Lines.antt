-- The lines of the files that arguments represent or that a list names, and where they stop.
use Rattle.std.specs.Prelude.{◌≡◌, ◌<◌, ℕ, List, [], ◌∷◌, ◌++◌, length, Option, Some, None, String, string_bytes}
use Rattle.std.specs.declared.alloc.Global.{Global}
use Rattle.std.specs.Io.KnownBytes.{Keeps}
use Rattle.jobs.specs.Files.{AppendsLine, AppendsRun, CutsLine, CutsRun, EndsBy, Every, WritesEach, WritesName, WritesRun, WritesWord}
use Rattle.jobs.specs.Gives.{Gives}
use Rattle.jobs.specs.Names.{AreListed, AreListedBefore, AreListedFirst, BeginsName, IsNextName, MayStop, most_name}
use Rattle.run_parts.specs.declared.outcome.Failure.{Failure}
use Rattle.run_parts.specs.declared.outcome.Failure.TheVariants as failure
use Rattle.jobs.specs.declared.names.ListFault.{ListFault}
use Rattle.jobs.specs.declared.names.ListFault.TheVariants as listed
use Rattle.run_parts.specs.declared.status.Status.{Status}
use Rattle.run_parts.specs.declared.status.Status.TheVariants.{Outside}

-- the line of an argument
abbrev pub word_line : Gives → Every → (word : String Global) → Status → (line : List ℕ) → Type 0
word_line gives every word = WritesWord gives every (string_bytes word)

-- each argument has its line
abbrev pub WritesWords : Gives → Every → (words : List (String Global)) → Status → (lines : List (List ℕ)) → Type 0
WritesWords gives every words = WritesEach (word_line gives every) words

-- the first arguments have theirs: only an output that fails stops them
pub data StopsWords (gives : Gives) (every : Every) (words : List (String Global)) : Option Failure →
    (lines : List (List ℕ)) → Type 0 where
  first_words : {first : List (String Global)} {lines : List (List ℕ)} {greatest : Status} (rest : List (String Global))
      → first ++ rest ≡ words → WritesWords gives every first greatest lines → StopsWords gives every words None lines

-- each name of a list has its line
pub record WritesList (gives : Gives) (every : Every) (IsList : Option (List ℕ) → Type 0) (greatest : Status)
    (lines : List (List ℕ)) : Type 0 where
  pub names : List (List ℕ)
  pub are : AreListed IsList names
  pub written : WritesEach (WritesName gives every) names greatest lines

-- Its first names have theirs, before a failure to read the rest. If that comes in a name that is too long, there is a
-- line with the bytes that were read of it. If memory to read names lacks, there is no line.
pub data StopsList (gives : Gives) (every : Every) (IsList : Option (List ℕ) → Type 0) : Option Failure →
    (lines : List (List ℕ)) → Type 0 where
  no_memory : StopsList gives every IsList (Some failure.Memory) []
  first_names : {names lines : List (List ℕ)} {greatest : Status} {stop : Option Failure} → MayStop stop
      → AreListedFirst IsList names → WritesEach (WritesName gives every) names greatest lines
      → StopsList gives every IsList stop lines
  in_name : {names lines : List (List ℕ)} {greatest status : Status} {part line : List ℕ}
      → AreListedBefore IsList names part → WritesEach (WritesName gives every) names greatest lines
      → most_name < length part → WritesRun (EndsBy failure.Read) every part status line
      → StopsList gives every IsList (Some failure.Read) (lines ++ line ∷ [])

-- the line of the next name of a list is written
pub record AppendsNext (gives : Gives) (every : Every) (list list' out out' : Option (List ℕ)) (status : Status) :
    Type 0 where
  pub name : List ℕ
  pub is : IsNextName list name list'
  pub written : AppendsLine (WritesName gives every name) out out' status

-- it isn't, because the list can't be read, or only in part; or the output fails at it
pub data StopsNext (gives : Gives) (every : Every) (list out out' : Option (List ℕ)) : ListFault → Type 0 where
  unread_name : Keeps out out' → StopsNext gives every list out out' listed.Read
  unread_part : {part : List ℕ} → BeginsName list part → most_name < length part
      → AppendsRun (EndsBy failure.Read) every part out out' Outside → StopsNext gives every list out out' listed.Read
  cut_name : {name : List ℕ} {list' : Option (List ℕ)} → IsNextName list name list'
      → CutsLine (WritesName gives every name) out out' → StopsNext gives every list out out' listed.Write
  cut_part : {part : List ℕ} → BeginsName list part → most_name < length part
      → CutsRun (EndsBy failure.Read) every part out out' → StopsNext gives every list out out' listed.Write
