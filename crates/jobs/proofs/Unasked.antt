-- Without --why nothing is told of the files of a mapping.
use Rattle.std.proofs.Common.{Bool, true, false, ℕ, List, Option, String, string_bytes, subst}
use Rattle.std.proofs.KnownBytes.{Keeps-trans}
use Rattle.std.specs.declared.alloc.Global.{Global}
use Rattle.std.specs.Io.KnownBytes.{Keeps}
use Rattle.command_line.specs.declared.request.FileNames.{FileNames}
use Rattle.command_line.specs.declared.request.FileNames.TheVariants.{Words, EndedByZero}
use Rattle.command_line.specs.declared.request.Over.{Over}
use Rattle.command_line.specs.declared.request.Over.TheVariants.{Bytes, File, Files, Records, Search}
use Rattle.jobs.specs.Aims.{Requested}
use Rattle.jobs.specs.Asides.{ExplainsName, TellsEach, TellsFiles, TellsListed, TellsLong, TellsName, TellsOver, TellsWord, no_file_told, no_list, none_told, one_file_told, one_told, opened_name, tells_list, tells_long, tells_run, tells_short, tells_untold, tells_word, unopened_name}
use Rattle.jobs.specs.Explained.{explains_from}
use Rattle.jobs.specs.Gives.{Gives}
use Rattle.jobs.specs.Jobs.{every_for}

abbrev is_false : Bool → Type 0
is_false false = Unit {0}
is_false true = ⊥

-- files of which no text is right
each_silent : {A : Type 0} (IsRight : A → List ℕ → Type 0) (told told' : Option (List ℕ)) (files : List A)
    → ((file : A) (text : List ℕ) → IsRight file text → ⊥) → TellsEach IsRight told files told' → Keeps told told'
each_silent IsRight told told' _ never (no_file_told keeps) = keeps
each_silent IsRight told told' _ never (one_file_told {files = files} {mid = mid} first (none_told keeps)) =
    Keeps-trans told mid told' (each_silent IsRight told mid files never first) keeps
each_silent IsRight told told' _ never (one_file_told {file = file} first (one_told {text = text} right appends)) =
    absurd (never file text right)

module _ (gives : Gives) (requested : Requested) (pickle : List ℕ) where
  unexplained : (name lines : List ℕ) → ExplainsName gives (every_for false requested pickle) name lines → ⊥
  unexplained name lines (unopened_name fails unopened) = subst is_false unopened.asked tt
  unexplained name _ (opened_name start is from (explains_from asked says)) = subst is_false asked tt

  name_untold : (name text : List ℕ) → TellsName gives (every_for false requested pickle) name text → ⊥
  name_untold name _ (tells_run {lines = lines} some explains) = unexplained name lines explains
  name_untold name _ (tells_untold {lines = lines} some explains) = unexplained name lines explains

  long_untold : (start text : List ℕ) → TellsLong (every_for false requested pickle) start text → ⊥
  long_untold start _ (tells_run some unopened) = subst is_false unopened.asked tt
  long_untold start _ (tells_untold some unopened) = subst is_false unopened.asked tt

  word_untold : (word text : List ℕ) → TellsWord gives (every_for false requested pickle) word text → ⊥
  word_untold word text (tells_word {name = name} is tells) = name_untold name text tells

  listed_untold : (name text : List ℕ) → TellsListed gives (every_for false requested pickle) name text → ⊥
  listed_untold name text (tells_short within tells) = name_untold name text tells
  listed_untold name text (tells_long {start = start} more is long tells) = long_untold start text tells

  pub files_silent : (names : FileNames) (told told' : Option (List ℕ))
      → TellsFiles gives (every_for false requested pickle) names told told' → Keeps told told'
  files_silent (Words words) told told' h =
      each_silent (λ (word : String Global). TellsWord gives (every_for false requested pickle) (string_bytes word))
      told told' h.first (λ word text tells. word_untold (string_bytes word) text tells) h.tells
  files_silent (EndedByZero path) told told' (no_list keeps) = keeps
  files_silent (EndedByZero path) told told' (tells_list is names) =
      each_silent (TellsListed gives (every_for false requested pickle)) told told' names.names listed_untold
      names.tells

  pub over_silent : (over : Over) (told told' : Option (List ℕ))
      → TellsOver gives false requested pickle over told told' → Keeps told told'
  over_silent (File file) told told' keeps = keeps
  over_silent (Bytes file) told told' keeps = keeps
  over_silent (Files names flush) told told' h = files_silent names told told' h
  over_silent (Records file of list) told told' keeps = keeps
  over_silent (Search file search) told told' keeps = keeps
