-- What is told of files aside, one file after another.
use Rattle.std.proofs.Common.{◌≡◌, ◌≢◌, Bool, false, ℕ, List, [], ◌∷◌, ◌++◌, Option, Result, refl, subst, arith}
use Rattle.std.proofs.KnownBytes.{Keeps-trans}
use Rattle.std.specs.Io.KnownBytes.{Appends, Keeps}
use Rattle.command_line.specs.declared.request.FileNames.{FileNames}
use Rattle.command_line.specs.declared.request.FileNames.TheVariants.{Words, EndedByZero}
use Rattle.command_line.specs.declared.request.Over.{Over}
use Rattle.command_line.specs.declared.request.Over.TheVariants.{Bytes, File, Files, Records, Search}
use Rattle.jobs.specs.Aims.{Requested}
use Rattle.jobs.specs.Asides.{IsUnopened, Tells, TellsEach, TellsEnded, TellsFiles, TellsInForm, TellsLast, TellsList, TellsListed, TellsLong, TellsNames, TellsNext, TellsOver, TellsRun, no_file_told, no_last, no_list, none_told, not_ended, one_file_told, one_told, tells_ended, tells_last, tells_list, tells_long, tells_run, tells_untold}
use Rattle.jobs.specs.Explained.{IsOpeningLine}
use Rattle.jobs.specs.Files.{Every}
use Rattle.jobs.specs.Gives.{Gives}
use Rattle.jobs.specs.Jobs.{every_for}
use Rattle.jobs.specs.LongNames.{IsRead}
use Rattle.jobs.specs.Names.{IsLongStart, IsRestOfName, one_read}
use Rattle.jobs.specs.declared.file_run.FileForm.{FileForm}
use Rattle.jobs.specs.declared.long_name.Rest.{Rest}
use Rattle.jobs.specs.declared.long_name.Rest.TheVariants.{Ended, Unread}
use Rattle.jobs.proofs.Holding.{keeps_before}
use Rattle.jobs.proofs.NamesRead.{name_joined}
use Rattle.jobs.proofs.Told.{form_tells, kept_tells, tells_kept, unopened_explains}
use Rattle.text_output.proofs.Parts.{Appends-keeps}

-- nothing is told after the files
pub each_kept : {A : Type 0} (IsRight : A → List ℕ → Type 0) (told mid told' : Option (List ℕ)) (files : List A)
    → TellsEach IsRight told files mid → Keeps mid told' → TellsEach IsRight told files told'
each_kept IsRight told mid told' _ (no_file_told same) keeps = no_file_told (Keeps-trans told mid told' same keeps)
each_kept IsRight told mid told' _ (one_file_told {file = file} {mid = before} first last) keeps =
    one_file_told first (tells_kept (IsRight file) before mid told' last keeps)

-- what is told of a longer name, whose rest was read so far
long_explains : (why : Bool) (lines : List ℕ) (rest : Rest) → (why ≡ false → lines ≡ [])
    → (rest ≡ Unread → lines ≡ []) → IsOpeningLine lines → lines ≢ [] → IsUnopened why lines × (rest ≡ Ended)
long_explains why lines Ended quiet unread line some = (unopened_explains why lines quiet line some, refl)
long_explains why lines Unread quiet unread line some = absurd (some (unread refl))

run_ends : (every : Every) (start more text : List ℕ) (rest : Rest) (list list' told told' : Option (List ℕ))
    → IsRead list list' rest more → TellsRun start (λ lines. IsUnopened every.why lines × (rest ≡ Ended)) text
    → Appends told told' text → TellsEnded every start list list' told told'
run_ends every start more _ rest list list' told told' read (tells_run some explains) appends =
    tells_ended {more = more} (subst (λ how. IsRead list list' how more) explains.1 read)
    (tells_run some explains.0) appends
run_ends every start more _ rest list list' told told' read (tells_untold some explains) appends =
    tells_ended {more = more} (subst (λ how. IsRead list list' how more) explains.1 read)
    (tells_untold some explains.0) appends

ends_told : (every : Every) (start more : List ℕ) (rest : Rest) (list list' told mid told' : Option (List ℕ))
    → IsRead list list' rest more → Keeps told mid
    → Tells (TellsRun start (λ lines. IsUnopened every.why lines × (rest ≡ Ended))) mid told'
    → TellsEnded every start list list' told told'
ends_told every start more rest list list' told mid told' read keeps (none_told same) =
    not_ended (Keeps-trans told mid told' keeps same)
ends_told every start more rest list list' told mid told' read keeps (one_told {text = text} right appends) =
    run_ends every start more text rest list list' told told' read right
    (keeps_before told mid told' text keeps appends)

pub long_ends : {T E : Type 0} (every : Every) (start more lines : List ℕ) (rest : Rest) (form : FileForm)
    (list list' told mid told' : Option (List ℕ)) (r : Result T E) → IsRead list list' rest more
    → Keeps told mid → (every.why ≡ false → lines ≡ []) → (rest ≡ Unread → lines ≡ []) → IsOpeningLine lines
    → TellsInForm form start lines mid told' r → TellsEnded every start list list' told told'
long_ends every start more lines rest form list list' told mid told' r read keeps quiet unread line h =
    ends_told every start more rest list list' told mid told' read keeps
    (form_tells form start lines (λ some. IsUnopened every.why some × (rest ≡ Ended)) mid told' r
    (long_explains every.why lines rest quiet unread line) h)

pub ended_kept : (every : Every) (start : List ℕ) (list list' told mid told' : Option (List ℕ))
    → TellsEnded every start list list' told mid → Keeps mid told' → TellsEnded every start list list' told told'
ended_kept every start list list' told mid told' (not_ended same) keeps =
    not_ended (Keeps-trans told mid told' same keeps)
ended_kept every start list list' told mid told' (tells_ended {more = more} {text = text} read tells appends) keeps =
    tells_ended {more = more} read tells (Appends-keeps told mid told' text appends keeps)

module _ (gives : Gives) (every : Every) where
  -- it is told of a name of the list
  ended_listed : (list mid list' told told' : Option (List ℕ)) (start more text : List ℕ) → IsLongStart list start mid
      → IsRestOfName mid more list' → TellsLong every start text → Appends told told' text
      → TellsNext gives every list list' told told'
  ended_listed list mid list' told told' start more text s read tells appends = record {
    name = start ++ more;
    is = name_joined list mid list' start more s.within (omega (arith, s.long)) s.read read;
    tells = one_told (tells_long more refl s.long tells) appends;
  }

  pub long_next_told : (list mid list' told told' : Option (List ℕ)) (start more : List ℕ)
      → IsLongStart list start mid → IsRestOfName mid more list' → TellsEnded every start mid list' told told'
      → TellsNext gives every list list' told told'
  long_next_told list mid list' told told' start more s read (not_ended keeps) = record {
    name = start ++ more;
    is = name_joined list mid list' start more s.within (omega (arith, s.long)) s.read read;
    tells = none_told keeps;
  }
  long_next_told list mid list' told told' start more s read (tells_ended {more = rest} {text = text} r tells appends) =
      ended_listed list mid list' told told' start rest text s r tells appends

  pub long_last_told : (list mid list' told told' : Option (List ℕ)) (start : List ℕ) → IsLongStart list start mid
      → TellsEnded every start mid list' told told' → TellsLast gives every list told told'
  long_last_told list mid list' told told' start s (not_ended keeps) = no_last keeps
  long_last_told list mid list' told told' start s (tells_ended {more = more} {text = text} read tells appends) =
      tells_last {list' = list'} (ended_listed list mid list' told told' start more text s read tells appends)

  -- of the names of a list
  pub names_kept : (list rest told mid told' : Option (List ℕ)) → TellsNames gives every list rest told mid
      → Keeps mid told' → TellsNames gives every list rest told told'
  names_kept list rest told mid told' h keeps = record {
    names = h.names;
    read = h.read;
    tells = each_kept (TellsListed gives every) told mid told' h.names h.tells keeps;
  }

  pub names_next : (list rest rest' told mid shown told' : Option (List ℕ))
      → TellsNames gives every list rest told mid → Keeps mid shown
      → TellsNext gives every rest rest' shown told' → TellsNames gives every list rest' told told'
  names_next list rest rest' told mid shown told' h keeps next = record {
    names = h.names ++ next.name ∷ [];
    read = one_read h.read next.is;
    tells = one_file_told h.tells
        (kept_tells (TellsListed gives every next.name) mid shown told' keeps next.tells);
  }

  pub list_last : (IsList : Option (List ℕ) → Type 0) (list rest told mid shown told' : Option (List ℕ)) → IsList list
      → TellsNames gives every list rest told mid → Keeps mid shown → TellsLast gives every rest shown told'
      → TellsList gives every IsList told told'
  list_last IsList list rest told mid shown told' is h keeps (no_last same) =
      tells_list {list = list} {rest = rest} is
      (names_kept list rest told mid told' h (Keeps-trans mid shown told' keeps same))
  list_last IsList list rest told mid shown told' is h keeps (tells_last {list' = list'} next) =
      tells_list {list = list} {rest = list'} is (names_next list rest list' told mid shown told' h keeps next)

  list_kept : (IsList : Option (List ℕ) → Type 0) (told mid told' : Option (List ℕ))
      → TellsList gives every IsList told mid → Keeps mid told' → TellsList gives every IsList told told'
  list_kept IsList told mid told' (no_list same) keeps = no_list (Keeps-trans told mid told' same keeps)
  list_kept IsList told mid told' (tells_list {list = list} {rest = rest} is names) keeps =
      tells_list {list = list} {rest = rest} is (names_kept list rest told mid told' names keeps)

  -- the same of a list that is said otherwise
  pub list_otherwise : (IsList Is : Option (List ℕ) → Type 0) (told told' : Option (List ℕ))
      → ((bytes : Option (List ℕ)) → IsList bytes → Is bytes) → TellsList gives every IsList told told'
      → TellsList gives every Is told told'
  list_otherwise IsList Is told told' other (no_list keeps) = no_list keeps
  list_otherwise IsList Is told told' other (tells_list {list = list} {rest = rest} is names) =
      tells_list {list = list} {rest = rest} (other list is) names

  -- of files that arguments represent or that a list names
  pub files_kept : (names : FileNames) (told mid told' : Option (List ℕ)) → TellsFiles gives every names told mid
      → Keeps mid told' → TellsFiles gives every names told told'
  files_kept (Words words) told mid told' h keeps = record {
    first = h.first;
    rest = h.rest;
    are = h.are;
    tells = each_kept _ told mid told' h.first h.tells keeps;
  }
  files_kept (EndedByZero path) told mid told' h keeps = list_kept _ told mid told' h keeps

  pub no_files_told : (names : FileNames) (told told' : Option (List ℕ)) → Keeps told told'
      → TellsFiles gives every names told told'
  no_files_told (Words words) told told' keeps =
      record { first = []; rest = words.items; are = refl; tells = no_file_told keeps }
  no_files_told (EndedByZero path) told told' keeps = no_list keeps

-- nothing is told, whatever a mapping is over
pub none_over : (gives : Gives) (why : Bool) (requested : Requested) (pickle : List ℕ) (over : Over)
    (told told' : Option (List ℕ)) → Keeps told told' → TellsOver gives why requested pickle over told told'
none_over gives why requested pickle (File file) told told' keeps = keeps
none_over gives why requested pickle (Bytes file) told told' keeps = keeps
none_over gives why requested pickle (Files names flush) told told' keeps =
    no_files_told gives (every_for why requested pickle) names told told' keeps
none_over gives why requested pickle (Records file of list) told told' keeps = keeps
none_over gives why requested pickle (Search file search) told told' keeps = keeps
