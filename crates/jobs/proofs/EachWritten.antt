-- What is written of many files, one after another.
use Rattle.std.proofs.Common.{◌≡◌, ◌∙◌, ◌==◌, ℕ, List, [], ◌∷◌, ◌++◌, if◌then◌else◌, Option, Some, None, Result, Ok, Err, IfOk, OnErr, false, refl, sym, ap, subst}
use Rattle.std.specs.Io.Buffered.{reader_remaining, reader_inner, reader_buffer, reader_capacity}
use Rattle.std.specs.declared.io.buffered.BufReader.{BufReader}
use Rattle.std.proofs.KnownBytes.{Appends-nil, Appends-trans}
use Rattle.std.specs.Io.KnownBytes.{Keeps, prepend_known}
use Rattle.std.specs.List.{concat}
use Rattle.std.specs.Io.KnownBytes.{Appends}
use Rattle.std.proofs.lemmas.List.{append-nil}
use Rattle.std.proofs.lemmas.List.Folds.{concat-append}
use Rattle.jobs.specs.Due.{End, Holds, early, output_fails, whole}
use Rattle.jobs.specs.Jobs.{DueFiles, DueList, all_files, files_end, first_files}
use Rattle.jobs.specs.Lines.{StopsList, first_names, in_name, no_memory}
use Rattle.jobs.specs.declared.ending.Ending.TheVariants.{Run, Silent}
use Rattle.jobs.proofs.Holding.{upto_next, upto_whole}
use Rattle.run_parts.specs.Told.{AppendsUpTo}
use Rattle.run_parts.specs.declared.outcome.Failure.{Failure}
use Rattle.run_parts.specs.declared.outcome.Failure.TheVariants as failure
use Rattle.run_parts.specs.declared.outcome.Outcome.TheVariants.{Failed}
use Rattle.jobs.specs.Every.{AppendsFile, CutsFile}
use Rattle.jobs.specs.Files.{AppendsFiles, AppendsLine, AppendsRun, CutsLine, CutsRun, EndsBy, Every, WritesEach, WritesWord, named, unnamed, no_files, one_more, greater}
use Rattle.jobs.specs.Gives.{Gives}
use Rattle.jobs.specs.Names.{AreListedFirst, first_listed, none_listed}
use Rattle.run_parts.specs.declared.status.Status.{Status}
use Rattle.run_parts.specs.declared.status.Status.TheVariants.{Done}
use Rattle.text_output.proofs.Parts.{Appends-keeps}

-- before the first file
pub none_written : {A : Type 0} (Writes : A → Status → List ℕ → Type 0) (Are : List A → Type 0) (out : Option (List ℕ))
    → Are [] → AppendsFiles Writes Are out out Done
none_written Writes Are out are =
    record { files = []; are = are; lines = []; written = no_files; appends = Appends-nil out }

-- the lines of some files, and one more
pub lines_joined : (lines : List (List ℕ)) (line : List ℕ) → concat (lines ++ line ∷ []) ≡ concat lines ++ line
lines_joined lines line = concat-append lines (line ∷ []) ∙ ap (λ last. concat lines ++ last) (append-nil line)

-- after one more
pub one_written : {A : Type 0} (Writes : A → Status → List ℕ → Type 0) (Are AreMore : List A → Type 0) (file : A)
    (out out' out'' : Option (List ℕ)) (greatest status : Status)
    → ((files : List A) → Are files → AreMore (files ++ file ∷ [])) → AppendsFiles Writes Are out out' greatest
    → AppendsLine (Writes file) out' out'' status → AppendsFiles Writes AreMore out out'' (greater greatest status)
one_written Writes Are AreMore file out out' out'' greatest status more h one = record {
  files = h.files ++ file ∷ [];
  are = more h.files h.are;
  lines = h.lines ++ one.line ∷ [];
  written = one_more h.written one.written;
  appends = subst (λ text. Appends out out'' text) (sym (lines_joined h.lines one.line))
      (Appends-trans out out' out'' (concat h.lines) one.line h.appends one.appends);
}

-- nothing more is written
pub kept_written : {A : Type 0} (Writes : A → Status → List ℕ → Type 0) (Are : List A → Type 0)
    (out out' out'' : Option (List ℕ)) (greatest : Status) → AppendsFiles Writes Are out out' greatest
    → Keeps out' out'' → AppendsFiles Writes Are out out'' greatest
kept_written Writes Are out out' out'' greatest h keeps = record {
  files = h.files;
  are = h.are;
  lines = h.lines;
  written = h.written;
  appends = Appends-keeps out out' out'' (concat h.lines) h.appends keeps;
}

first_otherwise : (IsList Is : Option (List ℕ) → Type 0) → ((bytes : Option (List ℕ)) → IsList bytes → Is bytes)
    → (names : List (List ℕ)) → AreListedFirst IsList names → AreListedFirst Is names
first_otherwise IsList Is other _ none_listed = none_listed
first_otherwise IsList Is other names (first_listed {list = list} is read) = first_listed (other list is) read

stops_otherwise : (gives : Gives) (every : Every) (IsList Is : Option (List ℕ) → Type 0)
    → ((bytes : Option (List ℕ)) → IsList bytes → Is bytes) → (stop : Option Failure) (lines : List (List ℕ))
    → StopsList gives every IsList stop lines → StopsList gives every Is stop lines
stops_otherwise gives every IsList Is other _ _ no_memory = no_memory
stops_otherwise gives every IsList Is other stop _ (first_names {names = names} may are written) =
    first_names may (first_otherwise IsList Is other names are) written
stops_otherwise gives every IsList Is other _ _ (in_name {part = part} are written long line) = in_name {part = part}
    (record { list = are.list; rest = are.rest; is = other are.list are.is; read = are.read; begins = are.begins })
    written long line

-- the same files, of a list that is told in another way
pub listed_otherwise : (gives : Gives) (every : Every) (IsList Is : Option (List ℕ) → Type 0)
    → ((bytes : Option (List ℕ)) → IsList bytes → Is bytes) → (lines : List (List ℕ)) (end : Option End)
    → DueList gives every IsList lines end → DueList gives every Is lines end
listed_otherwise gives every IsList Is other lines _ (all_files all) = all_files (record {
  names = all.names;
  are = record {
    list = all.are.list;
    rest = all.are.rest;
    is = other all.are.list all.are.is;
    read = all.are.read;
    end = all.are.end;
  };
  written = all.written;
})
listed_otherwise gives every IsList Is other lines _ (first_files {stop = stop} stops) =
    first_files (stops_otherwise gives every IsList Is other stop lines stops)
listed_otherwise gives every IsList Is other lines _ (files_end {why = why} stops) =
    files_end (stops_otherwise gives every IsList Is other (Some why) lines stops)

module _ {A : Type 0} (Writes : A → Status → List ℕ → Type 0) (Are : List A → Type 0)
    (WritesAll : Status → List (List ℕ) → Type 0) (Stops : Option Failure → List (List ℕ) → Type 0)
    (out : Option (List ℕ)) (greatest : Status) where
  -- all of them are written
  pub all_hold : (out' : Option (List ℕ))
      → ((files : List A) (lines : List (List ℕ)) → Are files → WritesEach Writes files greatest lines
      → WritesAll greatest lines) → AppendsFiles Writes Are out out' greatest
      → Holds (DueFiles WritesAll Stops) out out' (Ok (Silent greatest))
  all_hold out' all h = whole (all_files (all h.files h.lines h.are h.written)) h.appends

  -- the first of them are, and a failure stops them
  pub first_hold : (out' : Option (List ℕ)) (why : Failure)
      → ((files : List A) (lines : List (List ℕ)) → Are files → WritesEach Writes files greatest lines
      → Stops (Some why) lines) → AppendsFiles Writes Are out out' greatest
      → Holds (DueFiles WritesAll Stops) out out' (Ok (Run (Failed why)))
  first_hold out' why first h = whole (files_end (first h.files h.lines h.are h.written)) h.appends

  -- the first of them are, and the output fails
  pub unflushed_hold : (out' : Option (List ℕ)) (stop : Option Failure)
      → ((files : List A) (lines : List (List ℕ)) → Are files → WritesEach Writes files greatest lines
      → Stops stop lines) → AppendsFiles Writes Are out out' greatest
      → Holds (DueFiles WritesAll Stops) out out' output_fails
  unflushed_hold out' stop first h =
      early (first_files (first h.files h.lines h.are h.written)) (upto_whole out out' (concat h.lines) h.appends)

  -- or it fails at the next of them
  pub cut_hold : (file : A) (mid out' : Option (List ℕ)) (stop : Option Failure)
      → ((files : List A) (lines : List (List ℕ)) (last : Status) → Are files
      → WritesEach Writes (files ++ file ∷ []) last lines → Stops stop lines)
      → AppendsFiles Writes Are out mid greatest → CutsLine (Writes file) mid out'
      → Holds (DueFiles WritesAll Stops) out out' output_fails
  cut_hold file mid out' stop first h one =
      early (first_files (first h.files (h.lines ++ one.line ∷ []) (greater greatest one.status) h.are
      (one_more h.written one.written)))
      (subst (λ text. AppendsUpTo out out' text) (sym (lines_joined h.lines one.line))
      (upto_next out mid out' (concat h.lines) one.line h.appends one.appends))

-- the line of an argument is that of its name
pub word_written : {E : Type 0} (gives : Gives) (every : Every) (word name : List ℕ) (r : Result Status E)
    (out out' : Option (List ℕ)) → gives.is_name word name → IfOk r (AppendsFile gives every name out out')
    → IfOk r (AppendsLine (WritesWord gives every word) out out')
word_written gives every word name (Err e) out out' is h = tt
word_written gives every word name (Ok status) out out' is h =
    record { line = h.line; written = named is h.written; appends = h.appends }

pub word_cut : {T E : Type 0} (gives : Gives) (every : Every) (word name : List ℕ) (r : Result T E)
    (out out' : Option (List ℕ)) → gives.is_name word name → OnErr r (CutsFile gives every name out out')
    → OnErr r (CutsLine (WritesWord gives every word) out out')
word_cut gives every word name (Ok value) out out' is h = tt
word_cut gives every word name (Err e) out out' is h =
    record { status = h.status; line = h.line; written = named is h.written; appends = h.appends }

-- or that of the argument
pub unnamed_written : {E : Type 0} (gives : Gives) (every : Every) (word : List ℕ) (r : Result Status E)
    (out out' : Option (List ℕ)) → gives.is_unnamed word
    → IfOk r (AppendsRun (EndsBy failure.Memory) every word out out')
    → IfOk r (AppendsLine (WritesWord gives every word) out out')
unnamed_written gives every word (Err e) out out' is h = tt
unnamed_written gives every word (Ok status) out out' is h =
    record { line = h.line; written = unnamed is h.written; appends = h.appends }

pub unnamed_cut : {T E : Type 0} (gives : Gives) (every : Every) (word : List ℕ) (r : Result T E)
    (out out' : Option (List ℕ)) → gives.is_unnamed word
    → OnErr r (CutsRun (EndsBy failure.Memory) every word out out')
    → OnErr r (CutsLine (WritesWord gives every word) out out')
unnamed_cut gives every word (Ok value) out out' is h = tt
unnamed_cut gives every word (Err e) out out' is h =
    record { status = h.status; line = h.line; written = unnamed is h.written; appends = h.appends }

prepend_none : (known : Option (List ℕ)) → prepend_known [] known ≡ known
prepend_none None = refl
prepend_none (Some bytes) = refl

-- a reader with an empty buffer has what the one in it has
pub fresh_reader : {T A : Type 0} (remaining : T → Option (List ℕ)) (reader : BufReader T A) (inner : T) (size : ℕ)
    → reader_inner reader ≡ inner → reader_buffer reader ≡ [] → reader_capacity reader ≡ size
    → (size == 0) ≡ false → reader_remaining remaining reader ≡ remaining inner
fresh_reader remaining reader inner size is none capacity some =
    ap (λ n. if n == 0 then None else prepend_known (reader_buffer reader) (remaining (reader_inner reader))) capacity
    ∙ ap (λ b. if b then None else prepend_known (reader_buffer reader) (remaining (reader_inner reader))) some
    ∙ ap (λ bytes. prepend_known bytes (remaining (reader_inner reader))) none
    ∙ prepend_none (remaining (reader_inner reader)) ∙ ap remaining is
