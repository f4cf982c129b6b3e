-- What is told of files aside.
use Rattle.std.proofs.Common.{◌≡◌, ◌≢◌, Bool, true, false, ℕ, List, [], Option, Some, Result, Ok, Err, OnOk, refl, subst, ap, ◌∙◌, if◌then◌else◌}
use Rattle.std.proofs.KnownBytes.{Keeps-trans}
use Rattle.std.specs.Io.KnownBytes.{Keeps}
use Rattle.bit_space.specs.SpaceView.{SpaceView}
use Rattle.command_line.specs.Starts.{start_bit}
use Rattle.jobs.specs.Asides.{IsUnopened, Tells, TellsInForm, TellsLines, TellsName, TellsRun, TellsSome, all_lines, lack_memory, no_lines, none_told, one_told, opened_name, tells_run, tells_untold}
use Rattle.jobs.specs.Explained.{ExplainsFrom, IsOpeningLine, SaysFrom, explains_from}
use Rattle.jobs.specs.Files.{Every}
use Rattle.jobs.specs.Gives.{Gives}
use Rattle.jobs.specs.Mapped.{Mapped}
use Rattle.jobs.specs.Reasons.{lines_of, untold}
use Rattle.jobs.proofs.Holding.{keeps_before}
use Rattle.jobs.specs.declared.file_run.FileForm.{FileForm}
use Rattle.jobs.specs.declared.file_run.FileForm.TheVariants.{Line, Object}
use Rattle.jobs.specs.declared.why.Reasons.{Reasons}
use Rattle.run_parts.specs.declared.outcome.Outcome.{Outcome}
use Rattle.spool.specs.Window.{seen}
use Rattle.text_output.proofs.Parts.{Appends-keeps}

-- nothing more is told after a text, or before it
pub tells_kept : (A : List ℕ → Type 0) (told mid told' : Option (List ℕ)) → Tells A told mid → Keeps mid told' →
    Tells A told told'
tells_kept A told mid told' (none_told same) keeps = none_told (Keeps-trans told mid told' same keeps)
tells_kept A told mid told' (one_told {text = text} right appends) keeps =
    one_told right (Appends-keeps told mid told' text appends keeps)

pub kept_tells : (A : List ℕ → Type 0) (told mid told' : Option (List ℕ)) → Keeps told mid → Tells A mid told' →
    Tells A told told'
kept_tells A told mid told' keeps (none_told same) = none_told (Keeps-trans told mid told' keeps same)
kept_tells A told mid told' keeps (one_told {text = text} right appends) =
    one_told right (keeps_before told mid told' text keeps appends)

-- a text that is right otherwise, too
pub tells_more : (A B : List ℕ → Type 0) (told told' : Option (List ℕ)) → ((text : List ℕ) → A text → B text)
    → Tells A told told' → Tells B told told'
tells_more A B told told' more (none_told keeps) = none_told keeps
tells_more A B told told' more (one_told {text = text} right appends) = one_told (more text right) appends

-- lines that are told, where they explain how the run of a file ended
some_tell : (name lines : List ℕ) (Explains : List ℕ → Type 0) (told told' : Option (List ℕ))
    → (lines ≢ [] → Explains lines) → TellsSome name lines told told' → Tells (TellsRun name Explains) told told'
some_tell name lines Explains told told' explains (no_lines none keeps) = none_told keeps
some_tell name lines Explains told told' explains (all_lines some appends) =
    one_told (tells_run some (explains some)) appends
some_tell name lines Explains told told' explains (lack_memory some appends) =
    one_told (tells_untold some (explains some)) appends

pub lines_tell : {T E : Type 0} (name lines : List ℕ) (Explains : List ℕ → Type 0) (told told' : Option (List ℕ))
    (r : Result T E) → (lines ≢ [] → Explains lines) → TellsLines name lines told told' r
    → Tells (TellsRun name Explains) told told'
lines_tell name lines Explains told told' (Ok done) explains h = some_tell name lines Explains told told' explains h
lines_tell name lines Explains told told' (Err fault) explains h = none_told h

pub form_tells : {T E : Type 0} (form : FileForm) (name lines : List ℕ) (Explains : List ℕ → Type 0)
    (told told' : Option (List ℕ)) (r : Result T E) → (lines ≢ [] → Explains lines)
    → TellsInForm form name lines told told' r → Tells (TellsRun name Explains) told told'
form_tells (Line faults) name lines Explains told told' r explains h =
    lines_tell name lines Explains told told' r explains h
form_tells Object name lines Explains told told' r explains h = none_told h

-- the lines of reasons that were made, and of those for which memory lacks
pub text_lines : (reasons : Reasons) (text : List ℕ) → reasons.text.items ≡ text → reasons.lack_memory ≡ false →
    lines_of reasons ≡ text
text_lines reasons text same made = ap (λ lack. if lack then untold else reasons.text.items) made ∙ same

pub lacking_lines : (reasons : Reasons) → reasons.lack_memory ≡ true → lines_of reasons ≡ untold
lacking_lines reasons lacks = ap (λ lack. if lack then untold else reasons.text.items) lacks

-- lines on a file that isn't opened, if reasons are requested
pub unopened_explains : (why : Bool) (lines : List ℕ) → (why ≡ false → lines ≡ []) → IsOpeningLine lines → lines ≢ []
    → IsUnopened why lines
unopened_explains true lines quiet line some = record { asked = refl; line = line }
unopened_explains false lines quiet line some = absurd (some (quiet refl))

-- lines on a mapping, if reasons are requested and it has a value or a fault
pub mapped_explains : (mapped : Mapped) (why is : Bool) (start : ℕ) (file after : SpaceView) (ended : Outcome)
    (reasons : Reasons) → (why ≡ false → lines_of reasons ≡ []) → (is ≡ false → lines_of reasons ≡ [])
    → (why ≡ true → is ≡ true → SaysFrom mapped start file after ended reasons) → lines_of reasons ≢ []
    → ExplainsFrom mapped why start file (lines_of reasons)
mapped_explains mapped true true start file after ended reasons quiet unmapped says some =
    explains_from {after = after} refl (says refl refl)
mapped_explains mapped true false start file after ended reasons quiet unmapped says some =
    absurd (some (unmapped refl))
mapped_explains mapped false is start file after ended reasons quiet unmapped says some =
    absurd (some (quiet refl))

-- a text on the run of a file that was opened
pub opened_tells : (gives : Gives) (every : Every) (name text : List ℕ) (file sight : SpaceView) (start : ℕ)
    → gives.is_file name every.spool file → start_bit every.start file.len ≡ Some start
    → sight ≡ seen every.window start file → TellsRun name (every.explains start sight) text
    → TellsName gives every name text
opened_tells gives every name _ file sight start is from same (tells_run {lines = lines} some explains) =
    tells_run some (opened_name start is from (subst (λ view. every.explains start view lines) same explains))
opened_tells gives every name _ file sight start is from same (tells_untold {lines = lines} some explains) =
    tells_untold some (opened_name start is from (subst (λ view. every.explains start view lines) same explains))

-- nothing is due of a call's result
pub nothing_due : {T E : Type 0} (r : Result T E) → OnOk r (Unit {0})
nothing_due (Ok done) = tt
nothing_due (Err fault) = tt
