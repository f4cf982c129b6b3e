-- How a job ends, by its kind.
use Rattle.std.proofs.Common.{◌≡◌, ◌≢◌, ℕ, Bool, List, Option, Some, None, IfSome, IfNone, String, string_bytes, refl, subst}
use Rattle.std.specs.declared.alloc.Global.{Global}
use Rattle.bit_space.specs.declared.order.Order.{Order}
use Rattle.command_line.specs.declared.identification.Identification.{Identification}
use Rattle.command_line.specs.declared.request.Request.{Request}
use Rattle.text_output.specs.declared.mode.Mode.{Mode}
use Rattle.command_line.specs.declared.answer_form.AnswerForm.{AnswerForm}
use Rattle.command_line.specs.declared.words.Job.{Job}
use Rattle.command_line.specs.declared.words.Job.TheVariants as job
use Rattle.part_lists.specs.PartRuns.{PartsAs}
use Rattle.jobs.specs.Due.{DueOver, DueRun, End, Holds}
use Rattle.jobs.specs.Given.{DueAnswer, HasNoBound, IsAskedAbout, IsOverFiles, of_bound, of_check, of_memory, of_parts, of_text, of_tight, of_types}
use Rattle.jobs.specs.Gives.{Gives}
use Rattle.jobs.specs.Jobs.{DueBound, DueCheckIn, DueTypesIn, HoldsJob}
use Rattle.jobs.specs.declared.pickles.BoundOf.{BoundOf}
use Rattle.jobs.specs.declared.pickles.BoundOf.TheVariants as bound
use Rattle.jobs.specs.declared.pickles.Question.{Question}

-- the answer of a question about bounds, by the arguments of its job
bound_holds : (gives : Gives) (word name : List ℕ) (of : BoundOf) {pickle type : List ℕ}
    (out out' : Option (List ℕ)) (end : End) → word ≡ pickle → name ≡ type →
    Holds (DueOver gives word (DueBound word name of)) out out' end →
    Holds (DueOver gives pickle (DueBound pickle type of)) out out' end
bound_holds gives word name of {pickle = pickle} out out' end is same h =
    subst (λ n. Holds (DueOver gives pickle (DueBound pickle n of)) out out' end) same
    (subst (λ w. Holds (DueOver gives w (DueBound w name of)) out out' end) is h)

-- the answer of a question is that of its job
pub question_holds : (gives : Gives) (why : Bool) (asked : Job) (form : AnswerForm) (word : List ℕ)
    (question : Question)
    (out out' : Option (List ℕ)) (end : End) → IsAskedAbout form word asked question
    → Holds (DueOver gives word (DueAnswer why word question)) out out' end → HoldsJob gives why asked form out out' end
question_holds gives why _ form word _ out out' end (of_check is) h =
    subst (λ w. Holds (DueOver gives w (DueCheckIn why form)) out out' end) is h
question_holds gives why _ form word _ out out' end (of_types is) h =
    subst (λ w. Holds (DueOver gives w (DueTypesIn why form)) out out' end) is h
question_holds gives why _ form word _ out out' end (of_parts {pickle = pickle} {depth = depth} given is same) h =
    subst (λ n. Holds (DueOver gives (string_bytes pickle) (λ bytes. DueRun (PartsAs bytes n depth form))) out out' end)
    same (subst (λ w. Holds (DueOver gives w (λ bytes. DueRun (PartsAs bytes given.now depth form))) out out' end) is h)
question_holds gives why _ form word _ out out' end (of_bound {bits = bits} given is same) h =
    bound_holds gives word given.now (bound.Plain bits) out out' end is same h
question_holds gives why _ form word _ out out' end (of_tight {bits = bits} given is same) h =
    bound_holds gives word given.now (bound.Tight bits) out out' end is same h
question_holds gives why _ form word _ out out' end (of_memory {bits = bits} given is same) h =
    bound_holds gives word given.now (bound.Memory bits) out out' end is same h
question_holds gives why _ form word _ out out' end
    (of_text {bits = bits} {mode = mode} {style = style} given is same) h =
    bound_holds gives word given.now (bound.Text (record { bits = bits; style = style; mode = mode })) out out' end is
    same h

-- a question about bounds, or none
pub if_some_more : {A : Type 0} (o : Option A) (P Q : A → Type 0) → ((found : A) → P found → Q found) → IfSome o P
    → IfSome o Q
if_some_more None P Q more h = tt
if_some_more (Some found) P Q more h = more found h

pub if_none_more : {A : Type 0} (o : Option A) (P Q : Type 0) → (P → Q) → IfNone o P → IfNone o Q
if_none_more None P Q more h = more h
if_none_more (Some found) P Q more h = tt

pub over_files : (asked : Job) → HasNoBound asked → ((pickle : String Global) → asked ≢ job.Check pickle)
    → ((pickle : String Global) → asked ≢ job.Types pickle)
    → ((pickle name : String Global) (depth : Option ℕ) → asked ≢ job.Parts pickle name depth) → IsOverFiles asked
over_files (job.Map at order limit mode pickle name file) none check types parts = tt
over_files (job.Request request) none check types parts = tt
over_files (job.Identify files) none check types parts = tt
over_files (job.Dump from size ruler file) none check types parts = tt
over_files job.Formats none check types parts = tt
over_files (job.Bound pickle name bits) none check types parts = absurd none
over_files (job.TightBound pickle name bits) none check types parts = absurd none
over_files (job.MemoryBound pickle name bits) none check types parts = absurd none
over_files (job.BoundText pickle name bits mode style) none check types parts = absurd none
over_files (job.Check pickle) none check types parts = absurd (check pickle refl)
over_files (job.Types pickle) none check types parts = absurd (types pickle refl)
over_files (job.Parts pickle name depth) none check types parts = absurd (parts pickle name depth refl)

-- the list of formats is the one job that is left
pub only_formats : (asked : Job) → IsOverFiles asked
    → ((at : ℕ) (order : Order) (limit : ℕ) (mode : Mode) (pickle name file : String Global)
    → asked ≢ job.Map at order limit mode pickle name file)
    → ((request : Request) → asked ≢ job.Request request)
    → ((from size : ℕ) (ruler : Bool) (file : String Global) → asked ≢ job.Dump from size ruler file)
    → ((files : Identification) → asked ≢ job.Identify files) → asked ≡ job.Formats
only_formats (job.Map at order limit mode pickle name file) over map request dump identify =
    absurd (map at order limit mode pickle name file refl)
only_formats (job.Request asked) over map request dump identify = absurd (request asked refl)
only_formats (job.Dump from size ruler file) over map request dump identify = absurd (dump from size ruler file refl)
only_formats (job.Identify files) over map request dump identify = absurd (identify files refl)
only_formats job.Formats over map request dump identify = refl
only_formats (job.Bound pickle name bits) over map request dump identify = absurd over
only_formats (job.TightBound pickle name bits) over map request dump identify = absurd over
only_formats (job.MemoryBound pickle name bits) over map request dump identify = absurd over
only_formats (job.BoundText pickle name bits mode style) over map request dump identify = absurd over
only_formats (job.Check pickle) over map request dump identify = absurd over
only_formats (job.Types pickle) over map request dump identify = absurd over
only_formats (job.Parts pickle name depth) over map request dump identify = absurd over
