-- Answers in JSON.
use Rattle.std.proofs.Common.{◌≡◌, ◌≢◌, Bool, ℕ, List, [], Option, Result, Ok, Err, IfOk, OnOk, OnErr, ap, refl, sym, subst}
use Rattle.std.specs.Io.KnownBytes.{Appends}
use Rattle.jobs.specs.Due.{End, Holds, early, part, whole}
use Rattle.jobs.specs.Given.{ending_of}
use Rattle.jobs.specs.Jobs.{DueCheck, DueReport, DueTypes, answer_due, failure_due, refusal_due, report_due, report_text, types_due, unreported}
use Rattle.jobs.specs.declared.ending.Ending.TheVariants.{Silent}
use Rattle.jobs.proofs.Holding.{appends_keeps, holds_after, holds_more, keeps_before, keeps_before_part, no_part, part_keeps, part_text, whole_text}
use Rattle.pickle_json.specs.Checks.{Answers, AnswersPart}
use Rattle.pickle_json.specs.TypeObjects.{TypesInJson, refused_types, told_types}
use Rattle.run_parts.specs.Accepted.{Refuses, refusal_saying}
use Rattle.run_parts.specs.Outcomes.{EndsAs, cuts, outcome_status, reports, status_said, writes}
use Rattle.run_parts.specs.Told.{Saying, Text, Line}
use Rattle.run_parts.specs.declared.accept.Refusal.{Refusal}
use Rattle.run_parts.specs.declared.accept.Refusal.TheVariants as refusal
use Rattle.run_parts.specs.declared.outcome.Failure.{Failure}
use Rattle.run_parts.specs.declared.outcome.Failure.TheVariants as failure
use Rattle.run_parts.specs.declared.outcome.Outcome.{Outcome}
use Rattle.run_parts.specs.declared.outcome.Outcome.TheVariants as outcome
use Rattle.run_parts.specs.declared.status.Status.{Status}
use Rattle.run_parts.specs.declared.status.Status.TheVariants.{Done, Fault, Refused, Outside}
use Rattle.text_output.specs.Written.{AppendsPart}
use Rattle.text_output.specs.declared.write.WriteFault.{WriteFault}

-- an answer that was written, or whose output failed
pub check_holds : (why : Bool) (pickle : List ℕ) (r : Result Status WriteFault) (out out' : Option (List ℕ))
    → IfOk r (λ status. Answers pickle why status out out') → OnErr r (AnswersPart pickle why out out')
    → Holds (DueCheck why pickle) out out' (Ok (ending_of r))
check_holds why pickle (Ok status) out out' all some =
    whole_text (DueCheck why pickle) all.text (Ok (Silent status)) out out' (answer_due all.right) all.written
check_holds why pickle (Err e) out out' all some =
    part_text (DueCheck why pickle) some.text (Ok (Silent some.status)) out out' (answer_due some.right) some.written

-- the same of a refused pickle, in place of its types
pub refusal_holds : (why : Bool) (pickle : List ℕ) (refusal : Refusal) (r : Result Status WriteFault)
    (out mid out' : Option (List ℕ)) → Refuses pickle refusal
    → EndsAs (TypesInJson pickle) (outcome.Refused refusal) out mid
    → IfOk r (λ status. Answers pickle why status mid out') → OnErr r (AnswersPart pickle why mid out')
    → Holds (DueTypes why pickle) out out' (Ok (ending_of r))
refusal_holds why pickle refusal (Ok status) out mid out' refuses (reports right keeps) all some =
    whole_text (DueTypes why pickle) all.text (Ok (Silent status)) out out' (refusal_due refuses all.right)
    (keeps_before out mid out' all.text keeps all.written)
refusal_holds why pickle refusal (Err e) out mid out' refuses (reports right keeps) all some =
    part_text (DueTypes why pickle) some.text (Ok (Silent some.status)) out out' (refusal_due refuses some.right)
    (keeps_before_part out mid out' some.text keeps some.written)

-- a report that was written, or whose output failed
pub report_holds : (ended : Outcome) (lines : List ℕ) (r : Result Status WriteFault) (out out' : Option (List ℕ))
    → ended ≢ outcome.Failed failure.Write → IfOk r (λ status. status ≡ outcome_status ended)
    → OnOk r (Appends out out' (report_text ended lines)) → OnErr r (AppendsPart out out' (report_text ended lines))
    → Holds (DueReport ended lines) out out' (Ok (ending_of r))
report_holds ended lines (Ok status) out out' other same all some =
    subst (λ s. Holds (DueReport ended lines) out out' (Ok (Silent s))) (sym same)
    (whole_text (DueReport ended lines) (report_text ended lines) (Ok (Silent (outcome_status ended))) out out'
    (report_due other) all)
report_holds ended lines (Err e) out out' other same all some =
    part_text (DueReport ended lines) (report_text ended lines) (Ok (Silent (outcome_status ended))) out out'
    (report_due other) some

-- no refusal is said as a run that is done
abbrev unless_done : Status → Type 0
unless_done Done = ⊥
unless_done Fault = Unit {0}
unless_done Refused = Unit {0}
unless_done Outside = Unit {0}

refusal_unless : (why : Refusal) → unless_done (status_said (refusal_saying why))
refusal_unless (refusal.Tokens kind at) = tt
refusal_unless (refusal.Syntax at) = tt
refusal_unless refusal.TooDeep = tt
refusal_unless refusal.TooMany = tt
refusal_unless (refusal.Types kind declaration) = tt
refusal_unless refusal.Memory = tt

abbrev is_line : Saying → Type 0
is_line (Text text) = ⊥
is_line (Line status line) = Unit {0}

not_said : (pickle : List ℕ) (saying : Saying) → TypesInJson pickle saying → saying ≡ Line Done [] → ⊥
not_said pickle _ (told_types accepted objects) e = subst is_line (sym e) tt
not_said pickle _ (refused_types {refusal = why} refuses) e =
    subst (λ s. unless_done (status_said s)) e (refusal_unless why)

-- types that were written
pub types_hold : (why : Bool) (pickle : List ℕ) (out out' : Option (List ℕ))
    → EndsAs (TypesInJson pickle) outcome.Done out out' → Holds (DueTypes why pickle) out out' (Ok (Silent Done))
types_hold why pickle out out' (writes text right h) =
    whole_text (DueTypes why pickle) text (Ok (Silent Done)) out out' (types_due right) h
types_hold why pickle out out' (reports right keeps) = absurd (not_said pickle (Line Done []) right refl)

-- types of which a part was written, and a failing output that is left to its line
cut_holds : (why : Bool) (pickle text : List ℕ) (end : End) (out mid out' : Option (List ℕ))
    → TypesInJson pickle (Text text) → AppendsPart out mid text
    → Holds (DueReport (outcome.Failed failure.Write) []) mid out' end → Holds (DueTypes why pickle) out out' end
cut_holds why pickle text _ out mid out' right h (whole (report_due other) g) = absurd (other refl)
cut_holds why pickle text _ out mid out' right h (whole (unreported e) g) =
    part_text (DueTypes why pickle) text (Ok (Silent Done)) out out' (types_due right)
    (part_keeps out mid out' text h (appends_keeps mid out' g))
cut_holds why pickle text _ out mid out' right h (part (report_due other) g) = absurd (other refl)
cut_holds why pickle text _ out mid out' right h (part (unreported e) g) = absurd (no_part mid out' g)
cut_holds why pickle text _ out mid out' right h (early due g) = elim due [ ]

-- types that weren't written, and the report of that
pub failure_holds : (why : Bool) (pickle : List ℕ) (ended : Outcome) (end : End) (out mid out' : Option (List ℕ))
    → ended ≢ outcome.Done → ((refusal : Refusal) → ended ≢ outcome.Refused refusal)
    → EndsAs (TypesInJson pickle) ended out mid → Holds (DueReport ended []) mid out' end
    → Holds (DueTypes why pickle) out out' end
failure_holds why pickle _ end out mid out' done refused (writes text right h) report = absurd (done refl)
failure_holds why pickle _ end out mid out' done refused (cuts text right h) report =
    cut_holds why pickle text end out mid out' right h report
failure_holds why pickle ended end out mid out' done refused (reports right keeps) report =
    holds_after (DueTypes why pickle) end out mid out' keeps
    (holds_more (DueReport ended []) (DueTypes why pickle) end mid out'
    (λ lines due_end due. failure_due right done refused due) report)

-- a failure is another than that of the output
abbrev failure_in : Outcome → Failure
failure_in (outcome.Failed why) = why
failure_in ended = failure.Memory

pub failed_other : (why : Failure) → why ≢ failure.Write → outcome.Failed why ≢ outcome.Failed failure.Write
failed_other why other e = other (ap failure_in e)
