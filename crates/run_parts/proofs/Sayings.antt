-- Laws of how a run ends, and of what it says then.
use Rattle.std.proofs.Common.{◌≡◌, ◌≢◌, ◌∙◌, ℕ, List, [], Option, None, Some, Result, Ok, Err, length, inl, inr, refl, sym, ap, subst, arith, length-append}
use Rattle.std.specs.Prelude.{OnOk, OnErr, codes}
use Rattle.std.specs.Io.KnownBytes.{Appends, Keeps}
use Rattle.std.proofs.KnownBytes.{Keeps-refl}
use Rattle.std.proofs.lemmas.List.{append-nil}
use Rattle.pickle_meaning.specs.declared.faults.MapFaultKind.{MapFaultKind}
use Rattle.pickle_meaning.specs.declared.faults.MapFaultKind.TheVariants as fault
use Rattle.run_parts.specs.declared.accept.Refusal.{Refusal}
use Rattle.run_parts.specs.declared.accept.Refusal.TheVariants as refusal
use Rattle.run_parts.specs.declared.outcome.Failure.TheVariants as failure
use Rattle.run_parts.specs.declared.outcome.Outcome.{Outcome}
use Rattle.run_parts.specs.declared.outcome.Outcome.TheVariants as outcome
use Rattle.run_parts.specs.declared.status.Status.{Status}
use Rattle.run_parts.specs.declared.status.Status.TheVariants.{Done, Outside}
use Rattle.text_output.specs.declared.write.WriteFault.{WriteFault}
use Rattle.run_parts.specs.Accepted.{refusal_saying}
use Rattle.run_parts.specs.FaultLines.{fault_saying}
use Rattle.run_parts.specs.Lines.{fault_line}
use Rattle.run_parts.specs.Outcomes.{outcome_saying, outcome_status, outcome_line, outcome_kind, outcome_json, outcome_members, outcome_place, status_said, line_said, EndsAs, writes, cuts, reports}
use Rattle.run_parts.specs.Reports.{report_json, report_members}
use Rattle.text_output.specs.Written.{AppendsPart}
use Rattle.run_parts.specs.Told.{Saying, Text, Line, IsTold, IsSaid, Says, AppendsUpTo}

-- a line, with its exit status
abbrev IsLine : Saying → Type 0
IsLine saying = saying ≡ Line (status_said saying) (line_said saying)

refusal_lines : (why : Refusal) → IsLine (refusal_saying why)
refusal_lines (refusal.Tokens kind at) = refl
refusal_lines (refusal.Syntax at) = refl
refusal_lines refusal.TooDeep = refl
refusal_lines refusal.TooMany = refl
refusal_lines (refusal.Types kind declaration) = refl
refusal_lines refusal.Memory = refl

fault_lines : (kind : MapFaultKind) (at : ℕ) → IsLine (fault_saying kind at)
fault_lines fault.End at = refl
fault_lines fault.Constraint at = refl
fault_lines fault.Bounds at = refl
fault_lines fault.NoBits at = refl
fault_lines fault.Zero at = refl
fault_lines fault.Overflow at = refl
fault_lines fault.Absent at = refl
fault_lines fault.Index at = refl
fault_lines fault.Limit at = refl
fault_lines fault.Device at = refl
fault_lines fault.Memory at = refl

-- an outcome is reported by a line
pub outcome_lines : (ended : Outcome) → outcome_saying ended ≡ Line (outcome_status ended) (outcome_line ended)
outcome_lines outcome.Done = refl
outcome_lines (outcome.Refused why) = refusal_lines why
outcome_lines outcome.NoSuchType = refl
outcome_lines outcome.ImpossiblePart = refl
outcome_lines outcome.Offset = refl
outcome_lines (outcome.Fault why) = fault_lines why.kind why.at
outcome_lines (outcome.Slots at) = refl
outcome_lines (outcome.Storage at) = refl
outcome_lines (outcome.Left at) = refl
outcome_lines outcome.NoSuchPart = refl
outcome_lines (outcome.Output at) = refl
outcome_lines outcome.Unidentified = refl
outcome_lines outcome.NotFound = refl
outcome_lines (outcome.Attempts first count) = refl
outcome_lines (outcome.Unaligned at) = refl
outcome_lines (outcome.Failed why) = refl

-- the object of an outcome is made of its exit status, name and place
pub object_made : (ended : Outcome) → ended ≢ outcome.Done →
    outcome_json ended ≡ report_json (outcome_status ended) (outcome_kind ended) (outcome_place ended)
object_made outcome.Done other = absurd (other refl)
object_made (outcome.Refused why) other = refl
object_made outcome.NoSuchType other = refl
object_made outcome.ImpossiblePart other = refl
object_made outcome.Offset other = refl
object_made (outcome.Fault why) other = refl
object_made (outcome.Slots at) other = refl
object_made (outcome.Storage at) other = refl
object_made (outcome.Left at) other = refl
object_made outcome.NoSuchPart other = refl
object_made (outcome.Output at) other = refl
object_made outcome.Unidentified other = refl
object_made outcome.NotFound other = refl
object_made (outcome.Attempts first count) other = refl
object_made (outcome.Unaligned at) other = refl
object_made (outcome.Failed why) other = refl

pub members_made : (ended : Outcome) → ended ≢ outcome.Done →
    outcome_members ended ≡ report_members (outcome_status ended) (outcome_kind ended) (outcome_place ended)
members_made outcome.Done other = absurd (other refl)
members_made (outcome.Refused why) other = refl
members_made outcome.NoSuchType other = refl
members_made outcome.ImpossiblePart other = refl
members_made outcome.Offset other = refl
members_made (outcome.Fault why) other = refl
members_made (outcome.Slots at) other = refl
members_made (outcome.Storage at) other = refl
members_made (outcome.Left at) other = refl
members_made outcome.NoSuchPart other = refl
members_made (outcome.Output at) other = refl
members_made outcome.Unidentified other = refl
members_made outcome.NotFound other = refl
members_made (outcome.Attempts first count) other = refl
members_made (outcome.Unaligned at) other = refl
members_made (outcome.Failed why) other = refl

-- a fact of a result that is an error
pub on_err : {T E A : Type 0} (r : Result T E) → A → OnErr r A
on_err (Ok x) a = tt
on_err (Err e) a = a

no_part : (a b : Option (List ℕ)) → AppendsPart a b [] → ⊥
no_part a b part = absurd (omega (arith, ap length part.whole, length-append part.taken part.rest, part.more))

keeps_none : (a b : Option (List ℕ)) → Appends a b [] → Keeps a b
keeps_none None b h = tt
keeps_none (Some xs) None h = absurd h
keeps_none (Some xs) (Some ys) h = h ∙ append-nil xs

-- what is told of a run that is done is nothing
nothing_told : (status : Status) (err err' : Option (List ℕ)) → IsTold Done [] status err err' →
    (status ≡ Done) × Keeps err err'
nothing_told status err err' (inl whole) = (whole.0, keeps_none err err' whole.1)
nothing_told status err err' (inr part) = absurd (no_part err err' part.1)

-- a line, whole or in part
up_to : (line : List ℕ) (status : Status) (err err' : Option (List ℕ)) → IsTold Outside line status err err' →
    (status ≡ Outside) × AppendsUpTo err err' line
up_to line status err err' (inl whole) =
    (whole.0, record { taken = line; rest = []; appends = whole.1; whole = append-nil line })
up_to line status err err' (inr part) =
    (part.0, record { taken = part.1.taken; rest = part.1.rest; appends = part.1.appends; whole = part.1.whole })

line_moved : (saying : Saying) (status line_status : Status) (line : List ℕ) (out out' err err' : Option (List ℕ))
    → saying ≡ Line line_status line
    → IsSaid saying status None None err err' → Keeps out out' → IsSaid saying status out out' err err'
line_moved saying status line_status line out out' err err' same said keeps =
    let told : IsSaid (Line line_status line) status None None err err' =
    subst (λ s. IsSaid s status None None err err') same said in
    subst (λ s. IsSaid s status out out' err err') (sym same) (keeps, told.1)

-- a run that ended with what is right says it, once its outcome is told
pub ends_says : (IsRight : Saying → Type 0) (ended : Outcome) (status : Status) (out out' err err' : Option (List ℕ))
    → EndsAs IsRight ended out out'
    → ((out : Option (List ℕ)) → IsSaid (outcome_saying ended) status out out err err')
    → Says IsRight status out out' err err'
ends_says IsRight ended status out out' err err' (writes text right whole) said =
    let done = nothing_told status err err' (said None).1 in
    record { saying = Text text; right = right; said = inl (done.0, whole, done.1) }
ends_says IsRight ended status out out' err err' (cuts text right part) said =
    let failed = up_to (fault_line (codes "Write")) status err err' (said None).1 in
    record { saying = Text text; right = right; said = inr (failed.0, part, failed.1) }
ends_says IsRight ended status out out' err err' (reports right keeps) said =
    record {
      saying = outcome_saying ended;
      right = right;
      said = line_moved (outcome_saying ended) status _ _ out out' err err' (outcome_lines ended) (said None) keeps;
    }

-- a run that ended with a line
pub line_ends : (IsRight : Saying → Type 0) (ended : Outcome) (out : Option (List ℕ)) → IsRight (outcome_saying ended) →
    EndsAs IsRight ended out out
line_ends IsRight ended out right = reports right (Keeps-refl out)

-- a run that wrote a text, or a part of it
pub text_ends : (IsRight : Saying → Type 0) (text : List ℕ) (ended : Outcome) (out out' : Option (List ℕ))
    (written : Result (Unit {0}) WriteFault)
    → IsRight (Text text) → OnOk written (Appends out out' text) → OnErr written (AppendsPart out out' text)
    → OnOk written (ended ≡ outcome.Done) → OnErr written (ended ≡ outcome.Failed failure.Write)
    → EndsAs IsRight ended out out'
text_ends IsRight text ended out out' (Ok u) right whole part done failed =
    subst (λ o. EndsAs IsRight o out out') (sym done) (writes text right whole)
text_ends IsRight text ended out out' (Err e) right whole part done failed =
    subst (λ o. EndsAs IsRight o out out') (sym failed) (cuts text right part)

-- what is right is right in a wider sense
pub ends_more : {P Q : Saying → Type 0} {ended : Outcome} {out out' : Option (List ℕ)}
    → ((saying : Saying) → P saying → Q saying) → EndsAs P ended out out' → EndsAs Q ended out out'
ends_more more (writes text right whole) = writes text (more (Text text) right) whole
ends_more more (cuts text right part) = cuts text (more (Text text) right) part
ends_more {ended = ended} more (reports right keeps) = reports (more (outcome_saying ended) right) keeps
