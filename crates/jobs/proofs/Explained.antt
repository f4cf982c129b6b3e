-- Why a pickle is refused.
use Rattle.std.proofs.Common.{◌≡◌, ◌∙◌, ◌⊎◌, inl, inr, Bool, true, ℕ, List, [], Option, Some, Result, Ok, Err, IfOk, Vec, string_bytes, ap, refl, sym, subst}
use Rattle.std.specs.declared.alloc.AllocError.{AllocError}
use Rattle.std.specs.declared.alloc.Global.{Global}
use Rattle.jobs.specs.Due.{End, Holds, early, part, whole}
use Rattle.jobs.specs.Gives.{Gives}
use Rattle.jobs.specs.Jobs.{DueCheck, DueReport, DueTypes, answer_due, failure_due, refusal_due, report_due, types_due, unreported}
use Rattle.jobs.specs.Reasons.{Explains, ExplainsWord, Gains, IsExplained, IsMade, KeepsOthers, Says, SaysRefusal, said, says_place, says_types, unsaid}
use Rattle.jobs.specs.declared.ending.Ending.{Ending}
use Rattle.jobs.specs.declared.ending.Ending.TheVariants.{Run, Silent}
use Rattle.jobs.specs.declared.fault.FileFault.{FileFault}
use Rattle.jobs.specs.declared.why.Reasons.{Reasons}
use Rattle.jobs.specs.declared.opener.NamedPickle.{NamedPickle}
use Rattle.pickle_reasons.specs.Places.{TellsNoType}
use Rattle.pickle_source.specs.Places.{TellsPlace, called_by}
use Rattle.run_parts.specs.declared.accept.Refusal.{Refusal}
use Rattle.run_parts.specs.declared.outcome.Failure.{Failure}
use Rattle.run_parts.specs.declared.outcome.Failure.TheVariants as failure
use Rattle.run_parts.specs.declared.outcome.Outcome.{Outcome}
use Rattle.run_parts.specs.declared.outcome.Outcome.TheVariants.{Failed, NoSuchType, Refused}
use Rattle.run_parts.specs.declared.status.Status.{Status}
use Rattle.run_parts.specs.declared.status.Status.TheVariants as status

-- reasons that were made of a right text say it, or memory lacks for them
pub made_says : (Right : List ℕ → Type 0) (text : Result (Vec ℕ Global) AllocError) (reasons : Reasons)
    → IsMade text reasons → IfOk text (λ made. Right made.items) → Says Right reasons
made_says Right (Ok made) reasons is right =
    said (subst (λ (text : Vec ℕ Global). Right text.items) (sym is.0) right) is.1
made_says Right (Err fault) reasons lost right = unsaid lost

-- the lines of a refusal, if there was memory for them
pub place_said : {E : Type 0} (pickle : NamedPickle) (refusal : Refusal) (bytes path : List ℕ)
    (r : Result (Vec ℕ Global) E) → bytes ≡ pickle.bytes.items → path ≡ string_bytes pickle.path
    → IfOk r (λ text. TellsPlace bytes (called_by path) text.items)
    → IfOk r (λ text. SaysRefusal pickle (Refused refusal) text.items)
place_said pickle refusal bytes path (Ok text) same named h =
    says_place (subst (λ p. TellsPlace pickle.bytes.items (called_by p) text.items) named
    (subst (λ b. TellsPlace b (called_by path) text.items) same h))
place_said pickle refusal bytes path (Err e) same named h = tt

pub types_said : {E : Type 0} (pickle : NamedPickle) (r : Result (Vec ℕ Global) E)
    → IfOk r (λ text. TellsNoType text.items)
    → IfOk r (λ text. SaysRefusal pickle NoSuchType text.items)
types_said pickle (Ok text) h = says_types h
types_said pickle (Err e) h = tt

-- the outcome of a job's ending, if it has one
abbrev pub outcome_or : Outcome → End → Outcome
outcome_or other (Ok (Run ended)) = ended
outcome_or other (Ok (Silent status)) = other
outcome_or other (Err fault) = other

-- whether it has one
abbrev pub has_outcome : End → Type 0
has_outcome (Ok (Run ended)) = Unit {0}
has_outcome (Ok (Silent status)) = ⊥
has_outcome (Err fault) = ⊥

-- the refusal of a pickle that was read is explained
pub run_explains : (pickle : NamedPickle) (why : Bool) (reasons : Reasons) (end : End) (outcome : Outcome)
    → end ≡ Ok (Run outcome) → (why ≡ true → IsExplained outcome → Says (SaysRefusal pickle outcome) reasons)
    → Explains (λ source. source ≡ pickle) why reasons end
run_explains pickle why reasons end outcome is says ended same asked explained =
    let one : outcome ≡ ended = ap (outcome_or outcome) (sym is ∙ same) in
    record {
      pickle = pickle;
      is = refl;
      says = subst (λ refusal. Says (SaysRefusal pickle refusal) reasons) one
          (says asked (subst IsExplained (sym one) explained));
    }

-- reasons of another ending stay as they are
pub others_kept : (end : End) (outcome : Outcome) (reasons reasons' : Reasons) → end ≡ Ok (Run outcome)
    → Gains true (IsExplained outcome) reasons reasons' → KeepsOthers end reasons reasons'
others_kept end outcome reasons reasons' is (inl same) ended other unexplained = same
others_kept end outcome reasons reasons' is (inr gained) ended other unexplained =
    absurd (unexplained (subst IsExplained (ap (outcome_or outcome) (sym is ∙ other)) gained.1))

module _ (IsPickle : NamedPickle → Type 0) (why : Bool) (reasons : Reasons) where
  -- nothing is due of another ending
  pub silent_explains : (status : Status) → Explains IsPickle why reasons (Ok (Silent status))
  silent_explains status ended same asked explained = absurd (subst has_outcome (sym same) tt)

  pub fault_explains : (fault : FileFault) → Explains IsPickle why reasons (Err fault)
  fault_explains fault ended same asked explained = absurd (subst has_outcome (sym same) tt)

  unexplained : (failed : Failure) → IsExplained (Failed failed) → ⊥
  unexplained failed explained = elim explained [ ]

  pub failure_explains : (failed : Failure) → Explains IsPickle why reasons (Ok (Run (Failed failed)))
  failure_explains failed ended same asked explained =
      absurd (unexplained failed
      (subst IsExplained (sym (ap (outcome_or (Failed failed)) same)) explained))

  pub usage_explains : (ending : Ending) → (ending ≡ Silent status.Refused) ⊎ (ending ≡ Run (Failed failure.Memory))
      → Explains IsPickle why reasons (Ok ending)
  usage_explains ending (inl is) =
      subst (λ end. Explains IsPickle why reasons (Ok end)) (sym is) (silent_explains status.Refused)
  usage_explains ending (inr is) =
      subst (λ end. Explains IsPickle why reasons (Ok end)) (sym is) (failure_explains failure.Memory)

  -- nor of an answer in JSON, which has the reasons in it
  report_explains : (outcome : Outcome) (notes : List ℕ) (lines : List (List ℕ)) (end : End)
      → DueReport outcome notes lines (Some end) → Explains IsPickle why reasons end
  report_explains outcome notes _ _ (report_due other) = silent_explains _
  report_explains outcome notes _ _ (unreported is) =
      subst (λ ended. Explains IsPickle why reasons (Ok (Run ended))) (sym is) (failure_explains failure.Write)

  check_due : (asked : Bool) (pickle : List ℕ) (lines : List (List ℕ)) (end : End)
      → DueCheck asked pickle lines (Some end) → Explains IsPickle why reasons end
  check_due asked pickle _ _ (answer_due checks) = silent_explains _

  listed_due : (asked : Bool) (pickle : List ℕ) (lines : List (List ℕ)) (end : End)
      → DueTypes asked pickle lines (Some end) → Explains IsPickle why reasons end
  listed_due asked pickle _ _ (types_due types) = silent_explains _
  listed_due asked pickle _ _ (refusal_due refused checks) = silent_explains _
  listed_due asked pickle lines end (failure_due {ended = ended} types undone unrefused report) =
      report_explains ended [] lines end report

  holds_explains : (Due : List (List ℕ) → Option End → Type 0) (out out' : Option (List ℕ)) (end : End)
      → ((lines : List (List ℕ)) (end : End) → Due lines (Some end) → Explains IsPickle why reasons end)
      → Holds Due out out' end → Explains IsPickle why reasons end
  holds_explains Due out out' end due (whole {lines = lines} h appends) = due lines end h
  holds_explains Due out out' _ due (part h appends) = failure_explains failure.Write
  holds_explains Due out out' _ due (early h appends) = failure_explains failure.Write

  pub check_explains : (asked : Bool) (pickle : List ℕ) (out out' : Option (List ℕ)) (end : End)
      → Holds (DueCheck asked pickle) out out' end → Explains IsPickle why reasons end
  check_explains asked pickle out out' end =
      holds_explains (DueCheck asked pickle) out out' end (check_due asked pickle)

  pub types_explain : (asked : Bool) (pickle : List ℕ) (out out' : Option (List ℕ)) (end : End)
      → Holds (DueTypes asked pickle) out out' end → Explains IsPickle why reasons end
  types_explain asked pickle out out' end =
      holds_explains (DueTypes asked pickle) out out' end (listed_due asked pickle)

-- of a pickle that an argument names
pub word_explains : (gives : Gives) (word : List ℕ) (pickle : NamedPickle) (why : Bool) (reasons : Reasons) (end : End)
    → gives.is_pickle word pickle.bytes.items → Explains (λ source. source ≡ pickle) why reasons end
    → ExplainsWord gives (Some word) why reasons end
word_explains gives word pickle why reasons end is explains ended same asked explained =
    let says = explains ended same asked explained in
    record {
      pickle = says.pickle;
      is = subst (λ source. gives.is_pickle word source.bytes.items) (sym says.is) is;
      says = says.says;
    }
