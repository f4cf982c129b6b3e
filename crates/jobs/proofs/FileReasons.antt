-- What explains how the mapping of a file ended.
use Rattle.std.proofs.Common.{◌≡◌, ◌≢◌, ◌∙◌, arith, le-leb, Bool, true, false, ℕ, List, [], ◌++◌, Option, Some, None, Result, Ok, Err, ap, is_ok, not, refl, string_bytes, subst, sym, if◌then◌else◌}
use Rattle.bit_space.specs.SpaceView.{Keeps, SpaceView}
use Rattle.bit_space.specs.declared.order.Order.{Order}
use Rattle.command_line.specs.declared.answer_form.AnswerForm.{AnswerForm}
use Rattle.command_line.specs.declared.ask.Ask.{Ask}
use Rattle.command_line.specs.declared.fault_form.FaultForm.{FaultForm}
use Rattle.command_line.specs.declared.request.FileNames.{FileNames}
use Rattle.command_line.specs.declared.request.Over.{Over}
use Rattle.command_line.specs.declared.request.Over.TheVariants.{Bytes, File, Files, Records, Search}
use Rattle.command_line.specs.declared.terms.Terms.{Terms}
use Rattle.command_line.specs.declared.words.Job.{Job}
use Rattle.fault_report.specs.Impossible.{TellsImpossible}
use Rattle.fault_report.specs.Why.{TellsWhy, run_of}
use Rattle.jobs.specs.Aims.{Requested}
use Rattle.jobs.specs.Due.{End}
use Rattle.jobs.specs.Endings.{is_mapped}
use Rattle.jobs.specs.FileReasons.{AddsHint, AddsIfFault, AddsLine, ExplainsFile, ExplainsIfAny, ExplainsJob, ExplainsOver, ExplainsSpace, SaysMapped, SaysMet, SaysOpened, added, left_out, no_cause, no_fault, with_fault}
use Rattle.jobs.specs.Given.{AddsMet, IsAskedAbout, adds_met, adds_none, cuts_met, of_bound, of_check, of_memory, of_parts, of_text, of_tight, of_types}
use Rattle.jobs.specs.Gives.{Gives}
use Rattle.jobs.specs.Reasons.{AreLost, IsExplained, KeepsOthers, Says, no_type, refused_pickle, said, unsaid}
use Rattle.jobs.specs.Spaces.{is_within}
use Rattle.jobs.specs.Tasks.{IsOverFile, IsOverFiles, IsTaskOver}
use Rattle.jobs.specs.declared.ending.Ending.TheVariants.{Run, Silent}
use Rattle.jobs.specs.declared.fault.FileFault.{FileFault}
use Rattle.jobs.specs.declared.hint.Hint.{Hint}
use Rattle.jobs.specs.declared.hint.Hint.TheVariants.{TooLong}
use Rattle.jobs.specs.declared.pickles.Question.{Question}
use Rattle.jobs.specs.declared.task.Task.{Task}
use Rattle.jobs.specs.declared.task.Task.TheVariants as task
use Rattle.jobs.specs.declared.why.Reasons.{Reasons}
use Rattle.jobs.proofs.Explained.{has_outcome, outcome_or}
use Rattle.jobs.proofs.Mapped.{unless_fault}
use Rattle.pickle_types.specs.Types.{PokeType}
use Rattle.poke_batch.specs.Runs.{HasNoType, IsAsked, no_type as lacks_type, refused_pickle as lacks_pickle}
use Rattle.run_parts.specs.Outcomes.{outcome_status}
use Rattle.run_parts.specs.declared.accept.Refusal.{Refusal}
use Rattle.run_parts.specs.declared.accept.Refusal.TheVariants as refusal
use Rattle.run_parts.specs.declared.outcome.Failure.{Failure}
use Rattle.run_parts.specs.declared.outcome.Failure.TheVariants as failure
use Rattle.run_parts.specs.declared.outcome.Outcome.{Outcome}
use Rattle.run_parts.specs.declared.outcome.Outcome.TheVariants.{Failed, ImpossiblePart, NoSuchType, Offset, Refused}

pub no_false : false ≡ true → ⊥
no_false e = cc

-- a line is added, or memory for it lacks
pub line_added : {E : Type 0} (r : Result (Unit {0}) E) (line old new : List ℕ)
    → new ≡ (if is_ok r then old ++ line else old) → AddsLine line old new
line_added (Ok unit) line old new is = subst (λ text. AddsLine line old text) (sym is) added
line_added (Err fault) line old new is = subst (λ text. AddsLine line old text) (sym is) left_out

-- a text that is right
text_says : (Right : List ℕ → Type 0) (text : List ℕ) (reasons : Reasons) → Right text → Says (λ t. t ≡ text) reasons →
    Says Right reasons
text_says Right text reasons right (said is made) = said (subst Right (sym is) right) made
text_says Right text reasons right (unsaid lost) = unsaid lost

-- nothing is too long to be shown
within_none : (most : Option ℕ) → is_within most [] ≡ true
within_none None = refl
within_none (Some most) = le-leb 0 most (omega arith)

-- memory lacks for what was found
pub lost_says : (Right : List ℕ → Type 0) (terms : Terms) (reasons : Reasons) → AreLost reasons →
    SaysMet Right terms reasons
lost_says Right terms reasons lost = record {
  own = reasons;
  met = [];
  says = unsaid lost;
  unshown = λ none. refl;
  adds = no_cause (ap not (within_none terms.most_output)) refl;
}

-- the text that was found is right
pub found_says : (Tells : Outcome → List ℕ → Type 0) (terms : Terms) (ended ended' : Outcome) (text : List ℕ)
    (reasons : Reasons) → Tells ended text → (ended' ≡ ended) × SaysMet (λ t. t ≡ text) terms reasons
    → SaysMet (Tells ended') terms reasons
found_says Tells terms ended ended' text reasons right found = record {
  own = found.1.own;
  met = found.1.met;
  says = text_says (Tells ended') text found.1.own (subst (λ e. Tells e text) (sym found.0) right) found.1.says;
  unshown = found.1.unshown;
  adds = found.1.adds;
}

-- a hint is added in the same case
pub same_cause : (a b : Bool) (hint : Hint) (reasons reasons' : Reasons) → a ≡ b
    → AddsHint (not a) hint reasons reasons' → AddsHint (not b) hint reasons reasons'
same_cause a b hint reasons reasons' same adds = subst (λ is. AddsHint (not is) hint reasons reasons') same adds

-- a run that mapped the file isn't one whose type has no such value
pub mapped_possible : (ended : Outcome) → is_mapped (outcome_status ended) ≡ true → ended ≡ ImpossiblePart → ⊥
mapped_possible ended mapped is = no_false (subst (λ e. is_mapped (outcome_status e) ≡ true) is mapped)

module _ (terms : Terms) (ended : Outcome) (out out' : Option (List ℕ)) where
  -- nor is it one if the output fails at what it had met
  pub met_possible : (ended' : Outcome) → is_mapped (outcome_status ended) ≡ true → AddsMet terms ended out out' ended'
      → ended' ≡ ImpossiblePart → ⊥
  met_possible _ mapped (adds_none keeps) is = mapped_possible ended mapped is
  met_possible _ mapped (adds_met met may h) is = mapped_possible ended mapped is
  met_possible _ mapped (cuts_met met may h) is = cc

  -- it ends so unless the output fails then
  pub met_ended : (ended' : Outcome) → AddsMet terms ended out out' ended'
      → ((failed : Failure) → ended' ≢ Failed failed) → ended' ≡ ended
  met_ended _ (adds_none keeps) other = refl
  met_ended _ (adds_met met may h) other = refl
  met_ended _ (cuts_met met may h) other = absurd (other failure.Write refl)

pub failed_unmapped : (ended : Outcome) (failed : Failure) → ended ≡ Failed failed
    → is_mapped (outcome_status ended) ≡ true → ⊥
failed_unmapped ended failed is mapped = no_false (subst (λ e. is_mapped (outcome_status e) ≡ true) is mapped)

-- no file is mapped by a pickle that has no such type
refused_unmapped : (why : Refusal) → is_mapped (outcome_status (Refused why)) ≡ false
refused_unmapped (refusal.Tokens kind at) = refl
refused_unmapped (refusal.Syntax at) = refl
refused_unmapped refusal.TooDeep = refl
refused_unmapped refusal.TooMany = refl
refused_unmapped (refusal.Types kind declaration) = refl
refused_unmapped refusal.Memory = refl

pub unresolved_unmapped : (pickle name : List ℕ) (ended : Outcome) → HasNoType pickle name ended
    → is_mapped (outcome_status ended) ≡ true → ⊥
unresolved_unmapped pickle name _ (lacks_pickle {refusal = why} refuses) mapped =
    no_false (sym (refused_unmapped why) ∙ mapped)
unresolved_unmapped pickle name _ (lacks_type accepted none) mapped = no_false mapped

pub unresolved_possible : (pickle name : List ℕ) (ended : Outcome) → HasNoType pickle name ended
    → ended ≡ ImpossiblePart → ⊥
unresolved_possible pickle name _ (lacks_pickle refuses) is = cc
unresolved_possible pickle name _ (lacks_type accepted none) is = cc

-- what is said of a run over a space, if reasons are requested
pub unasked_space : (pickle : List ℕ) (ask : Ask) (terms : Terms) (file after : SpaceView)
    (why : Bool) (ended : Outcome)
    (reasons : Reasons) → why ≡ false → ExplainsSpace pickle ask terms file after why ended reasons
unasked_space pickle ask terms file after why ended reasons unasked = record {
  mapped = λ asked mapped. absurd (no_false (sym unasked ∙ asked));
  impossible = λ asked is. absurd (no_false (sym unasked ∙ asked));
}

pub space_mapped : (pickle : List ℕ) (ask : Ask) (terms : Terms) (file mid after : SpaceView) (ended : Outcome)
    (type : PokeType) (reasons : Reasons) → IsAsked pickle ask.name.now type → Keeps file mid → Keeps mid after
    → SaysMet (TellsWhy (run_of mid after ask terms ended) type) terms reasons
    → SaysMapped pickle ask terms file after ended reasons
space_mapped pickle ask terms file mid after ended type reasons asked mapped found says = record {
  type = type;
  mid = mid;
  asked = asked;
  mapped = mapped;
  found = found;
  says = says;
}

-- no hint follows which part no value has
pub impossible_kept : (path : List ℕ) (order : Order) (pickle : List ℕ) (ended : Outcome) (Right : List ℕ → Type 0)
    (reasons reasons' : Reasons) → AddsIfFault path order pickle ended reasons reasons' → ended ≡ ImpossiblePart
    → Says Right reasons → Says Right reasons'
impossible_kept path order pickle ended Right reasons reasons' (no_fault other same) is says =
    subst (Says Right) (sym same) says
impossible_kept path order pickle ended Right reasons reasons' (with_fault faulty adds) is says =
    absurd (subst unless_fault (ap outcome_status (sym is) ∙ faulty) tt)

-- no refusal is explained of a run that mapped the file, nor of one whose type has no such value
explained_unmapped : (ended : Outcome) → IsExplained ended → is_mapped (outcome_status ended) ≡ true → ⊥
explained_unmapped _ (refused_pickle {refusal = why}) mapped = no_false (sym (refused_unmapped why) ∙ mapped)
explained_unmapped _ no_type mapped = no_false mapped

unexplained : (ended : Outcome) → is_mapped (outcome_status ended) ≡ true → IsExplained ended → ⊥
unexplained ended mapped explained = explained_unmapped ended explained mapped

impossible_unexplained : IsExplained ImpossiblePart → ⊥
impossible_unexplained explained = elim explained [ ]

module _ (gives : Gives) (requested : Requested) (path pickle : List ℕ) (why : Bool) (reasons : Reasons) where
  -- nothing is due of a file that isn't opened
  pub fault_file : (fault : FileFault) → ExplainsFile gives requested path pickle why (Err fault) reasons
  fault_file fault = record {
    mapped = λ ended same asked mapped. absurd (subst has_outcome (sym same) tt);
    impossible = λ asked same. absurd (subst has_outcome (sym same) tt);
  }

  -- nor of one that would start before its first byte
  pub start_file : ExplainsFile gives requested path pickle why (Ok (Run Offset)) reasons
  start_file = record {
    mapped = λ ended same asked mapped.
        absurd (no_false (subst (λ e. is_mapped (outcome_status e) ≡ true) (sym (ap (outcome_or Offset) same)) mapped));
    impossible = λ asked same. absurd (possible_start (ap (outcome_or Offset) same));
  }
    where
      possible_start : Offset ≡ ImpossiblePart → ⊥
      possible_start is = cc

  -- how a mapping ended is explained as its ending is
  pub opened_file : (ended : Outcome)
      → (why ≡ true → is_mapped (outcome_status ended) ≡ true → SaysOpened gives requested path pickle ended reasons)
      → (why ≡ true → ended ≡ ImpossiblePart → Says TellsImpossible reasons)
      → ExplainsFile gives requested path pickle why (Ok (Run ended)) reasons
  opened_file ended mapped impossible = record {
    mapped = λ other same asked is.
        let one : ended ≡ other = ap (outcome_or ended) same in
        subst (λ e. SaysOpened gives requested path pickle e reasons) one
        (mapped asked (subst (λ e. is_mapped (outcome_status e) ≡ true) (sym one) is));
    impossible = λ asked same. impossible asked (ap (outcome_or ended) same);
  }

  -- how a mapping ended is explained with reasons that stay, once a refusal is explained
  pub kept_file : (end : End) (reasons' : Reasons) → ExplainsFile gives requested path pickle why end reasons
      → KeepsOthers end reasons reasons' → ExplainsFile gives requested path pickle why end reasons'
  kept_file end reasons' explains keeps = record {
    mapped = λ ended same asked mapped.
        subst (SaysOpened gives requested path pickle ended) (sym (keeps ended same (unexplained ended mapped)))
        (explains.mapped ended same asked mapped);
    impossible = λ asked same.
        subst (Says TellsImpossible) (sym (keeps ImpossiblePart same impossible_unexplained))
        (explains.impossible asked same);
  }

module _ (gives : Gives) (requested : Requested) (pickle : List ℕ) (why : Bool) where
  -- the same whatever a mapping is over
  pub kept_over : (over : Over) (end : End) (reasons reasons' : Reasons)
      → ExplainsOver gives requested over pickle why end reasons → KeepsOthers end reasons reasons'
      → ExplainsOver gives requested over pickle why end reasons'
  kept_over (File path) end reasons reasons' explains keeps =
      kept_file gives requested (string_bytes path) pickle why reasons end reasons' explains keeps
  kept_over (Bytes path) end reasons reasons' explains keeps = tt
  kept_over (Files names flush) end reasons reasons' explains keeps = tt
  kept_over (Records path of list) end reasons reasons' explains keeps = tt
  kept_over (Search path search) end reasons reasons' explains keeps = tt

  module _ (over : Over) (end : End) (reasons : Reasons) where
    -- of a mapping that is over a file
    pub file_over : (path : List ℕ) → IsOverFile (λ file. File file) over path
        → ExplainsFile gives requested path pickle why end reasons
        → ExplainsOver gives requested over pickle why end reasons
    file_over path is explains =
        subst (λ o. ExplainsOver gives requested o pickle why end reasons) (sym is.over_is)
        (subst (λ p. ExplainsFile gives requested p pickle why end reasons) is.path_is explains)

    -- nothing is due of many files, and of a task
    pub files_over : (names : FileNames) → IsOverFiles over names
        → ExplainsOver gives requested over pickle why end reasons
    files_over names is = subst (λ o. ExplainsOver gives requested o pickle why end reasons) (sym is.over_is) tt

    pub task_over : (faults : FaultForm) (path : List ℕ) (task : Task) → IsTaskOver over faults path task
        → ExplainsOver gives requested over pickle why end reasons
    task_over faults path (task.List of list) is =
        subst (λ o. ExplainsOver gives requested o pickle why end reasons) (sym is.over_is) tt
    task_over faults path task.Copy is =
        subst (λ o. ExplainsOver gives requested o pickle why end reasons) (sym is.over_is) tt
    task_over faults path (task.Search search form) is =
        subst (λ o. ExplainsOver gives requested o pickle why end reasons) (sym is.0.over_is) tt

-- what the head of a pickle says is explained, or it says nothing
pub any_explained : {A : Type 0} (Explains : A → Type 0) (known : Option A) (found : A) → known ≡ Some found
    → Explains found → ExplainsIfAny Explains known
any_explained Explains known found is explains = subst (ExplainsIfAny Explains) (sym is) explains

pub none_explained : {A : Type 0} (Explains : A → Type 0) (known : Option A) → known ≡ None
    → ExplainsIfAny Explains known
none_explained Explains known is = subst (ExplainsIfAny Explains) (sym is) tt

-- nothing is due of a question about a pickle
pub question_opened : (gives : Gives) (job : Job) (form : AnswerForm) (word : List ℕ) (question : Question) (why : Bool)
    (end : End) (reasons : Reasons) → IsAskedAbout form word job question → ExplainsJob gives job why end reasons
question_opened gives _ form word _ why end reasons (of_check is) = tt
question_opened gives _ form word _ why end reasons (of_types is) = tt
question_opened gives _ form word _ why end reasons (of_parts given is named) = tt
question_opened gives _ form word _ why end reasons (of_bound given is named) = tt
question_opened gives _ form word _ why end reasons (of_tight given is named) = tt
question_opened gives _ form word _ why end reasons (of_memory given is named) = tt
question_opened gives _ form word _ why end reasons (of_text given is named) = tt
