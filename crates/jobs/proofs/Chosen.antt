-- What is due where the head of a pickle says the type, or doesn't.
use Rattle.std.proofs.Common.{◌≡◌, ◌∙◌, ◌⊎◌, ℕ, List, Option, Some, None, Ok, option_map, inl, inr, sym, ap, subst}
use Rattle.std.specs.Io.KnownBytes.{Keeps}
use Rattle.command_line.specs.declared.request.Request.{Request}
use Rattle.command_line.specs.declared.terms.Terms.{Terms}
use Rattle.jobs.specs.Aims.{of_chosen, of_request, of_type, settled_terms}
use Rattle.jobs.specs.Chosen.{ChosenType, chosen, first_order}
use Rattle.jobs.specs.Due.{End, Holds}
use Rattle.jobs.specs.Jobs.{DueIfAny, due_of, usage_due, usage_unwritten}
use Rattle.jobs.specs.declared.ending.Ending.{Ending}
use Rattle.jobs.specs.declared.ending.Ending.TheVariants.{Run, Silent}
use Rattle.jobs.proofs.Holding.{holds_more, no_text}
use Rattle.run_parts.specs.declared.outcome.Failure.TheVariants as failure
use Rattle.run_parts.specs.declared.outcome.Outcome.TheVariants as outcome
use Rattle.run_parts.specs.declared.status.Status.TheVariants.{Refused}

-- it is said
pub any_holds : {A : Type 0} (Due : A → List (List ℕ) → Option End → Type 0) (said : Option A) (found : A) (end : End)
    (out out' : Option (List ℕ)) → said ≡ Some found → Holds (Due found) out out' end
    → Holds (DueIfAny Due said) out out' end
any_holds {A} Due said found end out out' is h =
    subst (λ (some : Option A). Holds (DueIfAny Due some) out out' end) (sym is)
    (holds_more (Due found) (DueIfAny Due (Some found)) end out out' (λ lines due_end due. due_of due) h)

-- it isn't, which is a usage error
pub usage_holds : {A : Type 0} (Due : A → List (List ℕ) → Option End → Type 0) (said : Option A) (ending : Ending)
    (out out' : Option (List ℕ)) → said ≡ None
    → (ending ≡ Silent Refused) ⊎ (ending ≡ Run (outcome.Failed failure.Memory)) → Keeps out out'
    → Holds (DueIfAny Due said) out out' (Ok ending)
usage_holds {A} Due said ending out out' none (inl is) keeps =
    subst (λ (some : Option A). Holds (DueIfAny Due some) out out' (Ok ending)) (sym none)
    (subst (λ e. Holds (DueIfAny Due None) out out' (Ok e)) (sym is)
    (no_text (DueIfAny Due None) (Ok (Silent Refused)) out out' usage_due keeps))
usage_holds {A} Due said ending out out' none (inr is) keeps =
    subst (λ (some : Option A). Holds (DueIfAny Due some) out out' (Ok ending)) (sym none)
    (subst (λ e. Holds (DueIfAny Due None) out out' (Ok e)) (sym is)
    (no_text (DueIfAny Due None) (Ok (Run (outcome.Failed failure.Memory))) out out' usage_unwritten keeps))

-- what a request says of a type that is chosen, once its terms are settled
pub settled_request : (request : Request) (pickle : List ℕ) (found : ChosenType) (terms : Terms)
    → chosen request.subject pickle ≡ Some found → terms ≡ settled_terms request.form found.whole request.terms
    → option_map (λ type. of_type request type.name (first_order request.order type.order) terms)
    (chosen request.subject pickle) ≡ of_request request pickle
settled_request request pickle found terms is settled =
    ap (option_map (λ (type : ChosenType). of_type request type.name (first_order request.order type.order) terms)) is
    ∙ ap (λ t. Some (of_type request found.name (first_order request.order found.order) t)) settled
    ∙ sym (ap (option_map (of_chosen request)) is)
