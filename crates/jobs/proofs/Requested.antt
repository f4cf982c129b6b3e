-- What is told and explained of requests and of questions about pickles.
use Rattle.std.proofs.Common.{◌≡◌, ◌∙◌, Bool, ℕ, List, Option, Some, ap, option_map, sym, subst}
use Rattle.std.specs.Io.KnownBytes.{Keeps}
use Rattle.command_line.specs.Subjects.{pickle_of}
use Rattle.command_line.specs.declared.answer_form.AnswerForm.{AnswerForm}
use Rattle.command_line.specs.declared.request.Request.{Request}
use Rattle.command_line.specs.declared.terms.Terms.{Terms}
use Rattle.command_line.specs.declared.words.Job.{Job}
use Rattle.jobs.specs.Aims.{of_type, settled_terms}
use Rattle.jobs.specs.Asides.{TellsJob, TellsRequest, TellsSettled, no_request, not_settled, tells_request, tells_settled}
use Rattle.jobs.specs.Chosen.{ChosenType, chosen, first_order}
use Rattle.jobs.specs.Due.{End}
use Rattle.jobs.specs.Given.{IsAskedAbout, of_bound, of_check, of_memory, of_parts, of_text, of_tight, of_types}
use Rattle.jobs.specs.Gives.{Gives}
use Rattle.jobs.specs.Reasons.{ExplainsWord, word_of}
use Rattle.jobs.specs.declared.pickles.Question.{Question}
use Rattle.jobs.specs.declared.why.Reasons.{Reasons}
use Rattle.jobs.proofs.Chosen.{settled_request}

-- what is told of a request whose terms are settled is told of the request
pub request_tells : (gives : Gives) (why : Bool) (request : Request) (pickle word : List ℕ) (found : ChosenType)
    (terms : Terms) (told told' : Option (List ℕ)) → pickle_of request.subject ≡ Some word
    → gives.is_pickle word pickle → chosen request.subject pickle ≡ Some found
    → terms ≡ settled_terms request.form found.whole request.terms
    → TellsSettled gives why (record request { terms = terms }) pickle told told'
    → TellsRequest gives why request told told'
request_tells gives why request pickle word found terms told told' named is said settled (not_settled keeps) =
    no_request keeps
request_tells gives why request pickle word found terms told told' named is said settled (tells_settled again tells) =
    tells_request named is
    (sym (settled_request request pickle found terms said settled)
    ∙ ap (option_map (λ (type : ChosenType). of_type request type.name (first_order request.order type.order) terms))
    again) tells

-- nothing is told of a question about a pickle
pub question_tells : (gives : Gives) (why : Bool) (job : Job) (form : AnswerForm) (word : List ℕ)
    (question : Question) (told told' : Option (List ℕ)) → IsAskedAbout form word job question → Keeps told told'
    → TellsJob gives why job form told told'
question_tells gives why _ form word _ told told' (of_check is) keeps = keeps
question_tells gives why _ form word _ told told' (of_types is) keeps = keeps
question_tells gives why _ form word _ told told' (of_parts given is named) keeps = keeps
question_tells gives why _ form word _ told told' (of_bound given is named) keeps = keeps
question_tells gives why _ form word _ told told' (of_tight given is named) keeps = keeps
question_tells gives why _ form word _ told told' (of_memory given is named) keeps = keeps
question_tells gives why _ form word _ told told' (of_text given is named) keeps = keeps

-- the refusal of a pickle that a question is about is explained
pub question_explains : (gives : Gives) (why : Bool) (reasons : Reasons) (job : Job) (form : AnswerForm)
    (word : List ℕ) (question : Question) (end : End) → IsAskedAbout form word job question
    → ExplainsWord gives (Some word) why reasons end → ExplainsWord gives (word_of job) why reasons end
question_explains gives why reasons _ form word _ end (of_check is) h =
    subst (λ w. ExplainsWord gives (Some w) why reasons end) is h
question_explains gives why reasons _ form word _ end (of_types is) h =
    subst (λ w. ExplainsWord gives (Some w) why reasons end) is h
question_explains gives why reasons _ form word _ end (of_parts given is named) h =
    subst (λ w. ExplainsWord gives (Some w) why reasons end) is h
question_explains gives why reasons _ form word _ end (of_bound given is named) h =
    subst (λ w. ExplainsWord gives (Some w) why reasons end) is h
question_explains gives why reasons _ form word _ end (of_tight given is named) h =
    subst (λ w. ExplainsWord gives (Some w) why reasons end) is h
question_explains gives why reasons _ form word _ end (of_memory given is named) h =
    subst (λ w. ExplainsWord gives (Some w) why reasons end) is h
question_explains gives why reasons _ form word _ end (of_text given is named) h =
    subst (λ w. ExplainsWord gives (Some w) why reasons end) is h
