use Rattle.std.proofs.Common.{◌≡◌, ◌∙◌, ℕ, List, Option, None, Some, Ok, ap, option_map, sym, subst}
use Rattle.std.proofs.KnownBytes.{Keeps-refl}
use Rattle.std.proofs.lemmas.Result.{err_from_is_err_and}
use Rattle.command_line.specs.Subjects.{pickle_of}
use Rattle.jobs.specs.Aims.{Requested, of_chosen, of_request, settled_terms}
use Rattle.jobs.specs.Chosen.{chosen, chosen_type}
use Rattle.jobs.specs.Due.{End, Holds, of_pickle, unread}
use Rattle.jobs.specs.Jobs.{DueIfAny, DueMapping, DueSubject}
use Rattle.jobs.proofs.Chosen.{settled_request, usage_holds}
use Rattle.jobs.proofs.Holding.{holds_more, no_text}
use Rattle.jobs.specs.Asides.{no_request}
use Rattle.jobs.proofs.Explained.{fault_explains, usage_explains, word_explains}
use Rattle.jobs.proofs.Requested.{request_tells}
use Rattle.jobs.specs.FileReasons.{ExplainsIfAny, ExplainsOver, named_pickle, unread_pickle}
use Rattle.jobs.proofs.FileReasons.{none_explained}
use Rattle.jobs.proofs.run.run_request.Goals as goal

pub returns-in_default-clause-holds : goal.returns-in_default-clause-holds
returns-in_default-clause-holds g c =
    let none : pickle_of c.args.request.now.subject ≡ None =
    sym c.pickle.ensures ∙ ap (option_map (λ word. word.now)) c.in_default.is in
    subst (λ word. Holds (DueSubject (g.P.Opener.gives c.args.opener.now) c.args.why.now.asked c.args.request.now word)
    (g.O.Write.contents c.args.out.now) (g.O.Write.contents c.run_unnamed.new.out) c.run_unnamed.result)
    (sym none) c.run_unnamed.ensures

pub returns-in_err-pickle-clause-holds : goal.returns-in_err-pickle-clause-holds
returns-in_err-pickle-clause-holds g c =
    let some : pickle_of c.args.request.now.subject ≡ Some c.in-Some.word.now =
    sym c.pickle.ensures ∙ ap (option_map (λ word. word.now)) c.in-Some.is in
    let p = err_from_is_err_and c.from_residual.result c.from_residual.ensures.1 in
    rw (p.1, p.2, some) (no_text _ _ _ _ (unread c.in_err-pickle.ensures.err) (Keeps-refl _))

pub returns-clause-holds : goal.returns-clause-holds
returns-clause-holds g c =
    let some : pickle_of c.args.request.now.subject ≡ Some c.in-Some.word.now =
    sym c.pickle.ensures ∙ ap (option_map (λ word. word.now)) c.in-Some.is in
    let request = c.args.request.now in
    let bytes = c.in_ok-pickle.pickle.bytes.items in
    let Due : Requested → List (List ℕ) → Option End → Type 0 = λ requested.
    DueMapping (g.P.Opener.gives c.args.opener.now) c.args.why.now.asked requested request.over bytes in
    let unsaid : chosen request.subject bytes ≡ None = rw (sym c.deref.ensures.value) c.in-Err.ensures.err in
    rw some
    (holds_more (DueIfAny Due (of_request request bytes)) _ (Ok c.refuse.result) _ _
    (λ lines end due. of_pickle c.in_ok-pickle.ensures.ok due)
    (usage_holds Due (of_request request bytes) c.refuse.result _ _ (ap (option_map (of_chosen request)) unsaid)
    c.refuse.ensures (Keeps-refl _)))

pub returns-in-Ok-clause-holds : goal.returns-in-Ok-clause-holds
returns-in-Ok-clause-holds g c =
    let some : pickle_of c.args.request.now.subject ≡ Some c.in-Some.word.now =
    sym c.pickle.ensures ∙ ap (option_map (λ word. word.now)) c.in-Some.is in
    let request = c.args.request.now in
    let bytes = c.in_ok-pickle.pickle.bytes.items in
    let found = chosen_type c.in-Ok.field-0 in
    let Due : Requested → List (List ℕ) → Option End → Type 0 = λ requested.
    DueMapping (g.P.Opener.gives c.args.opener.now) c.args.why.now.asked requested request.over bytes in
    let said : chosen request.subject bytes ≡ Some found = rw (sym c.deref.ensures.value) c.in-Ok.ensures.ok in
    let settled : c.settle_terms.new.terms ≡ settled_terms request.form found.whole request.terms =
    c.settle_terms.ensures in
    rw some
    (holds_more (DueIfAny Due (of_request request bytes)) _ c.run_settled.result _ _
    (λ lines end due. of_pickle c.in_ok-pickle.ensures.ok due)
    (subst (λ requested. Holds (DueIfAny Due requested) (g.O.Write.contents c.args.out.now)
    (g.O.Write.contents c.run_settled.new.out) c.run_settled.result)
    (settled_request request bytes found c.settle_terms.new.terms said settled) c.run_settled.ensures.holds))

pub returns-in_default-clause-says : goal.returns-in_default-clause-says
returns-in_default-clause-says g c =
    let none : pickle_of c.args.request.now.subject ≡ None =
    sym c.pickle.ensures ∙ ap (option_map (λ word. word.now)) c.in_default.is in
    rw none tt

pub returns-in_default-clause-told : goal.returns-in_default-clause-told
returns-in_default-clause-told g c = no_request (Keeps-refl _)

pub returns-in_err-pickle-clause-says : goal.returns-in_err-pickle-clause-says
returns-in_err-pickle-clause-says g c =
    let some : pickle_of c.args.request.now.subject ≡ Some c.in-Some.word.now =
    sym c.pickle.ensures ∙ ap (option_map (λ word. word.now)) c.in-Some.is in
    let p = err_from_is_err_and c.from_residual.result c.from_residual.ensures.1 in
    rw (p.1, p.2, some) (fault_explains _ _ _ _)

pub returns-in_err-pickle-clause-told : goal.returns-in_err-pickle-clause-told
returns-in_err-pickle-clause-told g c = no_request (Keeps-refl _)

pub returns-clause-says : goal.returns-clause-says
returns-clause-says g c =
    let some : pickle_of c.args.request.now.subject ≡ Some c.in-Some.word.now =
    sym c.pickle.ensures ∙ ap (option_map (λ word. word.now)) c.in-Some.is in
    rw some (usage_explains _ _ _ c.refuse.result c.refuse.ensures)

pub returns-clause-told : goal.returns-clause-told
returns-clause-told g c = no_request (Keeps-refl _)

pub returns-in-Ok-clause-says : goal.returns-in-Ok-clause-says
returns-in-Ok-clause-says g c =
    let some : pickle_of c.args.request.now.subject ≡ Some c.in-Some.word.now =
    sym c.pickle.ensures ∙ ap (option_map (λ word. word.now)) c.in-Some.is in
    rw some (word_explains (g.P.Opener.gives c.args.opener.now) c.in-Some.word.now c.in_ok-pickle.pickle
    c.args.why.now.asked _ c.run_settled.result c.in_ok-pickle.ensures.ok c.run_settled.ensures.says)

pub returns-in-Ok-clause-told : goal.returns-in-Ok-clause-told
returns-in-Ok-clause-told g c =
    let request = c.args.request.now in
    let bytes = c.in_ok-pickle.pickle.bytes.items in
    let found = chosen_type c.in-Ok.field-0 in
    let some : pickle_of c.args.request.now.subject ≡ Some c.in-Some.word.now =
    sym c.pickle.ensures ∙ ap (option_map (λ word. word.now)) c.in-Some.is in
    let said : chosen request.subject bytes ≡ Some found = rw (sym c.deref.ensures.value) c.in-Ok.ensures.ok in
    let settled : c.settle_terms.new.terms ≡ settled_terms request.form found.whole request.terms =
    c.settle_terms.ensures in
    request_tells (g.P.Opener.gives c.args.opener.now) c.args.why.now.asked request bytes c.in-Some.word.now found
    c.settle_terms.new.terms _ _ some c.in_ok-pickle.ensures.ok said settled c.run_settled.ensures.told

pub returns-in_default-clause-opened : goal.returns-in_default-clause-opened
returns-in_default-clause-opened g c =
    let none : pickle_of c.args.request.now.subject ≡ None =
    sym c.pickle.ensures ∙ ap (option_map (λ word. word.now)) c.in_default.is in
    rw none tt

pub returns-in_err-pickle-clause-opened : goal.returns-in_err-pickle-clause-opened
returns-in_err-pickle-clause-opened g c =
    let some : pickle_of c.args.request.now.subject ≡ Some c.in-Some.word.now =
    sym c.pickle.ensures ∙ ap (option_map (λ word. word.now)) c.in-Some.is in
    let p = err_from_is_err_and c.from_residual.result c.from_residual.ensures.1 in
    rw (p.1, p.2, some) (unread_pickle c.in_err-pickle.ensures.err)

pub returns-clause-opened : goal.returns-clause-opened
returns-clause-opened g c =
    let some : pickle_of c.args.request.now.subject ≡ Some c.in-Some.word.now =
    sym c.pickle.ensures ∙ ap (option_map (λ word. word.now)) c.in-Some.is in
    let request = c.args.request.now in
    let unsaid : chosen request.subject c.in_ok-pickle.pickle.bytes.items ≡ None =
    rw (sym c.deref.ensures.value) c.in-Err.ensures.err in
    rw some (named_pickle c.in_ok-pickle.ensures.ok (none_explained _ _ (ap (option_map (of_chosen request)) unsaid)))

pub returns-in-Ok-clause-opened : goal.returns-in-Ok-clause-opened
returns-in-Ok-clause-opened g c =
    let some : pickle_of c.args.request.now.subject ≡ Some c.in-Some.word.now =
    sym c.pickle.ensures ∙ ap (option_map (λ word. word.now)) c.in-Some.is in
    let request = c.args.request.now in
    let bytes = c.in_ok-pickle.pickle.bytes.items in
    let found = chosen_type c.in-Ok.field-0 in
    let said : chosen request.subject bytes ≡ Some found = rw (sym c.deref.ensures.value) c.in-Ok.ensures.ok in
    let settled : c.settle_terms.new.terms ≡ settled_terms request.form found.whole request.terms =
    c.settle_terms.ensures in
    rw some (named_pickle c.in_ok-pickle.ensures.ok
    (subst (ExplainsIfAny (λ requested. ExplainsOver (g.P.Opener.gives c.args.opener.now) requested request.over bytes
    c.args.why.now.asked c.run_settled.result _))
    (settled_request request bytes found c.settle_terms.new.terms said settled) c.run_settled.ensures.opened))
