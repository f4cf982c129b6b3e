use Rattle.std.proofs.Common.{◌≡◌, ◌∙◌, Some, None, ap, option_map, sym}
use Rattle.std.proofs.KnownBytes.{Keeps-refl}
use Rattle.jobs.specs.Aims.{of_mapping, of_type}
use Rattle.jobs.specs.Chosen.{ChosenType, chosen, chosen_type, first_order}
use Rattle.jobs.specs.Jobs.{DueMapping}
use Rattle.jobs.proofs.Chosen.{any_holds, usage_holds}
use Rattle.jobs.specs.Asides.{not_settled, tells_settled}
use Rattle.jobs.proofs.Explained.{usage_explains}
use Rattle.jobs.specs.FileReasons.{ExplainsOver}
use Rattle.jobs.proofs.FileReasons.{any_explained, none_explained}
use Rattle.jobs.proofs.run.run_settled.Goals as goal

pub returns-in-Ok-clause-holds : goal.returns-in-Ok-clause-holds
returns-in-Ok-clause-holds g c =
    let request = c.args.request.now in
    let type = λ (found : ChosenType).
    of_type request found.name (first_order request.order found.order) request.terms in
    let mapped : of_mapping c.of_type-mapping.result ≡ type (chosen_type c.in-Ok.chosen) =
    c.of_type-mapping.ensures.request
    ∙ ap (λ order. of_type request c.in-Ok.chosen.name.now order request.terms) c.first_order-order.ensures in
    let said : chosen request.subject c.args.pickle.now.bytes.items ≡ Some (chosen_type c.in-Ok.chosen) =
    rw (sym c.deref.ensures.value) c.in-Ok.ensures.ok in
    any_holds (λ requested. DueMapping (g.P.Opener.gives c.args.opener.now) c.args.why.now.asked requested request.over
    c.args.pickle.now.bytes.items) _ (type (chosen_type c.in-Ok.chosen)) c.map_over.result _ _
    (ap (option_map type) said)
    (rw (sym mapped) c.map_over.ensures.holds)

pub returns-in-Err-clause-holds : goal.returns-in-Err-clause-holds
returns-in-Err-clause-holds g c =
    let request = c.args.request.now in
    let type = λ (found : ChosenType).
    of_type request found.name (first_order request.order found.order) request.terms in
    let unsaid : chosen request.subject c.args.pickle.now.bytes.items ≡ None =
    rw (sym c.deref.ensures.value) c.in-Err.ensures.err in
    usage_holds
    (λ requested. DueMapping (g.P.Opener.gives c.args.opener.now) c.args.why.now.asked requested request.over
    c.args.pickle.now.bytes.items) _ c.refuse.result _ _
    (ap (option_map type) unsaid) c.refuse.ensures (Keeps-refl _)

pub returns-in-Err-clause-says : goal.returns-in-Err-clause-says
returns-in-Err-clause-says g c = usage_explains _ _ _ c.refuse.result c.refuse.ensures

pub returns-in-Err-clause-told : goal.returns-in-Err-clause-told
returns-in-Err-clause-told g c = not_settled (Keeps-refl _)

pub returns-in-Ok-clause-told : goal.returns-in-Ok-clause-told
returns-in-Ok-clause-told g c =
    let request = c.args.request.now in
    let type = λ (found : ChosenType).
    of_type request found.name (first_order request.order found.order) request.terms in
    let mapped : of_mapping c.of_type-mapping.result ≡ type (chosen_type c.in-Ok.chosen) =
    c.of_type-mapping.ensures.request
    ∙ ap (λ order. of_type request c.in-Ok.chosen.name.now order request.terms) c.first_order-order.ensures in
    let said : chosen request.subject c.args.pickle.now.bytes.items ≡ Some (chosen_type c.in-Ok.chosen) =
    rw (sym c.deref.ensures.value) c.in-Ok.ensures.ok in
    tells_settled said (rw (sym mapped) c.map_over.ensures.told)

pub returns-in-Ok-clause-opened : goal.returns-in-Ok-clause-opened
returns-in-Ok-clause-opened g c =
    let request = c.args.request.now in
    let type = λ (found : ChosenType).
    of_type request found.name (first_order request.order found.order) request.terms in
    let mapped : of_mapping c.of_type-mapping.result ≡ type (chosen_type c.in-Ok.chosen) =
    c.of_type-mapping.ensures.request
    ∙ ap (λ order. of_type request c.in-Ok.chosen.name.now order request.terms) c.first_order-order.ensures in
    let said : chosen request.subject c.args.pickle.now.bytes.items ≡ Some (chosen_type c.in-Ok.chosen) =
    rw (sym c.deref.ensures.value) c.in-Ok.ensures.ok in
    any_explained (λ requested. ExplainsOver (g.P.Opener.gives c.args.opener.now) requested request.over
    c.args.pickle.now.bytes.items c.args.why.now.asked c.map_over.result _) _ (type (chosen_type c.in-Ok.chosen))
    (ap (option_map type) said) (rw (sym mapped) c.map_over.ensures.opened)

pub returns-in-Err-clause-opened : goal.returns-in-Err-clause-opened
returns-in-Err-clause-opened g c =
    let request = c.args.request.now in
    let type = λ (found : ChosenType).
    of_type request found.name (first_order request.order found.order) request.terms in
    let unsaid : chosen request.subject c.args.pickle.now.bytes.items ≡ None =
    rw (sym c.deref.ensures.value) c.in-Err.ensures.err in
    none_explained _ _ (ap (option_map type) unsaid)
