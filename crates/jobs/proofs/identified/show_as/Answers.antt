use Rattle.std.proofs.Common.{◌≡◌, ◌∙◌, Ok, Some, ap, subst}
use Rattle.jobs.specs.Aims.{IsAskAt, of_mapping, of_type}
use Rattle.jobs.specs.Chosen.{first_order}
use Rattle.jobs.specs.Identified.{as_due, of_documented}
use Rattle.jobs.specs.Spaces.{DueSpace}
use Rattle.jobs.specs.declared.ending.Ending.TheVariants.{Run}
use Rattle.jobs.proofs.Holding.{holds_more}
use Rattle.jobs.proofs.Mapped.{asked_over}
use Rattle.jobs.proofs.identified.show_as.Goals as goal

pub returns-clause-shows : goal.returns-clause-shows
returns-clause-shows g c =
    let request = c.args.request.now in
    let documented = c.args.documented.now in
    let mapped = c.map_space-outcome.ensures.maps in
    let terms = c.settle_terms.new.terms in
    let order = first_order request.order (Some c.args.order) in
    let same : of_mapping c.of_type-mapping.result ≡ of_documented request documented c.args.order =
    c.of_type-mapping.ensures.request
    ∙ ap (λ name. of_type request name c.first_order-order.result terms) c.deref.ensures.value
    ∙ ap (λ order. of_type request documented.name.items order terms) c.first_order-order.ensures
    ∙ ap (λ terms. of_type request documented.name.items order terms) c.settle_terms.ensures in
    record {
      after = mapped.after;
      failures = mapped.failures;
      holds = holds_more _ _ (Ok (Run c.map_space-outcome.result)) _ _
          (λ lines end due. as_due
          (subst (λ requested. IsAskAt requested.aim c.args.start (g.S.Space.view c.args.space.now).len c.ask_at.result)
          same (asked_over _ _ _ _ _ c.len.ensures c.ask_at.ensures))
          (subst (λ requested. DueSpace c.args.pickle.now.bytes.items c.ask_at.result requested.terms
          (g.S.Space.view c.args.space.now) mapped.after c.args.why.now.asked lines end) same due)) mapped.holds;
    }
