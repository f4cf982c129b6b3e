use Rattle.std.proofs.Common.{◌≤◌, ◌-◌, ◌∙◌, refl, subst, sym, arith}
use Rattle.std.proofs.lemmas.Option.{same_Some}
use Rattle.pickle_types.specs.TypeTable.{nodes_of}
use Rattle.pickle_meaning.specs.Values.{start_of, end_of, no_values}
use Rattle.poke_batch.specs.RunsUnder.{MapsUnder}
use Rattle.pickle_map.specs.Mapped.{prepared}
use Rattle.poke_batch.specs.TypeRuns.{run_type}
use Rattle.poke_batch.proofs.Mappings.{fault_says, run_to_fault, value_answers, root_given}
use Rattle.run_parts.proofs.Sayings.{ends_more, line_ends}
use Rattle.poke_batch.proofs.UnderTerms.{starts_before_end, told_under, fault_under, ends_under, light_of, stays_under}
use Rattle.poke_batch.proofs.run.map_stored.Goals as goal

pub tell_root-requires-clause-forward : goal.tell_root-requires-clause-forward
tell_root-requires-clause-forward g c =
    let run = c.args.run.now in
    let given = c.in-Ok.ensures.is.fits in
    λ value found.
    subst (λ v. start_of v ≤ end_of v) (same_Some given.value value (sym (root_given given) ∙ found))
    (starts_before_end _ (run_type run) no_values run.ask.now.start given.value given.holds)

pub returns-in-Ok-clause-ends : goal.returns-in-Ok-clause-ends
returns-in-Ok-clause-ends g c =
    let run = c.args.run.now in
    let ask = run.ask.now in
    let given = c.in-Ok.ensures.is.fits in
    let told = c.tell_root.ensures.tells given.value (root_given given) in
    let meter = c.new-meter.result in
    let limit = c.new-meter.ensures.limit in
    let unused = c.new-meter.ensures.steps in
    λ pickle asked.
    ends_more (told_under run pickle _ _ _ given.value c.in-Ok.ensures.is.len c.in-Ok.ensures.is.bytes
    c.in-Ok.ensures.is.failures c.tell_root.ensures.keeps.failures asked
    (value_answers (run_type run) ask.order ask.start ask.limit c.new-meter.result.limit c.new-meter.result.steps _ _ _
    (nodes_of run.table.now) c.map_with.new.store given.value c.new-meter.ensures.limit c.new-meter.ensures.steps
    c.in-Ok.ensures.is.value (root_given given))
    given.holds
    (light_of run.terms.now _ _ (prepared (run_type run) (g.S.Space.view c.args.space.now) c.clear.new.self).room
    (run_type run) ask _ (meter.limit - meter.steps) c.requires.store c.clear.ensures.empty refl
    (omega (arith, limit, unused)) c.in-Ok.ensures.is.weighed))
    told

pub returns-in-Ok-clause-store : goal.returns-in-Ok-clause-store
returns-in-Ok-clause-store g c =
    stays_under c.args.run.now.terms.now.most_slots c.args.run.now.terms.now.most_bytes _ _ _ c.requires.store
    c.clear.ensures.empty c.in-Ok.ensures.is.room

pub returns-in-Err-clause-store : goal.returns-in-Err-clause-store
returns-in-Err-clause-store g c =
    stays_under c.args.run.now.terms.now.most_slots c.args.run.now.terms.now.most_bytes _ _ _ c.requires.store
    c.clear.ensures.empty c.in-Err.ensures.is.room

pub returns-in-Err-clause-ends : goal.returns-in-Err-clause-ends
returns-in-Err-clause-ends g c =
    let run = c.args.run.now in
    let ask = run.ask.now in
    let fault = c.in-Err.fault in
    let meter = c.new-meter.result in
    let limit = c.new-meter.ensures.limit in
    let unused = c.new-meter.ensures.steps in
    λ pickle asked.
    line_ends _ c.end_under.result _
    (subst (MapsUnder pickle ask run.terms.now _ _) (sym c.end_under.ensures)
    (ends_under pickle ask run.terms.now _ _ fault.kind fault.at _ _
    (prepared (run_type run) (g.S.Space.view c.args.space.now) c.clear.new.self).room (meter.limit - meter.steps) asked
    c.clear.ensures.empty c.clear.ensures.fixed refl (omega (arith, limit, unused))
    c.in-Err.ensures.is.memory
    (λ memory bytes known kept light. c.in-Err.ensures.is.asked bytes known memory kept light)
    (fault_under pickle ask run.terms.now _ _ fault.kind fault.at
    (fault_says pickle ask _ _ (run_type run) fault.at meter.limit meter.steps _ _ _ limit unused asked fault.kind
    c.in-Err.ensures.is.fault
    (run_to_fault _ (run_type run) ask.order ask.start ask.limit meter c.map_with.new.meter
    (prepared (run_type run) (g.S.Space.view c.args.space.now) c.clear.new.self)
    c.map_with.new.store
    fault.kind fault.at limit unused c.new-meter.ensures.made c.in-Err.ensures.is.counts)
    c.in-Err.ensures.is.limit c.in-Err.ensures.is.place c.in-Err.ensures.is.device))
    c.requires.store))
